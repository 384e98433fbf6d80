-- Patches one by one.
-- Serves `writing::write_patches`.
use Rattle.std.proofs.Common.{◌≡◌, ℕ, ◌+◌, ◌<◌, List, [], ◌∷◌, ◌++◌, length, take, set, get_or, refl, ap, ◌∙◌}
use Rattle.std.proofs.lemmas.List.{take_more}
use Rattle.sqz_damage.specs.declared.dangling.patch.Patch.{Patch}
use Rattle.sqz_damage.specs.Patches.{patched}

-- one patch more
patched-push : (words : List ℕ) (patches : List Patch) (patch : Patch)
    → patched words (patches ++ patch ∷ []) ≡ set (patched words patches) patch.word patch.value
patched-push words [] patch = refl
patched-push words (one ∷ patches) patch = patched-push (set words one.word one.value) patches patch

-- the words with the first patches written
pub patched-take : (words : List ℕ) (patches : List Patch) (i : ℕ) (none : Patch) → i < length patches
    → patched words (take (i + 1) patches)
    ≡ set (patched words (take i patches)) (get_or patches i none).word (get_or patches i none).value
patched-take words patches i none lt =
    ap (patched words) (take_more patches i none lt) ∙ patched-push words (take i patches) (get_or patches i none)
