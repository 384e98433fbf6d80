use Rattle.std.proofs.Common.{◌≡◌, ◌∙◌, ◌<◌, ℕ, List, length, get_or, sym, ap, subst}
use Rattle.std.specs.List.{concat}
use Rattle.std.proofs.lemmas.Option.{same_Some}
use Rattle.sqz_object.specs.declared.order.Order.{Order}
use Rattle.sqz_image.specs.File.{data_of, image_bytes}
use Rattle.sqz_damage.specs.declared.dangling.patch.Patch.{Patch}
use Rattle.sqz_damage.specs.Damaged.{HasSoundWords, words_there}
use Rattle.sqz_damage.specs.Repairs.{IsFinding, ArePatchesOf}
use Rattle.sqz_damage.proofs.RepairLemmas.{ArePatchesOf-unsound}
use Rattle.sqz_damage.proofs.repaired.repairing.repair.Goals as goal

pub patched-bytes-requires-clause-inside : goal.patched-bytes-requires-clause-inside
patched-bytes-requires-clause-inside g c =
    let file = c.args.file.items in
    let found : ArePatchesOf c.args.weak file c.in_ok-found.found.size c.in-Some.patches.items =
    rw c.in-Some.is at
    (subst (λ (bytes : List ℕ). IsFinding c.args.weak bytes c.in_ok-found.found) c.deref-2.ensures.value c.in_ok-found.ensures.found)
    in
    let header = subst (λ (bytes : List ℕ). HasSoundWords bytes c.in_ok-header.header) c.deref.ensures.value
    c.in_ok-header.ensures.header in
    let parts = found.holds.parts in
    let words : concat found.image.memory.chunks ≡ words_there file c.in_ok-header.header =
    parts.chunks.whole
    ∙ ap (λ (order : Order). data_of order (image_bytes file)) (same_Some _ _ (sym parts.order ∙ header.is_header.order))
    in
    subst
    (λ (patches : List Patch). (k : ℕ) (d : Patch) → k < length patches
    → (get_or patches k d).word < length (words_there file c.in_ok-header.header))
    (sym c.deref-3.ensures.value)
    (subst
    (λ (taken : _). (k : ℕ) (d : Patch) → k < length taken.items
    → (get_or taken.items k d).word < length (words_there file c.in_ok-header.header))
    (sym c.in-Some.patches-is)
    (λ k d within. subst (λ (n : ℕ). (get_or c.in-Some.patches.items k d).word < n) (ap length words) (found.inside k d within)))

pub returns-in-Ok-clause-unharmed : goal.returns-in-Ok-clause-unharmed
returns-in-Ok-clause-unharmed g c =
    let file = c.args.file.items in
    let found : ArePatchesOf c.args.weak file c.in_ok-found.found.size c.in-Some.patches.items =
    rw c.in-Some.is at
    (subst (λ (bytes : List ℕ). IsFinding c.args.weak bytes c.in_ok-found.found) c.deref-2.ensures.value c.in_ok-found.ensures.found)
    in
    λ sound. absurd (ArePatchesOf-unsound c.args.weak file _ _ found sound)
