use Rattle.std.proofs.Common.{ℕ, List, set, get_or, sym, ap, ◌∙◌}
use Rattle.sqz_object.specs.Bytes.{words_of}
use Rattle.sqz_damage.specs.declared.dangling.patch.Patch.{Patch}
use Rattle.sqz_damage.specs.Patches.{nil_patch}
use Rattle.sqz_damage.proofs.PatchLemmas.{patched-take}
use Rattle.sqz_damage.proofs.dangling.writing.write_patches.Goals as goal

-- the default of a read
abbrev none : Patch
none = nil_patch 0 0

pub loop-patch-preserved : goal.loop-patch-preserved
loop-patch-preserved c =
    let patches = c.args.patches.now in
    let i = c.loop-patch.patch-index in
    let patch = get_or patches i none in
    record {
      words =
          c.write_patch.ensures.words
          ∙ ap (λ (ws : List ℕ). set ws patch.word patch.value) c.loop-patch.invariant.words
          ∙ sym (patched-take (words_of c.args.order c.args.bytes.now) patches i none c.loop-patch-test.true);
      rest = (rw c.loop-patch.auto.bytes at c.write_patch.ensures.rest) ∙ c.loop-patch.invariant.rest;
    }
