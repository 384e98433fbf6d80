use Rattle.std.proofs.Common.{◌≡◌, ◌∙◌, ◌+◌, ◌-◌, ◌*◌, ℕ, List, length, take, drop, sym, ap, subst, arith}
use Rattle.sqz_object.specs.Bytes.{words_of}
use Rattle.sqz_damage.specs.Patches.{patched}
use Rattle.sqz_damage.specs.Damaged.{words_there}
use Rattle.sqz_damage.proofs.repaired.patched.patch.Goals as goal

pub returns-clause-patched : goal.returns-clause-patched
returns-clause-patched c =
    let order = c.args.header.now.order in
    let offset = c.args.header.now.offset in
    let start = c.of-range.result.start in
    let end = c.of-range.result.end in
    let old = c.args.file.now in
    let new = c.write_between.new.file in
    let words = words_there old c.args.header.now in
    let at = c.of-range.ensures.start in
    let to = c.of-range.ensures.end in
    let size : end - start ≡ 4 * length words = omega (arith, to) in
    let on : offset + 64 + 4 * length words ≡ end = omega (arith, at, to) in
    record {
      sized = c.write_between.ensures.sized;
      before = subst (λ (n : ℕ). take n new ≡ take n old) at c.write_between.ensures.before;
      words =
          ap (λ (n : ℕ). words_of order (take n (drop (offset + 64) new))) (sym size)
          ∙ ap (λ (n : ℕ). words_of order (take (end - start) (drop n new))) (sym at)
          ∙ c.write_between.ensures.words
          ∙ ap (λ (ws : List ℕ). patched ws c.args.patches.now) c.of-range.ensures.words;
      rest =
          ap (λ (n : ℕ). drop n new) on ∙ c.write_between.ensures.after ∙ ap (λ (n : ℕ). drop n old) (sym on);
    }
