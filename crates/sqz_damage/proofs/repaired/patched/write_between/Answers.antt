use Rattle.std.proofs.Common.{◌-◌, ◌<◌, ℕ, take, drop, subst, arith}
use Rattle.std.proofs.Common.{get_or}
use Rattle.std.proofs.lemmas.List.{length-take, length-drop}
use Rattle.std.proofs.lemmas.Slice.{drop-put_mid}
use Rattle.sqz_object.proofs.WordLemmas.{length-words_of}
use Rattle.sqz_damage.proofs.repaired.patched.write_between.Goals as goal

pub write_patches-requires : goal.write_patches-requires
write_patches-requires c =
    let bytes = take (c.args.range.end - c.args.range.start) (drop c.args.range.start c.args.file.now) in
    record {
      inside = λ k d within. subst (λ (n : ℕ). (get_or c.args.patches.now k d).word < n) (length-words_of c.args.order bytes)
          (c.requires.patches k d within);
    }

pub returns-clause-after : goal.returns-clause-after
returns-clause-after c =
    drop-put_mid c.args.range.start (c.args.range.end - c.args.range.start) c.args.file.now c.write_patches.new.bytes c.args.range.end
    (omega (arith, c.requires.ordered)) (omega (arith, c.requires.ordered, c.requires.inside)) (
    omega (
      arith,
      c.write_patches.ensures.len,
      c.requires.inside,
      length-take (c.args.range.end - c.args.range.start) (drop c.args.range.start c.args.file.now),
      length-drop c.args.range.start c.args.file.now,
    )
    )
