use Rattle.std.proofs.Common.{◌-◌, drop, arith}
use Rattle.std.proofs.lemmas.List.{length-take, length-drop}
use Rattle.std.proofs.lemmas.Slice.{drop-put_mid}
use Rattle.sqz_damage.proofs.mend.mending.fill.Goals as goal

pub returns-clause-after : goal.returns-clause-after
returns-clause-after c =
    drop-put_mid c.args.range.start (c.args.range.end - c.args.range.start) c.args.file.now c.fill_gaps.new.bytes c.args.range.end
    (omega (arith, c.requires.ordered)) (omega (arith, c.requires.ordered, c.requires.inside)) (
    omega (
      arith,
      c.fill_gaps.ensures.len,
      c.requires.inside,
      length-take (c.args.range.end - c.args.range.start) (drop c.args.range.start c.args.file.now),
      length-drop c.args.range.start c.args.file.now,
    )
    )
