use Rattle.std.proofs.lemmas.Result.{err_from_is_err_and}
use Rattle.sqz_look_cli.proofs.ComparisonLemmas.{AreCompared-alike, AreCompared-other, IfNotThere-printing, IsSilent-compared}
use Rattle.sqz_look_cli.proofs.comparison.compare.Goals as goal
use Rattle.sqz_look_cli.proofs.comparison.compare.Goals.{then-is_alike, else-is_alike}

pub returns-in_err-is_alike-clause-compared : goal.returns-in_err-is_alike-clause-compared
returns-in_err-is_alike-clause-compared g c =
    let made = c.from_residual-in_err-is_alike in
    let p = err_from_is_err_and made.result made.ensures.1 in
    rw (p.1, p.2) (record { compared = tt; not_there = IfNotThere-printing _ c.in_err-is_alike.field-0.0 })

pub returns-clause-compared : goal.returns-clause-compared
returns-clause-compared g c =
    let old = c.in_ok-old_read in
    let new = c.in_ok-new_read in
    let says = c.in_ok-is_alike.ensures.alike in
    elim c.if-is_alike.branch [
      | then-is_alike w ↦
          rw w.result-is (record {
            compared = AreCompared-alike _ _ _ old.old_read new.new_read old.ensures.image new.ensures.image _ says w.if-is_alike.true;
            not_there = tt;
          })
      | else-is_alike w ↦
          rw w.result-is (record {
            compared = AreCompared-other _ _ _ old.old_read new.new_read old.ensures.image new.ensures.image _ says w.if-is_alike.false;
            not_there = tt;
          })
    ]

pub returns-clause-silent : goal.returns-clause-silent
returns-clause-silent g c =
    IsSilent-compared _ _ _ c.in_ok-old_read.old_read c.in_ok-new_read.new_read _ _ _ _ c.in_ok-old_read.ensures.read
    c.in_ok-new_read.ensures.read c.in_ok-is_alike.ensures.silent
