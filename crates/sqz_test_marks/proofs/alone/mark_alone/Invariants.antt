use Rattle.sqz_image.specs.Objects.{object_count}
use Rattle.sqz_test_marks.specs.Passes.{IsLater, AreSeen}
use Rattle.sqz_test_marks.proofs.alone.mark_alone.Given as goal

abbrev pub invariant-loop : goal.invariant-loop
invariant-loop l = record { later : IsLater l.initial.pass l.pass; listed : AreSeen (object_count l.heap) l.pass.view l.won.items }
