use Rattle.std.proofs.Common.{arith}
use Rattle.std.proofs.lemmas.Grind.{common_steps}
use Rattle.sqz_names.proofs.CategoryLemmas.{first_among-more}
use Rattle.sqz_names.proofs.categories.places_in.Goals as goal
use Rattle.sqz_names.proofs.categories.places_in.Goals.{in-Some-field_target+in_ok-places, in_default-field_target}

pub loop-place-preserved : goal.loop-place-preserved
loop-place-preserved c = λ listed.
    let more = first_among-more c.args.heap.now c.in-Some.array listed c.loop-place.place in
    elim c.match-field_target.branch [
      | in-Some-field_target+in_ok-places w ↦ grind (arith, common_steps, c.loop-place.invariant listed, more)
      | in_default-field_target w ↦ grind (arith, common_steps, c.loop-place.invariant listed, more)
    ]
