use Rattle.std.proofs.Common.{◌∙◌, sym}
use Rattle.sqz_damage.proofs.NearLemmas.{only-none, only-first, only-second, only-last}
use Rattle.sqz_damage.proofs.places.near.only_near.Goals as goal
use Rattle.sqz_damage.proofs.places.near.only_near.Goals.{in-Some+else-is_some, in_default}

pub returns-then-is_some-clause-near : goal.returns-then-is_some-clause-near
returns-then-is_some-clause-near c =
    let second = only-second c.args.heap.now c.args.classes c.args.word c.loop-bit.bit c.loop-bit.found c.in-Some.object c.loop-bit-test.true
    (sym c.is_some.ensures ∙ c.if-is_some.true) (sym c.object_near.ensures.near ∙ c.in-Some.is) in
    sym second ∙ c.loop-bit.invariant.near

pub loop-bit-preserved : goal.loop-bit-preserved
loop-bit-preserved c =
    let memory = c.args.heap.now in
    elim c.match-object_near.branch [
      | in-Some+else-is_some w ↦
          let first = only-first memory c.args.classes c.args.word c.loop-bit.bit c.loop-bit.found w.in-Some.object c.loop-bit-test.true
          (sym w.is_some.ensures ∙ w.if-is_some.false) (sym c.object_near.ensures.near ∙ w.in-Some.is) in
          rw w.found-is
          record { near = sym first ∙ c.loop-bit.invariant.near; inside = w.in-Some.ensures.inside }
      | in_default w ↦
          let none = only-none memory c.args.classes c.args.word c.loop-bit.bit c.loop-bit.found c.loop-bit-test.true
          (sym c.object_near.ensures.near ∙ w.in_default.is) in
          rw w.found-is
          record { near = sym none ∙ c.loop-bit.invariant.near; inside = c.loop-bit.invariant.inside }
    ]

pub returns-clause-near : goal.returns-clause-near
returns-clause-near c =
    sym (only-last c.args.heap.now c.args.classes c.args.word c.loop-bit.bit c.loop-bit.found c.loop-bit-test.false) ∙ c.loop-bit.invariant.near
