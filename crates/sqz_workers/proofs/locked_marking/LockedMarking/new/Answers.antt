use Rattle.std.proofs.Common.{◌≡◌, ◌∙◌, refl, sym, subst, arith}
use Rattle.std.proofs.lemmas.Option.{same_Some}
use Rattle.sqz_image.specs.Objects.{Memory, object_count}
use Rattle.sqz_trace.specs.Shades.{AreLawfulOf}
use Rattle.sqz_workers.proofs.TurnLemmas.{white_count-first}
use Rattle.sqz_workers.proofs.locked_marking.LockedMarking.new.Goals as goal

pub invariant_of-result : goal.invariant_of-result
invariant_of-result g c =
    let first = c.in_ok-shades.ensures.first in
    let start : first.start ≡ c.special.result = same_Some _ _ (sym first.is_special ∙ c.special.ensures.special) in
    let white = white_count-first (object_count c.args.heap.now) first.start (omega (arith, start, c.special.ensures.inside)) in
    let sized = (c.in_ok-shades.ensures.lawful g.M.MarkedMemory.weak).lawful.sized in
    let whites = rw (← first.are) at white in (
      c.requires.heap,
      c.requires.weak,
      subst (λ (memory : Memory). AreLawfulOf memory g.M.MarkedMemory.weak c.in_ok-shades.shades.items) c.requires.heap
          (c.in_ok-shades.ensures.lawful g.M.MarkedMemory.weak),
      rw (c.in_ok-push.ensures.items, c.in_ok-list.ensures.items)
          (omega (
            arith,
            whites,
            sized,
            c.in_ok-shades.shades.ok.0,
            c.len.ensures,
            c.in_ok-list.ensures.capacity,
            c.in_ok-push.ensures.capacity,
          )),
    )

pub returns-clause-begun : goal.returns-clause-begun
returns-clause-begun g c =
    let first = c.in_ok-shades.ensures.first in
    let start : c.special.result ≡ first.start = same_Some _ _ (sym c.special.ensures.special ∙ first.is_special) in
    record {
      first = first;
      alone = rw (c.in_ok-push.ensures.items, c.in_ok-list.ensures.items, start) refl;
    }
