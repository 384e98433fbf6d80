use Rattle.std.proofs.Common.{◌≡◌, sym, rules}
use Rattle.sqz_trace.specs.declared.shades.Shade.TheVariants.{Grey}
use Rattle.sqz_trace.specs.Reachability.{graph_from}
use Rattle.sqz_trace.specs.Shades.{shade_at, AreLawfulOf}
use Rattle.sqz_trace.proofs.MarkingLemmas.{whole_slice}
use Rattle.sqz_trace.proofs.LawLemmas.{AreLawful-blackened}
use Rattle.sqz_workers.proofs.TurnLemmas.{AreLawfulOf-same}
use Rattle.sqz_workers.proofs.locked_marking.LockedMarking.turn.Goals as goal

pub invariant_of-self-in-Grey-1 : goal.invariant_of-self-in-Grey-1
invariant_of-self-in-Grey-1 g c =
    let memory = c.self.inside.heap.now in let weak = c.self.inside.weak in
    let same_memory = c.self.invariant.0 in let same_weak = c.self.invariant.1 in
    let old = c.self.inside.shades in
    let new = c.blacken_listed.new.shades in
    let step = rw c.deref_mut.ensures.value at c.blacken_listed.ensures.blackened in
    let grey : shade_at c.self.inside.shades.items c.in-Some.object ≡ Grey = search rules in
    let law = AreLawfulOf-same c.self.inside.shades.items (sym same_memory) (sym same_weak) c.self.invariant.2 in
    let next : AreLawfulOf memory weak c.blacken_listed.new.shades =
    record {
      start = law.start;
      is_special = law.is_special;
      lawful = AreLawful-blackened (graph_from law.start memory weak) c.in-Some.object old.items new law.lawful grey step;
    }
    in
    rw (whole_slice old.len new old.items step.sized old.ok.0)
    (same_memory, same_weak, AreLawfulOf-same new same_memory same_weak next, c.blacken_listed.ensures.room)
