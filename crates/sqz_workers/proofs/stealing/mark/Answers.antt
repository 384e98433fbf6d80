use Rattle.std.proofs.Common.{sum, sym, ap, subst, ◌∙◌, rules}
use Rattle.sqz_image.specs.Objects.{Memory, object_count}
use Rattle.sqz_regions.specs.Regions.{Regioning}
use Rattle.sqz_marks.specs.declared.view.View.{View}
use Rattle.sqz_marks.specs.Table.{HasCountedAll}
use Rattle.sqz_workers.specs.Gains.{HasGained, HasGainedSome, HasScannedAll}
use Rattle.sqz_workers.proofs.GainLemmas.{HasCountedAll-gained}
use Rattle.sqz_workers.proofs.RemainingLemmas.{AreClosed-of, HasEnded-by}
use Rattle.sqz_workers.proofs.stealing.mark.Goals as goal

pub close-requires-clause-counted : goal.close-requires-clause-counted
close-requires-clause-counted g c =
    let first = subst (λ (view : View). HasCountedAll view) (sym c.in_ok-table.ensures.pass.1) (λ object won. won) in
    let shared = c.run_team.new.team.pass.now in let won = c.run_team.new.team.won.now in
    let gained : HasGained c.in_ok-table.pass shared (sum won) = c.run_team.ensures.gained in
    let rest : HasGainedSome shared c.scan_remaining.new.pass = search rules in
    HasCountedAll-gained shared c.scan_remaining.new.pass rest.objects rest.gained
    (HasCountedAll-gained c.in_ok-table.pass shared (sum won) gained first)

pub of_closed-requires : goal.of_closed-requires
of_closed-requires g c =
    let table = c.in_ok-table.ensures.table in
    let memory = ap (λ (h : Regioning). h.memory) table.0 ∙ c.requires in
    let last = c.scan_remaining.new.pass in
    let shared = c.run_team.new.team.pass.now in let won = c.run_team.new.team.won.now in
    let gained : HasGained c.in_ok-table.pass shared (sum won) = c.run_team.ensures.gained in
    let rest : HasGainedSome shared last = search rules in
    let scanned = subst (λ (m : Memory). HasScannedAll (object_count m) last.view) memory c.scan_remaining.ensures.scanned in
    HasEnded-by _ _ c.in_ok-table.pass shared last won _ _
    (AreClosed-of last.view c.in-Ok.closed.shades.items memory table.1 c.in-Ok.ensures.closed) scanned gained rest (search rules)
