use Rattle.std.proofs.Common.{◌≡◌, ◌<◌, ◌∙◌, ℕ, suc, ◌+◌, List, ◌++◌, Option, Some, None, option_to_list, ap, sym, arith}
use Rattle.std.proofs.lemmas.List.{append-nil}
use Rattle.std.proofs.lemmas.List.Elements.{All-push}
use Rattle.sqz_image.specs.Objects.{object_count}
use Rattle.sqz_alike.specs.declared.growth.Growth.{Growth}
use Rattle.sqz_alike.specs.declared.holder.Holder.{Holder}
use Rattle.sqz_alike.specs.Holders.{holder_at, holders_below}
use Rattle.sqz_alike.proofs.holders.find_holders.Goals as goal
use Rattle.sqz_alike.proofs.holders.find_holders.Goals.{in-Some+in_ok-push, in_default}

-- one more object
below-more : (growth : Growth) (object : ℕ) (rows : List Holder) (holder : Option Holder) → rows ≡ holders_below growth object
    → holder ≡ holder_at growth object → rows ++ option_to_list holder ≡ holders_below growth (object + 1)
below-more growth object rows holder e is =
    let one : suc object ≡ object + 1 = omega arith in
    ap (λ (xs : List Holder). xs ++ option_to_list holder) e
    ∙ ap (λ (o : Option Holder). holders_below growth object ++ option_to_list o) is
    ∙ ap (holders_below growth) one

pub loop-object-preserved : goal.loop-object-preserved
loop-object-preserved c =
    let growth = c.args.growth.now in
    let count = object_count growth.live.now.graph.heap.now in
    let object = c.loop-object.object in
    let before = c.loop-object.found.items in
    let invariant = c.loop-object.invariant in
    elim c.match-holder.branch [
      | in-Some+in_ok-push w ↦
          let holder = w.in-Some.holder in
          let is_object : holder.object ≡ object = rw w.in-Some.is at c.holder.ensures.object in
          let low : object < count = omega arith in
          record {
            rows = rw (w.found-is, w.in_ok-push.ensures.items)
                (below-more growth object before (Some holder) invariant.rows (sym w.in-Some.is ∙ c.holder.ensures.holder));
            inside = rw (w.found-is, w.in_ok-push.ensures.items)
                (All-push (λ (h : Holder). h.object < count) before holder invariant.inside (omega (arith, is_object, low)));
          }
      | in_default w ↦
          record {
            rows = rw w.found-is (sym (append-nil before)
                ∙ below-more growth object before None invariant.rows (sym w.in_default.is ∙ c.holder.ensures.holder));
            inside = rw w.found-is invariant.inside;
          }
    ]
