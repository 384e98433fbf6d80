use Rattle.std.proofs.Common.{◌≡◌, ◌<◌, length, sym, ap, ◌∙◌, arith, inl, inr}
use Rattle.std.proofs.lemmas.Bool.{cases_order}
use Rattle.std.proofs.lemmas.List.{get_or_read}
use Rattle.sqz_image.specs.Objects.{object_count}
use Rattle.sqz_trace.specs.declared.shades.Shade.TheVariants.{White, Grey}
use Rattle.sqz_trace.specs.Edges.{HasEdge}
use Rattle.sqz_trace.specs.Reachability.{graph_from}
use Rattle.sqz_trace.specs.Shades.{shade_at}
use Rattle.sqz_trace.proofs.MarkingLemmas.{whole_slice}
use Rattle.sqz_trace.proofs.GreyingLemmas.{Blackens-edges}
use Rattle.sqz_trace.proofs.ShadeLemmas.{grey-black}
use Rattle.sqz_trace.proofs.LawLemmas.{AreLawful-blackened, MarksReachable-finished, none_grey}
use Rattle.sqz_trace.proofs.FinishingLemmas.{unfinished_count, unfinished-blackened, less_to_do}
use Rattle.sqz_trace.proofs.finishing.finish.Goals as goal
use Rattle.sqz_trace.proofs.finishing.finish.Goals.{In-Grey}

-- the object is there
is_there : (c : In-Grey) → c.loop-object.object < length c.loop-object.shades.items
is_there c = omega (arith, c.loop-object-test.true, c.len.ensures.objects, c.loop-object.invariant.lawful.lawful.sized)

-- and is grey
is_grey : (c : In-Grey) → shade_at c.loop-object.shades.items c.loop-object.object ≡ Grey
is_grey c = sym (get_or_read _ _ _ (is_there c) c.index.ensures White) ∙ c.in-Grey.is

pub loop-object-smaller-in-Grey : goal.loop-object-smaller-in-Grey
loop-object-smaller-in-Grey c =
    let here = (goal.at.loop-object-smaller-in-Grey c).In-Grey in
    let object = c.loop-object.object in
    let old = c.loop-object.shades in
    let new = c.blacken-object.new.shades in
    let blackened = rw c.deref_mut.ensures.value at c.blacken-object.ensures.blackened in
    let step =
    Blackens-edges c.of.result c.args.heap.now c.args.weak object c.of.ensures
    (omega (arith, c.loop-object-test.true, c.len.ensures.objects)) old.items new blackened
    in
    let less =
    unfinished-blackened (HasEdge c.args.heap.now c.args.weak object) object old.items new (is_there here) (is_grey here) step in
    rw (whole_slice old.len new old.items step.sized old.ok.0)
    (less_to_do (object_count c.args.heap.now) (unfinished_count new) (unfinished_count old.items) object c.blacken-object.result less)

pub loop-object-preserved-in-Grey : goal.loop-object-preserved-in-Grey
loop-object-preserved-in-Grey c =
    let object = c.loop-object.object in
    let old = c.loop-object.shades in
    let new = c.blacken-object.new.shades in
    let so_far = c.loop-object.invariant in
    let law = so_far.lawful in
    let grey = is_grey (goal.at.loop-object-preserved-in-Grey c).In-Grey in
    let blackened = rw c.deref_mut.ensures.value at c.blacken-object.ensures.blackened in
    let step =
    Blackens-edges c.of.result c.args.heap.now c.args.weak object c.of.ensures
    (omega (arith, c.loop-object-test.true, c.len.ensures.objects)) old.items new blackened
    in
    let lowest = rw c.deref_mut.ensures.value at c.blacken-object.ensures.lowest in
    rw (whole_slice old.len new old.items step.sized old.ok.0)
    (record {
      lawful = record {
        start = law.start;
        is_special = law.is_special;
        lawful = AreLawful-blackened (graph_from law.start c.args.heap.now c.args.weak) object old.items new law.lawful grey step;
      };
      before = λ index lt is. elim (cases_order index object) [
        | inl same ↦ grey-black (sym is ∙ ap (shade_at new) same ∙ step.black)
        | inr (inl below) ↦ elim (step.only index) [
          | inl same ↦ absurd (omega arith)
          | inr (inl same) ↦ so_far.before index below (sym same ∙ is)
          | inr (inr (edge, white, grey)) ↦ lowest.none_below index lt (white, grey)
        ]
        | inr (inr above) ↦ absurd (omega (arith, lowest.no_higher))
      ];
    })

pub returns : goal.returns
returns c =
    let law = c.loop-object.invariant.lawful in
    let all = none_grey (graph_from law.start c.args.heap.now c.args.weak) c.loop-object.shades.items c.loop-object.object
    (omega (arith, c.loop-object-test.false, c.len.ensures.objects, law.lawful.sized)) c.loop-object.invariant.before in
    rw c.new.ensures
    (record {
      start = law.start;
      is_special = law.is_special;
      reached = MarksReachable-finished (graph_from law.start c.args.heap.now c.args.weak) c.loop-object.shades.items law.lawful all;
    })
