use Rattle.std.proofs.Common.{◌≡◌, ℕ, true, false, [], ◌++◌, Option, IfSome, below_more, sym, ap, subst, ◌∙◌, arith}
use Rattle.std.specs.List.{flat_map, range_with_len}
use Rattle.std.proofs.lemmas.List.{append-nil}
use Rattle.std.proofs.lemmas.Result.{err_from_is_err_and}
use Rattle.std.proofs.lemmas.Bool.{false≢true}
use Rattle.sqz_image.specs.Objects.{object_count}
use Rattle.sqz_trace.specs.Graph.{is_marked}
use Rattle.sqz_facts.proofs.RangeLemmas.{flat_map-next}
use Rattle.sqz_damage.specs.Dangling.{is_lost}
use Rattle.sqz_damage.specs.Patches.{patches_of, patches_at, patches_for, dangling_of}
use Rattle.sqz_damage.specs.Pushed.{nil_or_zero}
use Rattle.sqz_damage.proofs.NilLemmas.{patches_at-mark, nil-address, IsNilError-object, patches_inside}
use Rattle.sqz_damage.proofs.dangling.patches.nil_patches.Goals as goal
use Rattle.sqz_damage.proofs.dangling.patches.nil_patches.Goals.{then-has+in_ok-push_patches, else-has, After-loop-object}

pub returns-in_err-push_patches-clause-refused : goal.returns-in_err-push_patches-clause-refused
returns-in_err-push_patches-clause-refused c =
    let memory = c.args.live.now.graph.heap.now in
    let weak = c.args.live.now.graph.weak in
    let p = err_from_is_err_and c.from_residual.result c.from_residual.ensures.1 in
    rw (p.1, p.2)
    (IsNilError-object memory weak c.args.live.now.marks c.nil_address-nil.result c.loop-object.object c.in_err-push_patches.field-0.0
    c.nil_address-nil.ensures.nil (omega (arith, c.loop-object-test.true, c.len-object-end.ensures.objects))
    (sym c.has.ensures ∙ c.if-has.true) c.in_err-push_patches.ensures.refused)

pub loop-object-preserved : goal.loop-object-preserved
loop-object-preserved c =
    let memory = c.args.live.now.graph.heap.now in
    let weak = c.args.live.now.graph.weak in
    let marks = c.args.live.now.marks in
    let nil = nil_or_zero c.nil_address-nil.result in
    let object = c.loop-object.object in
    let here = patches_at memory weak marks nil in
    let before = flat_map here (range_with_len 0 object) in
    elim c.if-has.branch [
      | then-has+in_ok-push_patches w ↦
          let marked = patches_at-mark memory weak marks nil object true (sym c.has.ensures ∙ w.if-has.true) in
          record {
            pushed =
                ap (λ (v : _). v.items) w.patches-is
                ∙ w.in_ok-push_patches.ensures.pushed
                ∙ ap (λ items. items ++ patches_of memory weak nil object) c.loop-object.invariant.pushed
                ∙ ap (λ last. before ++ last) (sym marked)
                ∙ sym (flat_map-next here object);
            needed = λ none.
                below_more (λ index. is_marked marks index ≡ true → dangling_of memory weak index ≡ []) object
                (c.loop-object.invariant.needed none) (λ is. w.in_ok-push_patches.ensures.needed none);
          }
      | else-has w ↦
          let not_marked = sym c.has.ensures ∙ w.if-has.false in
          let unmarked = patches_at-mark memory weak marks nil object false not_marked in
          record {
            pushed =
                ap (λ (v : _). v.items) w.patches-is
                ∙ c.loop-object.invariant.pushed
                ∙ sym (append-nil before)
                ∙ ap (λ last. before ++ last) (sym unmarked)
                ∙ sym (flat_map-next here object);
            needed = λ none.
                below_more (λ index. is_marked marks index ≡ true → dangling_of memory weak index ≡ []) object
                (c.loop-object.invariant.needed none) (λ is. absurd (false≢true (sym not_marked ∙ is)));
          }
    ]

-- all patches
whole : (c : After-loop-object)
    → c.loop-object.patches.items
    ≡ patches_for c.args.live.now.graph.heap.now c.args.live.now.graph.weak c.args.live.now.marks (nil_or_zero c.nil_address-nil.result)
whole c =
    let end : c.loop-object.object ≡ object_count c.args.live.now.graph.heap.now =
    omega (arith, c.loop-object-test.false, c.loop-object.auto.object-end, c.len-object-end.ensures.objects)
    in
    rw end at c.loop-object.invariant.pushed

pub returns-clause-exact : goal.returns-clause-exact
returns-clause-exact c =
    let memory = c.args.live.now.graph.heap.now in
    let weak = c.args.live.now.graph.weak in
    let marks = c.args.live.now.marks in
    let nil = c.nil_address-nil.result in
    record {
      special =
          subst (λ (found : Option ℕ). IfSome found (λ index. is_lost memory weak index ≡ false)) (sym c.special.ensures.special)
          (sym c.is_lost.ensures ∙ c.if-is_lost.false);
      nil = nil_or_zero nil;
      is_nil =
          nil-address memory weak marks nil c.nil_address-nil.ensures.nil
          (λ none index lt.
          c.loop-object.invariant.needed none index
          (omega (arith, c.loop-object-test.false, c.len-object-end.ensures.objects)));
      exact = whole c;
    }

pub returns-clause-inside : goal.returns-clause-inside
returns-clause-inside c =
    rw (whole c)
    (patches_inside c.args.live.now.graph.heap.now c.args.live.now.graph.weak c.data-data.ensures.chunks c.args.live.now.marks (nil_or_zero c.nil_address-nil.result))
