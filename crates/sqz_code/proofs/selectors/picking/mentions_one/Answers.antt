use Rattle.std.proofs.Common.{◌≡◌, List, ℕ, sym, subst, ◌∙◌, rules, tests}
use Rattle.std.specs.Prelude.{Contains}
use Rattle.std.specs.List.{list_any}
use Rattle.std.proofs.lemmas.List.Folds.{Any-from_list_any, list_any-from_Any}
use Rattle.std.proofs.lemmas.Iterator.{YieldsList-from_slice}
use Rattle.std.proofs.lemmas.Iterator.Search.{any_from_yields_List}
use Rattle.sqz_trace.specs.Graph.{is_marked}
use Rattle.sqz_code.proofs.MentionLemmas.{one_mentioned}
use Rattle.sqz_code.proofs.selectors.picking.mentions_one.Goals as goal

pub returns : goal.returns
returns c =
    let mentioned = c.in_ok-mentioned.mentioned.items in
    let has_mark = is_marked c.args.objects.now in
    let found : c.any.result ≡ list_any has_mark mentioned =
    any_from_yields_List has_mark _ _ c.any.result c.any.ensures.ran
    (YieldsList-from_slice mentioned (c.iter.ensures.rest ∙ c.deref.ensures.value)) (λ x b q k. search (rules, tests))
    in (
      λ is.
          let some = Any-from_list_any has_mark mentioned (sym found ∙ is) in
          record {
            object = some.1;
            is_one = some.4;
            mentions = record {
              mentioned = mentioned;
              are_mentioned = c.in_ok-mentioned.ensures;
              has = (some.0, some.2, some.3);
            };
          },
      λ one.
          let same = one_mentioned c.args.heap.now c.args.method one.mentions.mentioned mentioned one.mentions.are_mentioned c.in_ok-mentioned.ensures in
          let has = subst (λ (l : List ℕ). Contains l one.object) same one.mentions.has in
          found ∙ list_any-from_Any has_mark mentioned (has.0, one.object, has.1, has.2, one.is_one),
    )
