use Rattle.std.proofs.Common.{◌≡◌, ◌∙◌, ◌++◌, ◌∷◌, [], Vec, Global, arith, ap, sym, take, List, Option, Some, None}
use Rattle.std.specs.BTreeMap.{get}
use Rattle.std.specs.List.{filter_map}
use Rattle.std.proofs.lemmas.List.{append-nil}
use Rattle.sqz_alike.specs.declared.matching.Pair.{Pair}
use Rattle.sqz_changes.specs.declared.named.Named.{Named}
use Rattle.sqz_changes.specs.Named.{both, known, named_pair, objects_of, only}
use Rattle.sqz_changes.proofs.ListLemmas.{take-item}
use Rattle.sqz_changes.proofs.NamedLemmas.{filter_map-more, known-single}
use Rattle.sqz_changes.proofs.named.named_pairs.Goals as goal
use Rattle.sqz_changes.proofs.named.named_pairs.Goals.{in-Some+in_ok-push-in-Some, in-None}

pub loop-named-preserved : goal.loop-named-preserved
loop-named-preserved g c =
    let N = g.row.N.Denot in
    let listed : List (Named g.row.N.Denot) = c.args.old.now in
    let others : List (Named g.row.N.Denot) = c.args.new.now in
    let named : Named g.row.N.Denot = c.named-item.result in
    let xs : List (Named g.row.N.Denot) = take c.loop-named.named-index listed in
    let h : Named g.row.N.Denot → Option Pair = λ named. named_pair g.N.Ord.cmp listed others named.name in
    let more = ap (filter_map h)
    (take-item listed c.loop-named.named-index named (omega (arith, c.loop-named-test.true, c.loop-named.auto.named-index-end)) c.named-item.is) in
    let old = ap known (c.in_ok-olds.ensures named.name) ∙ known-single (objects_of g.N.Ord.cmp named.name listed) in
    let new = ap known (c.in_ok-news.ensures named.name) ∙ known-single (objects_of g.N.Ord.cmp named.name others) in
    let found : c.pair_of.result ≡ h named =
    c.pair_of.ensures
    ∙ ap (λ (o : Option _). both o (known (get g.N.Ord.cmp c.in_ok-news.news named.name))) old
    ∙ ap (both (only (objects_of g.N.Ord.cmp named.name listed))) new in
    let items = λ (v : Vec Pair Global). v.items in
    elim c.match-pair_of.branch [
      | in-Some+in_ok-push-in-Some w ↦
          ap items w.pairs-is
          ∙ w.in_ok-push-in-Some.ensures.items
          ∙ ap (λ (ps : List Pair). ps ++ w.in-Some.pair ∷ []) c.loop-named.invariant
          ∙ sym (filter_map-more h xs named (Some w.in-Some.pair) (sym found ∙ w.in-Some.is))
          ∙ sym more
      | in-None w ↦
          ap items w.pairs-is
          ∙ c.loop-named.invariant
          ∙ sym (append-nil (filter_map h xs))
          ∙ sym (filter_map-more h xs named None (sym found ∙ w.in-None.is))
          ∙ sym more
    ]
