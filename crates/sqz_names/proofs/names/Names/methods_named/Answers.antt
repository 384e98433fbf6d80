use Rattle.std.proofs.Common.{◌≡◌, ◌≤◌, ◌++◌, ℕ, List, length, drop, codes, Bor, refl, ap, inl, inr, ◌∙◌, arith}
use Rattle.std.proofs.Math.Logic.{∥∥₁_map}
use Rattle.std.proofs.lemmas.Bool.{cases_lt}
use Rattle.std.proofs.lemmas.List.{drop_at}
use Rattle.std.proofs.lemmas.Option.{MatchOption-at_some, MatchOption-at_none}
use Rattle.std.proofs.lemmas.Result.{IfOk-weaker}
use Rattle.std.proofs.lemmas.Str.Pattern.{split_text_parts}
use Rattle.sqz_names.proofs.MethodLemmas.{AreMethodsNamed-none, IsMethodNamed-under, IsMethodUnder-named}
use Rattle.sqz_names.proofs.names.Names.methods_named.Goals as goal

pub returns-in-None-clause-named : goal.returns-in-None-clause-named
returns-in-None-clause-named c =
    let parts = MatchOption-at_none _ _ c.in-None.is
    (split_text_parts (codes ">>") c.args.name.now c.split_once.result c.split_once.ensures.cases) in
    IfOk-weaker c.empty.result _ _
    (λ set is. rw is (AreMethodsNamed-none c.args.self.now.graph.heap.now c.args.self.now.graph.weak c.args.name.now parts _))
    c.empty.ensures

pub returns-in-Some-clause-named : goal.returns-in-Some-clause-named
returns-in-Some-clause-named c =
    let memory = c.args.self.now.graph.heap.now in
    let weak = c.args.self.now.graph.weak in
    let name : List ℕ = c.args.name.now in
    let class_text : List ℕ = c.in-Some.class.now in
    let selector_text : List ℕ = c.in-Some.selector.now in
    let found = MatchOption-at_some _ _ _ c.in-Some.is c.split_once.ensures.cases in
    let parts = MatchOption-at_some _ _ _ c.in-Some.is (split_text_parts (codes ">>") name c.split_once.result c.split_once.ensures.cases) in
    let split : name ≡ class_text ++ (codes ">>" ++ selector_text) = rw (c.in-Some.class-is, c.in-Some.selector-is) parts in
    let long : length class_text ≡ found.0 = ap (λ (it : Bor (List ℕ)). length it.now) c.in-Some.class-is ∙ found.6 in
    let is_first : (before after : List ℕ) → name ≡ before ++ (codes ">>" ++ after) → length class_text ≤ length before =
    λ before after is.
    elim (cases_lt (length before) (length class_text)) [
      | inl shorter ↦
          absurd (found.2.0 (length before) (omega (arith, shorter, long)) after
          (ap (drop (length before)) is ∙ drop_at before (codes ">>" ++ after) (length before) refl))
      | inr le ↦ le
    ] in
    IfOk-weaker c.methods_under.result _ _
    (λ set under. record {
      sound = λ method marked.
          ∥∥₁_map (under.sound method marked) (IsMethodNamed-under memory weak name class_text selector_text split is_first method);
      complete = λ method is.
          under.complete method (IsMethodUnder-named memory weak name class_text selector_text split is_first method is);
    })
    c.methods_under.ensures.methods
