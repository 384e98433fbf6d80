use Rattle.std.proofs.Common.{ℕ, List, [], ◌∷◌, get_or, true≢false, sym, subst, ◌∙◌, arith}
use Rattle.std.proofs.lemmas.List.{get_or_default}
use Rattle.sqz_names.specs.declared.known.Known.{Known}
use Rattle.sqz_names.specs.declared.known.Known.TheVariants.{Nil, False, True, Smalltalk}
use Rattle.sqz_names.specs.Known.{IsKnown}
use Rattle.sqz_names.proofs.MethodLemmas.{below-more}
use Rattle.sqz_names.proofs.names.Names.known.Goals as goal

abbrev all : List Known
all = Nil ∷ False ∷ True ∷ Smalltalk ∷ []

pub loop-known-preserved : goal.loop-known-preserved
loop-known-preserved c k d lt =
    let memory = c.args.self.now.graph.heap.now in
    let weak = c.args.self.now.graph.weak in
    let object = c.args.object in
    let index = c.loop-known.known-index in
    below-more (λ (k : ℕ). (d : Known) → IsKnown memory weak (get_or all k d) object → ⊥) index
    (λ k before d is. c.loop-known.invariant k d before is)
    (λ d is.
    true≢false (sym (c.in_ok-is_known.ensures.complete
    (subst (λ (it : Known). IsKnown memory weak it object) (get_or_default all index d _ c.loop-known-test.true) is))
    ∙ c.if-branch.false))
    k lt d

pub returns-clause-complete : goal.returns-clause-complete
returns-clause-complete c none known is = by known is
  where
    by : (known : Known) → IsKnown c.args.self.now.graph.heap.now c.args.self.now.graph.weak known c.args.object → ⊥
    by Nil is = c.loop-known.invariant 0 Nil (omega (arith, c.loop-known-test.false)) is
    by False is = c.loop-known.invariant 1 False (omega (arith, c.loop-known-test.false)) is
    by True is = c.loop-known.invariant 2 True (omega (arith, c.loop-known-test.false)) is
    by Smalltalk is = c.loop-known.invariant 3 Smalltalk (omega (arith, c.loop-known-test.false)) is
