-- What slots lead to is live.
-- Serves `seen::seen_target` and `WalkLemmas`, `FoundLemmas`.
use Rattle.std.proofs.Common.{◌≡◌, ℕ, Bool, true, List, [], Option, Some, None, refl, sym, ap, ◌∙◌, IfSome}
use Rattle.std.specs.Prelude.{option_and_then}
use mathlib.Core.Bool.{Bool-set}
use Rattle.std.proofs.Math.Logic.{∥∥₁_elim}
use Rattle.std.proofs.lemmas.Option.{same_Some}
use Rattle.sqz_image.specs.declared.slot.Slot.TheVariants.{Field}
use Rattle.sqz_image.specs.Objects.{Memory, objects, find}
use Rattle.sqz_image.proofs.ObjectLemmas.{find_in-lt}
use Rattle.sqz_trace.specs.declared.weak.Weak.{Weak}
use Rattle.sqz_trace.specs.Edges.{nil, strong_target}
use Rattle.sqz_trace.specs.Graph.{is_marked}
use Rattle.sqz_trace.specs.Reachability.{graph_from, IsReachability}
use Rattle.sqz_trace.proofs.ReachabilityLemmas.{IsClosed-reachable}

module _ (memory : Memory) (weak : Weak) (marks : List Bool) where
  -- nil is live: the special objects array points to it
  nil_marked : (object : ℕ) → nil memory weak ≡ Some object → IsReachability memory weak marks → is_marked marks object ≡ true
  nil_marked object is reached =
      let points : strong_target memory weak reached.start (Field 0) ≡ Some object =
      ap (option_and_then (λ special. strong_target memory weak special (Field 0))) (sym reached.is_special) ∙ is in
      (IsClosed-reachable (graph_from reached.start memory weak) marks reached.reached).along reached.start object
      (reached.reached.complete reached.start (record { path = []; leads = refl }))
      (record {
        inside = find_in-lt memory.base (objects memory) memory.special reached.start reached.is_special;
        slot = Field 0;
        names = points;
      })

  pub nil_is_live : ∥ IsReachability memory weak marks ∥₁ → (found : Option ℕ) → found ≡ nil memory weak
      → IfSome found (λ object. is_marked marks object ≡ true)
  nil_is_live reached None is = tt
  nil_is_live reached (Some object) is = ∥∥₁_elim reached (Bool-set _ _) (nil_marked object (sym is))

  special_marked : (object : ℕ) → find memory memory.special ≡ Some object → IsReachability memory weak marks → is_marked marks object ≡ true
  special_marked object is reached =
      let same : reached.start ≡ object = same_Some _ _ (sym reached.is_special ∙ is) in
      reached.reached.complete object (record { path = []; leads = same })

  -- the special objects array is live
  pub special_is_live : ∥ IsReachability memory weak marks ∥₁ → (object : ℕ) → find memory memory.special ≡ Some object
      → is_marked marks object ≡ true
  special_is_live reached object is = ∥∥₁_elim reached (Bool-set _ _) (special_marked object is)
