-- The edges of a copy: each strong slot of a copied object points to the copy of the original
-- slot's target, so the edges of the copy are those of the original.
-- Serves `CorrespondenceLemmas` of `sqz_tool`.
use Rattle.std.proofs.Common.{◌≡◌, ℕ, Bool, true, false, List, Option, Some, None, refl, sym, ap, ◌∙◌}
use Rattle.std.specs.Prelude.{option_map}
use Rattle.std.proofs.lemmas.Option.{none-some, same_Some}
use Rattle.sqz_image.specs.Objects.{Memory}
use Rattle.sqz_trace.specs.declared.weak.Weak.{Weak}
use Rattle.sqz_trace.specs.Edges.{strong_target, HasEdge}
use Rattle.sqz_trace.specs.Graph.{is_marked}
use Rattle.sqz_trace.specs.Reachability.{IsReachability}
use Rattle.sqz_trace.specs.Defects.{first_defect, lacks_nil}
use Rattle.sqz_trace.proofs.CopyLemmas.{IsCopy, HasEdge-named, HasEdge-marked, strong_target-copy}

module _ (memory copy : Memory) (weak : Weak) (marks : List Bool) (new : ℕ → ℕ) (is : IsCopy memory copy marks new)
    (reachable : IsReachability memory weak marks) (has_nil : lacks_nil memory weak ≡ false)
    (sound : first_defect memory weak marks ≡ None) where
  -- each edge of an object's copy is that of an edge, to the copy of a marked object
  pub HasEdge-copied : (i u : ℕ) → is_marked marks i ≡ true → HasEdge copy weak (new i) u
      → (t : ℕ) × (is_marked marks t ≡ true) × HasEdge memory weak i t × (new t ≡ u)
  HasEdge-copied i u m edge = by_found (strong_target memory weak i edge.slot) refl
    where
      mapped : option_map new (strong_target memory weak i edge.slot) ≡ Some u
      mapped = sym (strong_target-copy memory copy weak marks new is reachable has_nil sound i edge.slot m) ∙ edge.names

      by_found : (found : Option ℕ) → strong_target memory weak i edge.slot ≡ found
          → (t : ℕ) × (is_marked marks t ≡ true) × HasEdge memory weak i t × (new t ≡ u)
      by_found None e = absurd (none-some u (sym (ap (option_map new) e) ∙ mapped))
      by_found (Some t) e =
          let its = HasEdge-named memory weak marks reachable i t edge.slot m e in
          (t, HasEdge-marked memory weak marks reachable i t m its, its, same_Some (new t) u (sym (ap (option_map new) e) ∙ mapped))
