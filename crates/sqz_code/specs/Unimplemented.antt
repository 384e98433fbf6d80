-- Selectors that are sent, and that no method has.
use Rattle.std.specs.Prelude.{◌≡◌, ℕ, Bool, not, List, map, filter}
use Rattle.sqz_image.specs.Objects.{Memory}
use Rattle.sqz_trace.specs.Graph.{is_marked}
use Rattle.sqz_names.specs.declared.method_name.MethodName.{MethodName}
use Rattle.sqz_code.specs.declared.selectors.unimplemented.Unimplemented.{Unimplemented}
use Rattle.sqz_code.specs.Mentions.{AreSent}
use Rattle.sqz_code.specs.Joins.{AreJoined}

-- those of the selectors that a method sends which are not marked, each with the method
abbrev pub unimplemented_in : List Bool → MethodName → List ℕ → List Unimplemented
unimplemented_in implemented name sent =
    map (λ selector. record { selector = selector; sender = name }) (filter (λ selector. not (is_marked implemented selector)) sent)

-- those that a method sends
pub record AreUnimplementedIn (memory : Memory) (implemented : List Bool) (name : MethodName) (found : List Unimplemented) : Type 0 where
  pub sent : List ℕ
  pub are_sent : AreSent memory name.method sent
  pub are : found ≡ unimplemented_in implemented name sent

-- those that some methods send, one method after the other
abbrev pub AreUnimplemented : Memory → List Bool → List MethodName → List Unimplemented → Type 0
AreUnimplemented memory implemented names found = AreJoined (AreUnimplementedIn memory implemented) names found
