-- An image without a global variable that has the organizer of the classes.
-- Serves `categories`.
use Rattle.std.proofs.Common.{ℕ, ◌<◌, List, length, get_or, All, Contains, refl, subst, inl, inr}
use Rattle.std.proofs.Math.Logic.{∥∥₁_map}
use Rattle.std.specs.Prelude.{◌⊎◌, Option, Some, None, false}
use Rattle.sqz_image.specs.Objects.{Memory}
use Rattle.sqz_trace.specs.declared.weak.Weak.{Weak}
use Rattle.sqz_names.specs.declared.variable_name.VariableName.{VariableName}
use Rattle.sqz_names.specs.Categories.{organization_name, HasNoOrganization, HasVariableLabel, IsAlsoOfClass, IsNoOrganization}
use Rattle.sqz_names.specs.Names.{IsVariableName, ListsVariables}
use Rattle.sqz_names.specs.Structures.{HasText}

module _ (memory : Memory) (weak : Weak) (variables : List VariableName) (are : All (IsVariableName memory weak) variables)
    (all : ListsVariables memory weak variables)
    (none : (k : ℕ) (d : VariableName) → k < length variables → IsNoOrganization memory weak (get_or variables k d)) where
  module _ (association key : ℕ) (named : HasText memory organization_name key) where
    name : Option ℕ → VariableName
    name class = record { association = association; class = class; key = key }

    -- a listed global variable with the name has the label of something else, and any other is of a class
    hidden : (class : Option ℕ) → Contains variables (name class)
        → HasVariableLabel memory weak association false ⊎ IsAlsoOfClass memory weak association key
    unfolding name
    hidden None (k, inside, at) = inl (subst (IsNoOrganization memory weak) at (none k (name None) inside) refl named)
    hidden (Some class) (k, inside, at) =
        let is : IsVariableName memory weak (name (Some class)) =
        subst (IsVariableName memory weak) at (are k (name (Some class)) inside)
        in
        inr (record { class = class; is_class = is.of_class.1; has = is.is })

  -- no listed variable is the one
  pub HasNoOrganization-listed : HasNoOrganization memory weak
  unfolding name
  HasNoOrganization-listed association key is named =
      ∥∥₁_map (all None tt association key is) (λ listed. hidden association key named listed.class listed.has)
