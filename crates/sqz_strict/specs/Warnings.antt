-- The warnings about the objects of an image.
use Rattle.std.specs.Prelude.{◌≡◌, ℕ, ◌&&◌, Bool, if◌then◌else◌, List, [], ◌∷◌, ◌++◌, Option, Some, None}
use Rattle.std.specs.List.{flat_map, range_with_len}
use Rattle.sqz_image.specs.Objects.{Memory, object_count}
use Rattle.sqz_trace.specs.declared.weak.Weak.{Weak}
use Rattle.sqz_trace.specs.Avoiding.{MarksListed}
use Rattle.sqz_trace.specs.Graph.{is_marked}
use Rattle.sqz_strict.specs.declared.class_shape.ClassShape.{ClassShape}
use Rattle.sqz_strict.specs.declared.warning.Warning.{Warning}
use Rattle.sqz_strict.specs.declared.warning.Warning.TheVariants.{Shape, NoClass, NoMethodDictionary, MethodDictionary, NoKey}
use Rattle.sqz_strict.specs.declared.warnings.ObjectSets.{ObjectSets}
use Rattle.sqz_strict.specs.Shapes.{misfit}
use Rattle.sqz_strict.specs.Sets.{class_list, dictionary_list, pool_list, array_list, element_list, is_class, is_short, has_no_key}
use Rattle.sqz_strict.specs.Sets.{has_no_class, lacks_methods}

-- the object that a warning is about
abbrev pub object_of : Warning → ℕ
object_of (Shape object stated) = object
object_of (NoClass object) = object
object_of (NoMethodDictionary object) = object
object_of (MethodDictionary object) = object
object_of (NoKey object) = object

abbrev pub shape_warnings : ℕ → Option ClassShape → List Warning
shape_warnings object None = []
shape_warnings object (Some stated) = Shape object stated ∷ []

abbrev pub one_if : Bool → Warning → List Warning
one_if test warning = if test then warning ∷ [] else []

-- the warnings about an object, by the sets of classes, of method dictionaries and of associations
abbrev pub warnings_of : Memory → Weak → List Bool → ObjectSets → ℕ → List Warning
warnings_of memory weak marks sets object =
    one_if (has_no_class memory weak object) (NoClass object)
    ++ shape_warnings object (misfit memory weak object)
    ++ one_if (is_class memory weak marks sets.classes object && lacks_methods memory object) (NoMethodDictionary object)
    ++ one_if (is_marked sets.dictionaries object && is_short memory object) (MethodDictionary object)
    ++ one_if (is_marked sets.associations object && has_no_key memory object) (NoKey object)

abbrev pub warnings_at : Memory → Weak → List Bool → ObjectSets → ℕ → List Warning
warnings_at memory weak marks sets index = if is_marked marks index then warnings_of memory weak marks sets index else []

-- the warnings about all marked objects, by object
abbrev pub all_warnings : Memory → Weak → List Bool → ObjectSets → List Warning
all_warnings memory weak marks sets = flat_map (warnings_at memory weak marks sets) (range_with_len 0 (object_count memory))

-- these warnings, by the method dictionaries of all classes and the associations of all variables
pub record AreWarnings (memory : Memory) (weak : Weak) (marks : List Bool) (warnings : List Warning) : Type 0 where
  pub sets : ObjectSets
  pub are_classes : MarksListed (object_count memory) (class_list memory weak marks) sets.classes
  pub are_dictionaries : MarksListed (object_count memory) (dictionary_list memory weak marks sets.classes) sets.dictionaries
  pub pools : List Bool
  pub are_pools : MarksListed (object_count memory) (pool_list memory weak marks sets.classes) pools
  pub arrays : List Bool
  pub are_arrays : MarksListed (object_count memory) (array_list memory pools) arrays
  pub are_associations : MarksListed (object_count memory) (element_list memory arrays) sets.associations
  pub exact : warnings ≡ all_warnings memory weak marks sets
