-- Labels of strings, symbols and other objects.
-- Serves `labels::Names::label_of` and `labelled::is_labelled`.
use Rattle.std.proofs.Common.{◌≡◌, ◌⊎◌, ℕ, List, Option, Some, None, true, true≢false, codes, refl, sym, ap, ◌∙◌, inl, inr}
use Rattle.std.specs.Str.{bytes_eq}
use Rattle.std.proofs.lemmas.Bool.{cases_Bool}
use Rattle.std.proofs.lemmas.Option.{none-some, same_Some}
use Rattle.std.proofs.lemmas.Slice.Eq.{bytes_eq-Decides}
use Rattle.sqz_image.specs.Objects.{Memory}
use Rattle.sqz_trace.specs.declared.weak.Weak.{Weak}
use Rattle.sqz_names.specs.declared.label.Label.{Label}
use Rattle.sqz_names.specs.declared.label.Label.TheVariants.{SpecialObjects, Known, Class, Metaclass, Method, Global, ClassVariable, String, Symbol, Other}
use Rattle.sqz_names.specs.Labels.{IsLabel, IsText}
use Rattle.sqz_names.specs.LabelOrder.{IsFirst, IsTextLabel, IsUnplaced}
use Rattle.sqz_names.specs.Structures.{class_name_of, is_bytes}
use Rattle.sqz_names.specs.Texts.{begins_as_text, HasOnlyLabel}

pub IsFirst-text : (memory : Memory) (weak : Weak) (object : ℕ) (label : Label) → IsUnplaced memory weak object
    → IsTextLabel memory weak object label → IsFirst memory weak object label
IsFirst-text memory weak object String is_not is =
    (is_not.not_special, is_not.not_known, is_not.no_class, is_not.no_method, is_not.no_variable)
IsFirst-text memory weak object Symbol is_not is =
    (is_not.not_special, is_not.not_known, is_not.no_class, is_not.no_method, is_not.no_variable)
IsFirst-text memory weak object Other is_not is =
    (is_not.not_special, is_not.not_known, is_not.no_class, is_not.no_method, is_not.no_variable, is)
IsFirst-text memory weak object SpecialObjects is_not is = absurd is
IsFirst-text memory weak object (Known known) is_not is = absurd is
IsFirst-text memory weak object Class is_not is = absurd is
IsFirst-text memory weak object Metaclass is_not is = absurd is
IsFirst-text memory weak object (Method class selector) is_not is = absurd is
IsFirst-text memory weak object (Global key) is_not is = absurd is
IsFirst-text memory weak object (ClassVariable class key) is_not is = absurd is

-- ---- objects without a name by their place

module _ (memory : Memory) (weak : Weak) (object : ℕ) where
  -- a label of what the object is
  record HasTextLabel : Type 0 where
    label : Label
    is_label : IsLabel memory weak object label
    is_text : IsTextLabel memory weak object label

  -- no bytes, or no class
  other_label : ((one other : List ℕ) → IsText memory weak one other object → ⊥) → HasTextLabel
  other_label never = record {
    label = Other;
    is_label = tt;
    is_text = record {
      not_string = never (codes "String") (codes "ByteString");
      not_symbol = never (codes "Symbol") (codes "ByteSymbol");
    };
  }

  -- a name is one of two, or neither
  one_of_two : (name one other : List ℕ) → class_name_of memory weak object ≡ Some name → is_bytes memory object ≡ true
      → IsText memory weak one other object ⊎ (IsText memory weak one other object → ⊥)
  one_of_two name one other named bytes =
      elim (cases_Bool (bytes_eq name one)) [
        | inl same ↦ inl (record {
          is_text = bytes;
          has_class = inl (named ∙ ap (λ (it : List ℕ). Some it) ((bytes_eq-Decides name one).0 same));
        })
        | inr differs ↦ elim (cases_Bool (bytes_eq name other)) [
          | inl same ↦ inl (record {
            is_text = bytes;
            has_class = inr (named ∙ ap (λ (it : List ℕ). Some it) ((bytes_eq-Decides name other).0 same));
          })
          | inr others ↦ inr (λ is. elim is.has_class [
            | inl has ↦ true≢false (sym ((bytes_eq-Decides name one).1 (same_Some _ _ (sym named ∙ has))) ∙ differs)
            | inr has ↦ true≢false (sym ((bytes_eq-Decides name other).1 (same_Some _ _ (sym named ∙ has))) ∙ others)
          ])
        ]
      ]

  named_label : (name : List ℕ) → class_name_of memory weak object ≡ Some name → is_bytes memory object ≡ true → HasTextLabel
  named_label name named bytes =
      elim (one_of_two name (codes "String") (codes "ByteString") named bytes) [
        | inl is ↦ record { label = String; is_label = is; is_text = tt }
        | inr not_string ↦ elim (one_of_two name (codes "Symbol") (codes "ByteSymbol") named bytes) [
          | inl is ↦ record { label = Symbol; is_label = is; is_text = tt }
          | inr not_symbol ↦ record {
            label = Other;
            is_label = tt;
            is_text = record { not_string = not_string; not_symbol = not_symbol };
          }
        ]
      ]

  by_class : (name : Option (List ℕ)) → class_name_of memory weak object ≡ name → is_bytes memory object ≡ true → HasTextLabel
  by_class None unnamed bytes =
      other_label (λ one other is. elim is.has_class [
        | inl has ↦ none-some one (sym unnamed ∙ has)
        | inr has ↦ none-some other (sym unnamed ∙ has)
      ])
  by_class (Some name) named bytes = named_label name named bytes

  has_text_label : HasTextLabel
  has_text_label =
      elim (cases_Bool (is_bytes memory object)) [
        | inl bytes ↦ by_class (class_name_of memory weak object) refl bytes
        | inr no_bytes ↦ other_label (λ one other is. true≢false (sym is.is_text ∙ no_bytes))
      ]

  -- its label begins as that of a string or a symbol, or is its class and its address
  begins : (words : List ℕ) → HasOnlyLabel memory weak object words → IsUnplaced memory weak object
      → (label : Label) → IsLabel memory weak object label → IsTextLabel memory weak object label → begins_as_text words ≡ true
  begins words only is_not String is_label is =
      ap begins_as_text (only String is_label (IsFirst-text memory weak object String is_not is)).1
  begins words only is_not Symbol is_label is =
      ap begins_as_text (only Symbol is_label (IsFirst-text memory weak object Symbol is_not is)).1
  begins words only is_not Other is_label is =
      absurd ((only Other is_label (IsFirst-text memory weak object Other is_not is)).0 refl)
  begins words only is_not SpecialObjects is_label is = absurd is
  begins words only is_not (Known known) is_label is = absurd is
  begins words only is_not Class is_label is = absurd is
  begins words only is_not Metaclass is_label is = absurd is
  begins words only is_not (Method class selector) is_label is = absurd is
  begins words only is_not (Global key) is_label is = absurd is
  begins words only is_not (ClassVariable class key) is_label is = absurd is

  pub begins_as_text-only : (words : List ℕ) → HasOnlyLabel memory weak object words → IsUnplaced memory weak object
      → begins_as_text words ≡ true
  begins_as_text-only words only is_not =
      let its = has_text_label in begins words only is_not its.label its.is_label its.is_text
