-- Objects that words name.
-- Serves `lookup`, `objects`, `classes` and `named`.
use Rattle.std.proofs.Common.{◌≡◌, ◌<◌, ◌++◌, ℕ, Bool, true, List, codes, set, inl, inr}
use Rattle.std.proofs.Math.Logic.{∥∥₁_map}
use Rattle.sqz_image.specs.Objects.{Memory, object_count}
use Rattle.sqz_trace.specs.declared.weak.Weak.{Weak}
use Rattle.sqz_trace.specs.Graph.{is_marked}
use Rattle.sqz_trace.proofs.MarkingLemmas.{is_marked-keeps, is_marked-more}
use Rattle.sqz_names.specs.Names.{IsMethodNamed}
use Rattle.sqz_names.specs.Texts.{HasLabel, HasOnlyLabel, HasShortLabel}
use Rattle.sqz_names.specs.Words.{AreNamed, IsClassCalled, IsIn, IsNamed, IsSurelyNamed}

module _ (memory : Memory) (weak : Weak) (words : List ℕ) where
  -- a class is an object
  pub IsClassCalled-inside : (class : ℕ) → IsClassCalled memory weak words class → class < object_count memory
  IsClassCalled-inside class (inl is) = is.inside
  IsClassCalled-inside class (inr is) = is.inside

  module _ (object : ℕ) where
    pub IsNamed-class : IsClassCalled memory weak words object → IsNamed memory weak words object
    IsNamed-class is = ∣ inl is ∣₁

    pub IsNamed-method : ∥ IsMethodNamed memory weak words object ∥₁ → IsNamed memory weak words object
    IsNamed-method is = ∥∥₁_map is (λ it. inr (inl it))

    pub IsNamed-label : HasLabel memory weak object words → IsNamed memory weak words object
    IsNamed-label is = ∣ inr (inr (inl is)) ∣₁

    pub IsNamed-addressed : (label digits : List ℕ) → words ≡ label ++ (codes " " ++ digits) → IsIn memory digits object
        → HasShortLabel memory weak object label → IsNamed memory weak words object
    IsNamed-addressed label digits split is_in has =
        ∣ inr (inr (inr (record { label = label; digits = digits; split = split; is_in = is_in; has_label = has }))) ∣₁

  -- all objects were looked at
  pub AreNamed-all : (set : List Bool)
      → ((object : ℕ) → is_marked set object ≡ true → IsNamed memory weak words object)
      → ((object : ℕ) → IsMethodNamed memory weak words object → is_marked set object ≡ true)
      → ((object : ℕ) → object < object_count memory → IsClassCalled memory weak words object → is_marked set object ≡ true)
      → ((object : ℕ) → object < object_count memory → HasOnlyLabel memory weak object words → is_marked set object ≡ true)
      → AreNamed memory weak words set
  AreNamed-all set sound methods classes labelled = record {
    sound = sound;
    complete = surely;
  }
    where
      surely : (object : ℕ) → object < object_count memory → IsSurelyNamed memory weak words object → is_marked set object ≡ true
      surely object inside (inl is) = classes object inside is
      surely object inside (inr (inl is)) = methods object is
      surely object inside (inr (inr is)) = labelled object inside is

  -- one object more
  pub AreNamed-more : (set' : List Bool) (object : ℕ) → AreNamed memory weak words set' → IsNamed memory weak words object
      → AreNamed memory weak words (set set' object true)
  AreNamed-more set' object are is = record {
    sound = is_marked-more (λ (it : ℕ). IsNamed memory weak words it) set' object are.sound is;
    complete = λ it inside surely. is_marked-keeps set' object it (are.complete it inside surely);
  }
