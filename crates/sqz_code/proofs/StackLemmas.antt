-- A stack that is not complete.
-- Serves `stack_from`.
use Rattle.std.proofs.Common.{◌≡◌, ◌∙◌, ◌<◌, ◌++◌, ℕ, Bool, true, false, List, [], ◌∷◌, length, get_or, Option, Some}
use Rattle.std.proofs.Common.{refl, sym, ap, subst, arith}
use Rattle.std.specs.Prelude.{All, IfSome, slice_set, sum_by}
use Rattle.std.proofs.lemmas.List.{append_assoc, append-nil, length-set}
use Rattle.std.proofs.lemmas.List.Elements.{All-nil, All-push}
use Rattle.std.proofs.lemmas.List.Sums.{sum_by-set}
use Rattle.sqz_image.specs.Objects.{Memory, object_count}
use Rattle.sqz_trace.specs.Graph.{is_marked}
use Rattle.sqz_code.specs.Contexts.{sender}
use Rattle.sqz_code.specs.Stacks.{IsStack, with_all}

-- 1 for an object that is not listed
abbrev pub unlisted : Bool → ℕ
unlisted true = 0
unlisted false = 1

-- the first contexts of a stack, what is listed after them, and the context after them
pub record AreFirst (memory : Memory) (before : List Bool) (first : Option ℕ) (listed : List Bool) (next : Option ℕ) (contexts : List ℕ) : Type 0 where
  pub sized : length listed ≡ object_count memory
  pub inside : IfSome next (λ context. context < object_count memory)
  pub contexts_inside : All (λ context. context < object_count memory) contexts
  pub are_listed : listed ≡ with_all before contexts
  pub complete : (rest : List ℕ) (meets : Option ℕ) → IsStack memory listed next rest meets
      → IsStack memory before first (contexts ++ rest) meets

with_all-push : (listed : List Bool) (contexts : List ℕ) (context : ℕ)
    → with_all listed (contexts ++ context ∷ []) ≡ slice_set (with_all listed contexts) context true
with_all-push listed [] context = refl
with_all-push listed (other ∷ contexts) context = with_all-push (slice_set listed other true) contexts context

module _ (memory : Memory) (before : List Bool) (first : Option ℕ) where
  -- no context yet
  pub AreFirst-none : length before ≡ object_count memory → IfSome first (λ context. context < object_count memory)
      → AreFirst memory before first before first []
  AreFirst-none sized inside = record {
    sized = sized;
    inside = inside;
    contexts_inside = All-nil (λ context. context < object_count memory);
    are_listed = refl;
    complete = λ rest meets is. is;
  }

  -- one more context
  pub AreFirst-more : (listed : List Bool) (context : ℕ) (contexts : List ℕ) → AreFirst memory before first listed (Some context) contexts
      → is_marked listed context ≡ false → IfSome (sender memory context) (λ found. found < object_count memory)
      → AreFirst memory before first (slice_set listed context true) (sender memory context) (contexts ++ context ∷ [])
  AreFirst-more listed context contexts are new inside = record {
    sized = length-set listed context true ∙ are.sized;
    inside = inside;
    contexts_inside = All-push (λ it. it < object_count memory) contexts context are.contexts_inside are.inside;
    are_listed = ap (λ (l : List Bool). slice_set l context true) are.are_listed ∙ sym (with_all-push before contexts context);
    complete = λ rest meets is.
        subst (λ (all : List ℕ). IsStack memory before first all meets) (sym (append_assoc contexts (context ∷ []) rest))
        (are.complete (context ∷ rest) meets (refl, new, is));
  }

  -- all contexts
  pub IsStack-whole : (listed : List Bool) (next : Option ℕ) (contexts : List ℕ) → AreFirst memory before first listed next contexts
      → IfSome next (λ context. is_marked listed context ≡ true) → IsStack memory before first contexts next
  IsStack-whole listed next contexts are meets =
      subst (λ (all : List ℕ). IsStack memory before first all next) (append-nil contexts) (are.complete [] next (refl, meets))

-- one object fewer is not listed
pub fewer_unlisted : (listed : List Bool) (context : ℕ) → context < length listed → get_or listed context false ≡ false
    → sum_by unlisted (slice_set listed context true) < sum_by unlisted listed
fewer_unlisted listed context inside new =
    let set = sum_by-set unlisted listed context true false inside in
    let one = ap unlisted new in
    omega (arith, set, one)
