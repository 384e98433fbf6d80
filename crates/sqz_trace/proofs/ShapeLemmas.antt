-- The shape of an object: what its headers say, how many fields it has, and which of them hold
-- which SmallIntegers.
-- Serves `CopyLemmas`; `CopiedLemmas` and `MovedShapeLemmas` of `sqz_slide`.
use Rattle.std.proofs.Common.{◌≡◌, ◌⊎◌, ℕ, ◌+◌, ◌%◌, Bool, true, false, ◌&&◌, cond, eqb}
use Rattle.std.proofs.Common.{List, [], ◌∷◌, length, slice_index}
use Rattle.std.proofs.Common.{refl, sym, ap, ◌∙◌, arith, inl, inr}
use Rattle.std.specs.Prelude.{option_map}
use Rattle.std.specs.Prelude.{pos}
use Rattle.sqz_object.specs.declared.value.Value.TheVariants.{Pointer, Odd}
use Rattle.sqz_object.specs.Value.{base_of, value_of}
use Rattle.sqz_object.specs.Chunk.{chunk_kind, base_word, compact_index, fields, header_type}
use Rattle.sqz_object.specs.declared.layout.Layout.{Layout}
use Rattle.sqz_object.specs.declared.layout.Layout.TheVariants.{Fields, Weak as WeakFields, Context, Words, Bytes, Method}
use Rattle.sqz_object.specs.Layout.{layout_of, layout, is_weak_layout}
use Rattle.sqz_object.proofs.ChunkLemmas.{type_of, type_of-kind_of}
use Rattle.sqz_trace.specs.declared.weak.Weak.{Weak}
use Rattle.sqz_trace.specs.declared.weak.Weak.TheVariants.{Keep, Clear}
use Rattle.sqz_trace.specs.Slots.{traced_of, traced, stack_pointer, fields_to_top, context_fields, literals_of}
use Rattle.sqz_trace.specs.Slots.{method_fields, clip}
use Rattle.sqz_trace.specs.Strong.{is_weak, fixed_in, fixed_fields}
use Rattle.sqz_trace.specs.Defects.{lacks_class, states_too_many, is_bad_method_in, is_bad_method, is_bad_context_in, is_bad_context}

-- a word in the place of another: the same, or neither is an integer
abbrev pub IsAlike : ℕ → ℕ → Type 0
IsAlike word new = (word ≡ new) ⊎ ((word % 2 ≡ 0) × (new % 2 ≡ 0))

-- an object's words in the place of another's: headers that say the same, and as many fields, each alike
pub record IsShapedAs (chunk new : List ℕ) : Type 0 where
  pub kind : chunk_kind new ≡ chunk_kind chunk
  pub base : base_word new ≡ base_word chunk
  pub sized : length (fields new) ≡ length (fields chunk)
  pub alike : (k : ℕ) → IsAlike (slice_index (fields chunk) k) (slice_index (fields new) k)

-- ---- what words alike state

-- words alike state one number of fixed fields
fixed_in-alike : (word new : ℕ) → IsAlike word new → fixed_in new ≡ fixed_in word
fixed_in-alike word new (inl same) = ap fixed_in (sym same)
fixed_in-alike word new (inr (even, even_new)) = rw (even_new, even) refl

-- and one number of literals
literals_of-alike : (word new : ℕ) → IsAlike word new → literals_of new ≡ literals_of word
literals_of-alike word new (inl same) = ap literals_of (sym same)
literals_of-alike word new (inr (even, even_new)) = rw (even_new, even) refl

-- a word that is no integer states no stack pointer
stack_pointer-even : (word : ℕ) → word % 2 ≡ 0 → stack_pointer (value_of word) ≡ pos 0
stack_pointer-even word even = rw even (by_test (eqb (word % 4) 0))
  where
    by_test : (test : Bool) → stack_pointer (cond test (Pointer word) (Odd word)) ≡ pos 0
    by_test true = refl
    by_test false = refl

-- and one stack pointer
stack_pointer-alike : (word new : ℕ) → IsAlike word new → stack_pointer (value_of new) ≡ stack_pointer (value_of word)
stack_pointer-alike word new (inl same) = ap (λ w. stack_pointer (value_of w)) (sym same)
stack_pointer-alike word new (inr (even, even_new)) = stack_pointer-even new even_new ∙ sym (stack_pointer-even word even)

-- fields alike state one number of fixed fields
fixed_fields-alike : (one other : List ℕ) → length other ≡ length one → IsAlike (slice_index one 2) (slice_index other 2)
    → fixed_fields other ≡ fixed_fields one
fixed_fields-alike [] [] sized alike = refl
fixed_fields-alike (a ∷ []) (b ∷ []) sized alike = refl
fixed_fields-alike (a ∷ x ∷ []) (b ∷ y ∷ []) sized alike = refl
fixed_fields-alike (a ∷ x ∷ word ∷ one) (b ∷ y ∷ new ∷ other) sized alike = fixed_in-alike word new alike
fixed_fields-alike _ _ sized alike = absurd (omega arith)

-- one number of a context's fields
context_fields-alike : (one other : List ℕ) → length other ≡ length one → IsAlike (slice_index one 2) (slice_index other 2)
    → context_fields other ≡ context_fields one
context_fields-alike [] [] sized alike = refl
context_fields-alike (a ∷ []) (b ∷ []) sized alike = refl
context_fields-alike (a ∷ x ∷ []) (b ∷ y ∷ []) sized alike = refl
context_fields-alike (a ∷ x ∷ word ∷ one) (b ∷ y ∷ new ∷ other) sized alike =
    ap fields_to_top (stack_pointer-alike word new alike)
context_fields-alike _ _ sized alike = absurd (omega arith)

-- and one number of a method's
method_fields-alike : (one other : List ℕ) → length other ≡ length one → IsAlike (slice_index one 0) (slice_index other 0)
    → method_fields other ≡ method_fields one
method_fields-alike [] [] sized alike = refl
method_fields-alike (word ∷ one) (new ∷ other) sized alike =
    ap (option_map (λ count. 1 + count)) (literals_of-alike word new alike)
method_fields-alike _ _ sized alike = absurd (omega arith)

-- ---- what the shape of an object tells

-- alike fields with one layout: as many of them are traced
traced_of-alike : (laid : Layout) (one other : List ℕ) → length other ≡ length one
    → context_fields other ≡ context_fields one → method_fields other ≡ method_fields one
    → traced_of laid other ≡ traced_of laid one
traced_of-alike Fields one other sized context method = sized
traced_of-alike WeakFields one other sized context method = sized
traced_of-alike Context one other sized context method = ap (clip _) sized ∙ ap (λ stated. clip stated (length one)) context
traced_of-alike Words one other sized context method = refl
traced_of-alike (Bytes unused) one other sized context method = refl
traced_of-alike Method one other sized context method = ap (clip _) sized ∙ ap (λ stated. clip stated (length one)) method

-- both are those of a bad method, or neither
is_bad_method_in-alike : (laid : Layout) (one other : List ℕ) → length other ≡ length one
    → method_fields other ≡ method_fields one → is_bad_method_in laid other ≡ is_bad_method_in laid one
is_bad_method_in-alike Fields one other sized method = refl
is_bad_method_in-alike WeakFields one other sized method = refl
is_bad_method_in-alike Context one other sized method = refl
is_bad_method_in-alike Words one other sized method = refl
is_bad_method_in-alike (Bytes unused) one other sized method = refl
is_bad_method_in-alike Method one other sized method =
    ap (states_too_many _) sized ∙ ap (λ stated. states_too_many stated (length one)) method

-- both are those of a bad context, or neither
is_bad_context_in-alike : (laid : Layout) (one other : List ℕ) → length other ≡ length one
    → context_fields other ≡ context_fields one → is_bad_context_in laid other ≡ is_bad_context_in laid one
is_bad_context_in-alike Fields one other sized context = refl
is_bad_context_in-alike WeakFields one other sized context = refl
is_bad_context_in-alike Context one other sized context =
    ap (states_too_many _) sized ∙ ap (λ stated. states_too_many stated (length one)) context
is_bad_context_in-alike Words one other sized context = refl
is_bad_context_in-alike (Bytes unused) one other sized context = refl
is_bad_context_in-alike Method one other sized context = refl

-- what four parts determine, of the same parts
pub same_by_parts : {A B C D X : Type 0} (f : A → B → C → D → X) (a x : A) (b y : B) (c z : C) (d w : D)
    → a ≡ x → b ≡ y → c ≡ z → d ≡ w → f a b c d ≡ f x y z w
same_by_parts f a x b y c z d w p q r s = cc

module _ (chunk new : List ℕ) (is : IsShapedAs chunk new) where
  -- the fields state one number of fixed fields
  pub fixed_fields-shaped : fixed_fields (fields new) ≡ fixed_fields (fields chunk)
  fixed_fields-shaped = fixed_fields-alike (fields chunk) (fields new) is.sized (is.alike 2)

  -- one number of a context's fields
  context_fields-shaped : context_fields (fields new) ≡ context_fields (fields chunk)
  context_fields-shaped = context_fields-alike (fields chunk) (fields new) is.sized (is.alike 2)

  -- and one number of a method's
  method_fields-shaped : method_fields (fields new) ≡ method_fields (fields chunk)
  method_fields-shaped = method_fields-alike (fields chunk) (fields new) is.sized (is.alike 0)

  -- the layout is the same
  layout-shaped : layout new ≡ layout chunk
  layout-shaped = ap (λ base. layout_of (base_of base)) is.base

  -- as many fields are traced
  pub traced-shaped : traced new ≡ traced chunk
  traced-shaped =
      ap (λ laid. traced_of laid (fields new)) layout-shaped
      ∙ traced_of-alike (layout chunk) (fields chunk) (fields new) is.sized context_fields-shaped method_fields-shaped

  -- both are weak, or neither
  pub is_weak-shaped : (weak : Weak) → is_weak weak new ≡ is_weak weak chunk
  is_weak-shaped Keep = refl
  is_weak-shaped Clear = ap is_weak_layout layout-shaped

  -- the compact index is the same
  pub compact_index-shaped : compact_index new ≡ compact_index chunk
  compact_index-shaped = ap (λ base. (base_of base).compact) is.base

  -- so is the type of the first header word
  header_type-shaped : header_type (slice_index new 0) ≡ header_type (slice_index chunk 0)
  header_type-shaped =
      sym (type_of-kind_of (slice_index new 0)) ∙ ap type_of is.kind ∙ type_of-kind_of (slice_index chunk 0)

  -- both lack a class, or neither
  pub lacks_class-shaped : lacks_class new ≡ lacks_class chunk
  lacks_class-shaped =
      ap (λ type. eqb type 3 && eqb (compact_index new) 0) header_type-shaped
      ∙ ap (λ index. eqb (header_type (slice_index chunk 0)) 3 && eqb index 0) compact_index-shaped

  -- both are bad methods, or neither
  pub is_bad_method-shaped : is_bad_method new ≡ is_bad_method chunk
  is_bad_method-shaped =
      ap (λ laid. is_bad_method_in laid (fields new)) layout-shaped
      ∙ is_bad_method_in-alike (layout chunk) (fields chunk) (fields new) is.sized method_fields-shaped

  -- both are bad contexts, or neither
  pub is_bad_context-shaped : is_bad_context new ≡ is_bad_context chunk
  is_bad_context-shaped =
      ap (λ laid. is_bad_context_in laid (fields new)) layout-shaped
      ∙ is_bad_context_in-alike (layout chunk) (fields chunk) (fields new) is.sized context_fields-shaped
