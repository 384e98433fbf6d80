-- The words of an object after the move: those of its fields. And the words of all live objects up
-- to one.
-- Serves `mover::Mover::piece_of`, `moved_words::moved_word` and `PieceLemmas`.
use Rattle.std.proofs.Common.{◌≡◌, ℕ, ◌+◌, ◌-◌, ◌<◌, ◌≤◌, Bool, true, false, List, [], ◌++◌, map, length, get_or, take}
use Rattle.std.proofs.Common.{drop, slice_index, refl, ap, sym, ◌∙◌, arith}
use Rattle.std.specs.List.{concat}
use Rattle.std.proofs.lemmas.List.{length-map, length-drop, length-take-le, map_push}
use Rattle.std.proofs.lemmas.List.{get_or-take, get_or-drop, get_or-map, get_or_append_left, get_or-append_right}
use Rattle.sqz_object.specs.declared.chunk.Chunk.{Chunk}
use Rattle.sqz_object.specs.Chunk.{chunk_kind, before, fields}
use Rattle.sqz_object.specs.Reading.{description}
use Rattle.sqz_object.proofs.PartitionLemmas.{concat-push}
use Rattle.sqz_image.specs.Objects.{Memory, Object, objects, object_count, object_at, chunk_words}
use Rattle.sqz_trace.specs.declared.weak.Weak.{Weak}
use Rattle.sqz_trace.specs.Strong.{is_weak, strong}
use Rattle.sqz_trace.specs.Live.{marked}
use Rattle.sqz_trace.proofs.StrongLemmas.{strong_inside}
use Rattle.sqz_trace.proofs.MarkedLemmas.{marked_more_yes, marked_more_no, marked_all}
use Rattle.sqz_slide.specs.Moved.{moved_field, moved_weak, moved_header, moved_others, moved_fields, moved, moved_objects}
use Rattle.sqz_slide.proofs.HeaderLemmas.{length-moved_header}

abbrev no_object : Object
no_object = record { first = 0; chunk = [] }

module _ (memory : Memory) (weak : Weak) (marks : List Bool) where
  -- ---- one word of an object, behind its header

  module _ (chunk : List ℕ) where
    abbrev strong_fields : List ℕ
    strong_fields = take (strong memory weak chunk) (fields chunk)

    abbrev other_fields : List ℕ
    other_fields = drop (strong memory weak chunk) (fields chunk)

    -- there are as many strong fields after the move
    length-moved_strong : length (map (moved_field memory marks) strong_fields) ≡ strong memory weak chunk
    length-moved_strong =
        length-map strong_fields (moved_field memory marks)
        ∙ length-take-le (strong memory weak chunk) (fields chunk) (strong_inside memory weak chunk)

    -- a field is the word that far after the base header
    field_word : (k : ℕ) → before chunk < k → slice_index (fields chunk) (k - (before chunk + 1)) ≡ slice_index chunk k
    field_word k lt =
        get_or-drop (before chunk + 1) chunk (k - (before chunk + 1)) 0
        ∙ ap (λ (n : ℕ). get_or chunk n 0) (omega arith)

    -- the same of a field after the strong ones
    other_word : (k : ℕ) → before chunk + strong memory weak chunk < k
        → get_or other_fields (k - (before chunk + 1) - strong memory weak chunk) 0 ≡ slice_index chunk k
    other_word k lt =
        get_or-drop (strong memory weak chunk) (fields chunk) (k - (before chunk + 1) - strong memory weak chunk) 0
        ∙ ap (λ (n : ℕ). get_or (fields chunk) n 0) (omega arith)
        ∙ field_word k (omega arith)

    -- the fields follow the header
    moved-field_word : (k : ℕ) → before chunk < length chunk → before chunk < k
        → get_or (moved memory weak marks chunk) k 0 ≡ get_or (moved_fields memory weak marks chunk) (k - (before chunk + 1)) 0
    moved-field_word k headed lt =
        let size = length-moved_header memory marks (chunk_kind chunk) chunk headed in
        get_or-append_right (moved_header memory marks (chunk_kind chunk) chunk) (moved_fields memory weak marks chunk)
        (before chunk + 1) k 0 size (omega arith)

    -- and the other fields follow the strong ones, by whether the object has weak slots
    moved-others_word : (k : ℕ) (test : Bool) → is_weak weak chunk ≡ test → before chunk < length chunk
        → before chunk + strong memory weak chunk < k
        → get_or (moved memory weak marks chunk) k 0
        ≡ get_or (moved_others memory weak marks test other_fields) (k - (before chunk + 1) - strong memory weak chunk) 0
    moved-others_word k test is headed lt =
        moved-field_word k headed (omega arith)
        ∙ get_or-append_right (map (moved_field memory marks) strong_fields)
        (moved_others memory weak marks (is_weak weak chunk) other_fields) (strong memory weak chunk) (k - (before chunk + 1)) 0
        length-moved_strong (omega arith)
        ∙ ap (λ test. get_or (moved_others memory weak marks test other_fields) (k - (before chunk + 1) - strong memory weak chunk) 0) is

    -- a word after the header, by what is read of the object
    module _ (words : List ℕ) (same : words ≡ chunk) (header : Chunk) (described : header ≡ description chunk)
        (headed : header.before < header.length) (count : ℕ) (strong_is : count ≡ strong memory weak chunk)
        (k : ℕ) (lt : header.before < k) where
      before_is : header.before ≡ before chunk
      before_is = ap (λ (header : Chunk). header.before) described

      inside : before chunk < length chunk
      inside = rw described at headed

      -- a strong field
      pub moved-strong_word : k - header.before ≤ count
          → get_or (moved memory weak marks chunk) k 0 ≡ moved_field memory marks (slice_index words k)
      moved-strong_word le =
          let field = k - (before chunk + 1) in
          moved-field_word k inside (omega (arith, before_is))
          ∙ get_or_append_left (map (moved_field memory marks) strong_fields)
          (moved_others memory weak marks (is_weak weak chunk) other_fields) 0 field
          (omega (arith, before_is, strong_is, length-moved_strong))
          ∙ get_or-map (moved_field memory marks) strong_fields field 0 0
          (omega (arith, before_is, strong_is, length-map strong_fields (moved_field memory marks), length-moved_strong))
          ∙ ap (moved_field memory marks)
          (get_or-take (strong memory weak chunk) (fields chunk) field 0 (omega (arith, before_is, strong_is))
          ∙ field_word k (omega (arith, before_is))
          ∙ ap (λ (words : List ℕ). slice_index words k) (sym same))

      -- another field of an object with weak slots
      pub moved-weak_word : is_weak weak chunk ≡ true → k < length chunk → count < k - header.before
          → get_or (moved memory weak marks chunk) k 0 ≡ moved_weak memory weak marks (slice_index words k)
      moved-weak_word is end more =
          let back = length-drop (strong memory weak chunk) (fields chunk) in
          let whole = length-drop (before chunk + 1) chunk in
          moved-others_word k true is inside (omega (arith, before_is, strong_is))
          ∙ get_or-map (moved_weak memory weak marks) other_fields (k - (before chunk + 1) - strong memory weak chunk) 0 0
          (omega (arith, before_is, strong_is, back, whole))
          ∙ ap (moved_weak memory weak marks)
          (other_word k (omega (arith, before_is, strong_is)) ∙ ap (λ (words : List ℕ). slice_index words k) (sym same))

      -- and of one without, where no slot is left
      pub moved-untraced_word : is_weak weak chunk ≡ false → count < k - header.before
          → get_or (moved memory weak marks chunk) k 0 ≡ slice_index words k
      moved-untraced_word is more =
          moved-others_word k false is inside (omega (arith, before_is, strong_is))
          ∙ other_word k (omega (arith, before_is, strong_is))
          ∙ ap (λ (words : List ℕ). slice_index words k) (sym same)

  -- ---- the words of the live objects below an index

  -- the words of an object after the move
  abbrev pub words_after : Object → List ℕ
  words_after object = moved memory weak marks object.chunk

  -- the words of the marked ones of the first objects, after the move
  unfoldable pub moved_below : ℕ → List ℕ
  moved_below index = concat (map words_after (marked (take index marks) (take index (objects memory))))

  -- nothing stands below the first object
  pub moved_below_none : moved_below 0 ≡ []
  unfolding moved_below
  moved_below_none = refl

  -- a live object adds its words
  pub moved_below_yes : (index : ℕ) → index < object_count memory → get_or marks index false ≡ true
      → moved_below (index + 1) ≡ moved_below index ++ moved memory weak marks (chunk_words memory index)
  unfolding moved_below
  moved_below_yes index lt is =
      let below : List Object = marked (take index marks) (take index (objects memory)) in
      ap (λ (os : List Object). concat (map words_after os)) (marked_more_yes marks (objects memory) index no_object lt is)
      ∙ ap concat (map_push words_after below (object_at memory index))
      ∙ concat-push (map words_after below) (moved memory weak marks (chunk_words memory index))

  -- a dead object adds none
  pub moved_below_no : (index : ℕ) → index < object_count memory → get_or marks index false ≡ false
      → moved_below (index + 1) ≡ moved_below index
  unfolding moved_below
  moved_below_no index lt is =
      ap (λ (os : List Object). concat (map words_after os)) (marked_more_no marks (objects memory) index lt is)

  -- below the end stand all live objects
  pub moved_below_all : (index : ℕ) → length marks ≡ object_count memory → object_count memory ≤ index
      → moved_below index ≡ concat (moved_objects memory weak marks)
  unfolding moved_below
  moved_below_all index sized le =
      ap (λ (os : List Object). concat (map words_after os)) (marked_all marks (objects memory) index (omega arith) le)
