-- Where the chunks of objects begin, while they are being found.
-- Serves `HeapLemmas` and `IndexLemmas`.
use Rattle.std.proofs.Common.{◌≡◌, ◌⊎◌, ℕ, ◌+◌, ◌-◌, ◌<◌, ◌≤◌, true, false, List, [], ◌∷◌, ◌++◌, map, length, get_or, drop}
use Rattle.std.proofs.Common.{refl, sym, ap, ◌∙◌, arith, inl, inr}
use Rattle.std.proofs.lemmas.Bool.{cases_lt}
use Rattle.std.proofs.lemmas.List.{length-append, length-map, map-append, get_or-map, get_or_append_left, get_or-append_right}
use Rattle.std.proofs.lemmas.List.{drop_all}
use Rattle.sqz_object.specs.Chunk.{is_object}
use Rattle.sqz_image.specs.declared.starts.Start.{Start}
use Rattle.sqz_image.specs.Objects.{Object}
use Rattle.sqz_image.specs.Starts.{first_of, IsFollowed, start_at, object_in, end_of, IsNextAfter, AreStarts}

abbrev no_object : Object
no_object = record { first = 0; chunk = [] }

abbrev no_start : Start
no_start = record { index = 0 }

-- the object is the last so far, and the words behind it begin with another
pub record IsAwaited (words : List ℕ) (place : ℕ) (objects : List Object) (index : ℕ) : Type 0 where
  pub last : index + 1 ≡ length objects
  pub ends : end_of (object_in objects index) ≡ place
  pub begins : is_object (drop place words) ≡ true

-- the starts of the objects whose chunks reach up to a place
pub record AreStartsUpTo (words : List ℕ) (place : ℕ) (objects : List Object) (starts : List Start) : Type 0 where
  pub firsts : map first_of starts ≡ map (λ object. object.first) objects
  pub next : (index : ℕ) → index < length objects → IsFollowed (start_at starts index)
      → IsNextAfter objects index ⊎ IsAwaited words place objects index

pub AreStartsUpTo-none : (words : List ℕ) → AreStartsUpTo words 0 [] []
AreStartsUpTo-none words = record { firsts = refl; next = λ index lt followed. absurd (omega (arith, lt)) }

-- there is a start for each object
pub length_by_firsts : (objects : List Object) (starts : List Start)
    → map first_of starts ≡ map (λ object. object.first) objects → length starts ≡ length objects
length_by_firsts objects starts same =
    sym (length-map starts first_of) ∙ ap length same ∙ length-map objects (λ (o : Object). o.first)

-- and it says where the object's chunk begins
pub first_by_firsts : (objects : List Object) (starts : List Start)
    → map first_of starts ≡ map (λ object. object.first) objects → (index : ℕ) → index < length objects
    → first_of (start_at starts index) ≡ (object_in objects index).first
first_by_firsts objects starts same index lt =
    sym (get_or-map first_of starts index no_start 0 (omega (arith, lt, length_by_firsts objects starts same)))
    ∙ ap (λ (xs : List ℕ). get_or xs index 0) same
    ∙ get_or-map (λ (o : Object). o.first) objects index no_object 0 lt

module _ {words : List ℕ} {place : ℕ} {objects : List Object} {starts : List Start}
    (so_far : AreStartsUpTo words place objects starts) where
  -- a free chunk more
  pub AreStartsUpTo-free : (end : ℕ) → is_object (drop place words) ≡ false → AreStartsUpTo words end objects starts
  AreStartsUpTo-free end free =
      record {
        firsts = so_far.firsts;
        next = λ index lt followed.
            elim (so_far.next index lt followed) [
              | inl next ↦ inl next
              | inr awaited ↦ let begins = awaited.begins in absurd cc
            ];
      }

  -- an object more, which begins at the place
  module _ (object : Object) (start : Start) (here : object.first ≡ place) (starts_here : first_of start ≡ place)
      (awaits : IsFollowed start → is_object (drop (end_of object) words) ≡ true) where
    abbrev objects_more : List Object
    objects_more = objects ++ object ∷ []

    abbrev starts_more : List Start
    starts_more = starts ++ start ∷ []

    as_many : length starts ≡ length objects
    as_many = length_by_firsts objects starts so_far.firsts

    one_more : length objects_more ≡ length objects + 1
    one_more = length-append objects (object ∷ [])

    object_before : (index : ℕ) → index < length objects → object_in objects_more index ≡ object_in objects index
    object_before index lt = get_or_append_left objects (object ∷ []) no_object index lt

    object_last : (index : ℕ) → index ≡ length objects → object_in objects_more index ≡ object
    object_last index is =
        let none : index - length objects ≡ 0 = omega arith in
        get_or-append_right objects (object ∷ []) (length objects) index no_object refl (omega (arith, is)) ∙ rw none refl

    start_before : (index : ℕ) → index < length objects → start_at starts_more index ≡ start_at starts index
    start_before index lt = get_or_append_left starts (start ∷ []) no_start index (omega (arith, lt, as_many))

    start_last : (index : ℕ) → index ≡ length objects → start_at starts_more index ≡ start
    start_last index is =
        let none : index - length starts ≡ 0 = omega (arith, is, as_many) in
        get_or-append_right starts (start ∷ []) (length starts) index no_start refl (omega (arith, is, as_many))
        ∙ rw none refl

    firsts_more : map first_of starts_more ≡ map (λ object. object.first) objects_more
    firsts_more =
        map-append first_of starts (start ∷ [])
        ∙ ap (λ (xs : List ℕ). xs ++ first_of start ∷ []) so_far.firsts
        ∙ ap (λ (n : ℕ). map (λ (o : Object). o.first) objects ++ n ∷ []) (starts_here ∙ sym here)
        ∙ sym (map-append (λ (o : Object). o.first) objects (object ∷ []))

    next_before : (index : ℕ) → index < length objects → IsFollowed (start_at starts index) → IsNextAfter objects_more index
    next_before index lt followed =
        elim (so_far.next index lt followed) [
          | inl next ↦
              record {
                inside = omega (arith, next.inside, one_more);
                adjacent = rw (object_before (index + 1) next.inside, object_before index lt) next.adjacent;
              }
          | inr awaited ↦
              record {
                inside = omega (arith, awaited.last, one_more);
                adjacent =
                    rw (object_last (index + 1) awaited.last, object_before index lt) (here ∙ sym awaited.ends);
              }
        ]

    pub AreStartsUpTo-object : AreStartsUpTo words (end_of object) objects_more starts_more
    AreStartsUpTo-object =
        record {
          firsts = firsts_more;
          next = λ index lt followed.
              elim (cases_lt index (length objects)) [
                | inl early ↦ inl (next_before index early (rw (start_before index early) at followed))
                | inr late ↦
                    let is : index ≡ length objects = omega (arith, lt, late, one_more) in
                    inr
                    (record {
                      last = omega (arith, is, one_more);
                      ends = rw (object_last index is) refl;
                      begins = awaits (rw (start_last index is) at followed);
                    })
              ];
        }

  -- the chunks reach up to the end
  pub AreStarts-whole : length words ≤ place → AreStarts objects starts
  AreStarts-whole le =
      record {
        firsts = so_far.firsts;
        followed = λ index lt followed.
            elim (so_far.next index lt followed) [
              | inl next ↦ next
              | inr awaited ↦
                  let none : is_object (drop place words) ≡ false = rw (drop_all place words le) refl in
                  let begins = awaited.begins in
                  absurd cc
            ];
      }
