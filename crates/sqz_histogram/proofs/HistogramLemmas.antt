-- The histogram, from the shares of groups.
-- Serves `totals::histogram`.
use Rattle.std.proofs.Common.{◌≡◌, ℕ, suc, ◌*◌, ◌<◌, Bool, true, List, [], ◌∷◌, map, length, get_or}
use Rattle.std.proofs.Common.{refl, sym, ap, subst, ◌∙◌, arith, inl, inr}
use Rattle.std.specs.List.{Contains, AllByRecursion}
use Rattle.std.proofs.lemmas.Bool.{cases_lt, lt-ltb}
use Rattle.std.proofs.lemmas.List.{length-map, get_or-map}
use Rattle.sqz_object.specs.Chunk.{IsChunk}
use Rattle.sqz_image.specs.Objects.{Memory, object_count, address_of, words_in}
use Rattle.sqz_trace.specs.declared.weak.Weak.{Weak}
use Rattle.sqz_trace.specs.Live.{live}
use Rattle.sqz_histogram.specs.declared.group.Group.{Group}
use Rattle.sqz_histogram.specs.declared.group.GroupTotal.{GroupTotal}
use Rattle.sqz_histogram.specs.declared.tallies.Tally.{Tally}
use Rattle.sqz_histogram.specs.declared.shares.Share.{Share}
use Rattle.sqz_histogram.specs.Groups.{members, is_lower, ComesBefore}
use Rattle.sqz_histogram.specs.Histogram.{total_of, IsHistogram}
use Rattle.sqz_histogram.specs.Keys.{key_of, group_with}
use Rattle.sqz_histogram.specs.Tallies.{no_tally, tally_in, AreTallies}
use Rattle.sqz_histogram.specs.Shares.{no_share, IsShareOf, IsBefore, AreSharesInOrder, total_at}
use Rattle.sqz_histogram.proofs.AddressLemmas.{address_of-rises}
use Rattle.sqz_histogram.proofs.GroupLemmas.{group_with-below, group_with-above, key_of-lt, group_with-key_of}
use Rattle.sqz_histogram.proofs.GroupLemmas.{member-inside}

-- a function of each item, by way of another
pub map_by_way : {X Y Z : Type 0} (f : X → Z) (g : X → Y) (h : Y → Z) (xs : List X) (d : X)
    → ((i : ℕ) → i < length xs → f (get_or xs i d) ≡ h (g (get_or xs i d))) → map f xs ≡ map h (map g xs)
map_by_way f g h [] d same = refl
map_by_way f g h (x ∷ xs) d same =
    let others = map_by_way f g h xs d (λ i lt. same (suc i) (omega arith)) in
    let first = same 0 (omega arith) in
    λ i. first i ∷ others i

module _ (memory : Memory) (weak : Weak) (marks : List Bool) (tallies : List Tally) (shares : List Share)
    (chunks : AllByRecursion IsChunk memory.chunks) (counted : AreTallies memory weak marks tallies)
    (in_order : AreSharesInOrder tallies shares) where
  -- the group of a share
  abbrev group_of_share : Share → Group
  group_of_share share = group_with (object_count memory) share.key

  abbrev Has : Group → Type 0
  Has group = 0 < length (members memory weak marks group)

  -- ---- what a share says

  module _ (share : Share) (is : IsShareOf tallies share) where
    tally_of_share : tally_in memory weak (live memory marks) (group_of_share share)
        ≡ record { count = share.count; words = share.words }
    tally_of_share = sym (counted.each share.key (omega (arith, is.inside, counted.sized))) ∙ is.tally

    share_count : share.count ≡ length (members memory weak marks (group_of_share share))
    share_count = sym (ap (λ (tally : Tally). tally.count) tally_of_share)

    share_words : share.words ≡ words_in (members memory weak marks (group_of_share share))
    share_words = sym (ap (λ (tally : Tally). tally.words) tally_of_share)

    share_has : Has (group_of_share share)
    share_has = omega (arith, share_count, is.some)

    share_total : total_at (object_count memory) share ≡ total_of memory weak marks (group_of_share share)
    share_total = λ i. record { group = group_of_share share; count = share_count i; bytes = 4 * share_words i }

  -- ---- order

  -- a group with a lower key is lower
  lower_key : (one other : ℕ) → one < other
      → is_lower (address_of memory) (group_with (object_count memory) one) (group_with (object_count memory) other) ≡ true
  lower_key one other lt =
      elim (cases_lt other (object_count memory)) [
        | inl inside ↦
            let one_is = group_with-below (object_count memory) one (omega arith) in
            let other_is = group_with-below (object_count memory) other inside in
            let rises = address_of-rises memory chunks one other lt inside in
            (λ i. is_lower (address_of memory) (one_is i) (other_is i)) ∙ lt-ltb _ _ rises
        | inr outside ↦
            let other_is = group_with-above (object_count memory) other outside in
            elim (cases_lt one (object_count memory)) [
              | inl class ↦
                  let one_is = group_with-below (object_count memory) one class in
                  (λ i. is_lower (address_of memory) (one_is i) (other_is i))
              | inr compact ↦
                  let one_is = group_with-above (object_count memory) one compact in
                  (λ i. is_lower (address_of memory) (one_is i) (other_is i)) ∙ lt-ltb _ _ (omega arith)
            ]
      ]

  -- shares are in the order of their groups
  share_before : (one other : Share) → IsShareOf tallies one → IsShareOf tallies other → IsBefore one other
      → ComesBefore memory weak marks (address_of memory) (group_of_share one) (group_of_share other)
  share_before one other one_is other_is (inl more) =
      inl (omega (arith, more, share_words one one_is, share_words other other_is))
  share_before one other one_is other_is (inr tied) =
      let same = sym (share_words one one_is) ∙ tied.0 ∙ share_words other other_is in
      inr (ap (λ (words : ℕ). 4 * words) same, lower_key one.key other.key tied.1)

  -- ---- all groups

  abbrev groups : List Group
  groups = map group_of_share shares

  group_there : (i : ℕ) (d : Group) → i < length groups → get_or groups i d ≡ group_of_share (get_or shares i no_share)
  group_there i d lt = get_or-map group_of_share shares i no_share d (omega (arith, length-map shares group_of_share))

  has_if_listed : (group : Group) → Contains groups group → Has group
  has_if_listed group listed =
      let is = group_there listed.0 group listed.1 in
      let inside : listed.0 < length shares = omega (arith, listed.1, length-map shares group_of_share) in
      let has = share_has (get_or shares listed.0 no_share) (in_order.each listed.0 inside) in
      subst Has (sym is ∙ listed.2) has

  listed_if_has : (group : Group) → Has group → Contains groups group
  listed_if_has group has =
      let count = object_count memory in
      let valid = member-inside memory weak marks group has in
      let key = key_of count group in
      let back = group_with-key_of count group valid in
      let low = key_of-lt count group valid in
      let tally = counted.each key low in
      let some_there : Has (group_with count key) = subst Has (sym back) has in
      let some : 0 < (get_or tallies key no_tally).count =
      omega (arith, ap (λ (tally : Tally). tally.count) tally, some_there) in
      let found = in_order.all key (omega (arith, low, counted.sized)) some in
      let inside : found.0 < length groups = omega (arith, found.1, length-map shares group_of_share) in
      (found.0, inside, group_there found.0 group inside ∙ ap (group_with count) found.2 ∙ back)

  all_ordered : (i j : ℕ) (d : Group) → i < j → j < length groups
      → ComesBefore memory weak marks (address_of memory) (get_or groups i d) (get_or groups j d)
  all_ordered i j d lt inside =
      let long = length-map shares group_of_share in
      let low : i < length shares = omega (arith, long) in
      let high : j < length shares = omega (arith, long) in
      let before = share_before (get_or shares i no_share) (get_or shares j no_share)
      (in_order.each i low) (in_order.each j high) (in_order.ordered i j lt high) in
      rw (group_there i d (omega (arith, long)), group_there j d inside) before

  -- the totals of the shares are the histogram
  pub IsHistogram-totals : (totals : List GroupTotal) → totals ≡ map (total_at (object_count memory)) shares
      → IsHistogram memory weak marks totals
  IsHistogram-totals totals totals_are =
      record {
        groups = groups;
        are = totals_are
            ∙ map_by_way (total_at (object_count memory)) group_of_share (total_of memory weak marks) shares no_share
            (λ i lt. share_total (get_or shares i no_share) (in_order.each i lt));
        listed = record { all = λ group. (has_if_listed group, listed_if_has group); ordered = all_ordered };
      }
