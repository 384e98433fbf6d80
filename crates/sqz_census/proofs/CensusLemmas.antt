-- The census, from the histogram and the new addresses of classes.
-- Serves `rows::census`.
use Rattle.std.proofs.Common.{◌≡◌, ℕ, zero, suc, ◌+◌, ◌-◌, ◌<◌, ◌≤◌, Bool, true, List, map, length, get_or}
use Rattle.std.proofs.Common.{Option, Some, None, refl, sym, ap, subst, ◌∙◌, arith, inl, inr}
use Rattle.std.specs.List.{All, AllByRecursion}
use Rattle.std.proofs.lemmas.Bool.{cases_order, cases_Bool, lt-ltb, ltb-true}
use Rattle.std.proofs.lemmas.List.{length-map, get_or-map, get_or_default}
use Rattle.sqz_object.specs.Chunk.{IsChunk, before}
use Rattle.sqz_image.specs.Objects.{Memory, object_count, chunk_words, address_of}
use Rattle.sqz_trace.specs.declared.weak.Weak.{Weak}
use Rattle.sqz_trace.specs.Graph.{is_marked}
use Rattle.sqz_trace.specs.Reachability.{IsReachability}
use Rattle.sqz_regions.specs.Places.{place}
use Rattle.sqz_trace.specs.Live.{live_words_below}
use Rattle.sqz_regions.specs.Bases.{ArePlacesOf}
use Rattle.sqz_trace.proofs.LiveWordLemmas.{live_words_more_yes, live_words_more_no}
use Rattle.sqz_histogram.specs.declared.group.Group.{Group}
use Rattle.sqz_histogram.specs.declared.group.Group.TheVariants.{Class, Compact}
use Rattle.sqz_histogram.specs.declared.group.GroupTotal.{GroupTotal}
use Rattle.sqz_histogram.specs.Groups.{members, bytes_of, is_lower, ComesBefore, IsInside}
use Rattle.sqz_histogram.specs.Histogram.{total_of, IsHistogram}
use Rattle.sqz_census.specs.Census.{CensusRow, row_of, IsCensus}
use Rattle.sqz_histogram.specs.Names.{class_name}
use Rattle.sqz_census.specs.Rows.{row_at}
use Rattle.sqz_histogram.proofs.AddressLemmas.{address_of-rises, before-chunk_words}
use Rattle.sqz_histogram.proofs.GroupLemmas.{member-inside, class_of_group-marked}
use Rattle.sqz_histogram.proofs.HistogramLemmas.{map_by_way}

module _ (memory : Memory) (marks : List Bool) where
  -- the live words below an object are no more than those below a later one
  live_words_rise : (low more : ℕ) → low + more ≤ object_count memory
      → live_words_below memory marks low ≤ live_words_below memory marks (low + more)
  live_words_rise low zero le = let same : low + 0 ≡ low = omega arith in rw same (omega arith)
  live_words_rise low (suc more) le =
      let next : low + suc more ≡ (low + more) + 1 = omega arith in
      let rest = live_words_rise low more (omega arith) in
      elim (cases_Bool (is_marked marks (low + more))) [
        | inl marked ↦ rw next (omega (arith, rest, live_words_more_yes memory marks (low + more) (omega arith) marked))
        | inr unmarked ↦ rw next (omega (arith, rest, live_words_more_no memory marks (low + more) (omega arith) unmarked))
      ]

  -- a live object has a lower place than a later object
  place_rises : (one other : ℕ) → one < other → other < object_count memory → is_marked marks one ≡ true
      → before (chunk_words memory one) < length (chunk_words memory one)
      → place memory marks one < place memory marks other
  place_rises one other lt inside marked headed =
      let here = live_words_more_yes memory marks one (omega arith) marked in
      let there : (one + 1) + (other - (one + 1)) ≡ other = omega arith in
      let words = live_words_rise (one + 1) (other - (one + 1)) (omega arith) in
      let rises : live_words_below memory marks (one + 1) ≤ live_words_below memory marks other = rw there at words in
      omega (arith, here, rises)

abbrev any_group : Group
any_group = Compact 0

module _ (memory : Memory) (weak : Weak) (marks : List Bool) (totals : List GroupTotal)
    (histogram : IsHistogram memory weak marks totals) where
  abbrev Has : Group → Type 0
  Has group = 0 < length (members memory weak marks group)

  -- each group of a histogram has a member
  listed_has : (i : ℕ) (d : Group) → i < length histogram.groups → Has (get_or histogram.groups i d)
  listed_has i d lt =
      let group = get_or histogram.groups i d in
      (histogram.listed.all group).0 (i, lt, get_or_default histogram.groups i group d lt)

  -- and so some object may be in it
  pub groups_inside : All (λ total. IsInside (object_count memory) total.group) totals
  groups_inside k d lt =
      let long : length totals ≡ length histogram.groups =
      ap length histogram.are ∙ length-map histogram.groups (total_of memory weak marks) in
      let inside : k < length histogram.groups = omega (arith, long) in
      let is : get_or totals k d ≡ total_of memory weak marks (get_or histogram.groups k any_group) =
      ap (λ (totals : List GroupTotal). get_or totals k d) histogram.are
      ∙ get_or-map (total_of memory weak marks) histogram.groups k any_group d inside in
      let group_is = ap (λ (total : GroupTotal). total.group) is in
      subst (IsInside (object_count memory)) (sym group_is)
      (member-inside memory weak marks (get_or histogram.groups k any_group) (listed_has k any_group inside))

  module _ (places : List (Option ℕ)) (chunks : AllByRecursion IsChunk memory.chunks) (reach : IsReachability memory weak marks)
      (placed : ArePlacesOf memory marks places) where
    -- ---- rows

    row_at-total_of : (group : Group) → Has group → row_at memory weak places (total_of memory weak marks group)
        ≡ row_of memory weak marks group
    row_at-total_of (Class class) has =
        let marked = class_of_group-marked memory weak marks reach class has in
        let place_is : get_or places class None ≡ Some (place memory marks class) =
        placed.each class (member-inside memory weak marks (Class class) has) ∙ rw marked refl in
        λ i. record {
          place = place_is i;
          compact = 0;
          name = class_name memory weak class;
          count = length (members memory weak marks (Class class));
          bytes = bytes_of memory weak marks (Class class);
        }
    row_at-total_of (Compact index) has = refl

    -- ---- order

    -- live classes keep their order
    place_by_address : (one other : ℕ) → one < object_count memory → other < object_count memory → is_marked marks one ≡ true
        → address_of memory one < address_of memory other → place memory marks one < place memory marks other
    place_by_address one other one_inside other_inside marked lt =
        elim (cases_order one other) [
          | inl same ↦ absurd (omega (arith, ap (address_of memory) same))
          | inr (inl below) ↦ place_rises memory marks one other below other_inside marked (before-chunk_words memory chunks one one_inside)
          | inr (inr above) ↦ absurd (omega (arith, address_of-rises memory chunks other one above one_inside))
        ]

    lower_by_place : (one other : Group) → Has one → Has other → is_lower (address_of memory) one other ≡ true
        → is_lower (place memory marks) one other ≡ true
    lower_by_place (Class one) (Class other) one_has other_has lower =
        let one_inside = member-inside memory weak marks (Class one) one_has in
        let other_inside = member-inside memory weak marks (Class other) other_has in
        let marked = class_of_group-marked memory weak marks reach one one_has in
        lt-ltb _ _ (place_by_address one other one_inside other_inside marked (ltb-true _ _ lower))
    lower_by_place (Class one) (Compact other) one_has other_has lower = lower
    lower_by_place (Compact one) (Class other) one_has other_has lower = lower
    lower_by_place (Compact one) (Compact other) one_has other_has lower = lower

    before_by_place : (one other : Group) → Has one → Has other → ComesBefore memory weak marks (address_of memory) one other
        → ComesBefore memory weak marks (place memory marks) one other
    before_by_place one other one_has other_has (inl more) = inl more
    before_by_place one other one_has other_has (inr (same, lower)) = inr (same, lower_by_place one other one_has other_has lower)

    -- the rows of the totals are a census
    pub IsCensus-rows : (rows : List CensusRow) → rows ≡ map (row_at memory weak places) totals → IsCensus memory weak marks rows
    IsCensus-rows rows rows_are =
        let groups = histogram.groups in
        record {
          groups = groups;
          are = rows_are
              ∙ ap (map (row_at memory weak places)) histogram.are
              ∙ sym (map_by_way (row_of memory weak marks) (total_of memory weak marks) (row_at memory weak places) groups any_group
              (λ i lt. sym (row_at-total_of (get_or groups i any_group) (listed_has i any_group lt))));
          listed =
              record {
                all = histogram.listed.all;
                ordered = λ i j d lt inside.
                    before_by_place (get_or groups i d) (get_or groups j d) (listed_has i d (omega arith)) (listed_has j d inside)
                    (histogram.listed.ordered i j d lt inside);
              };
        }
