use Rattle.std.proofs.Common.{◌≡◌, ℕ, ◌+◌, ◌*◌, ◌^◌, ◌<◌, ◌≤◌, List, ◌++◌, map, take, drop, length, Some, sum, refl}
use Rattle.std.proofs.Common.{sym, ap, subst, ◌∙◌, arith}
use Rattle.std.proofs.lemmas.List.{ext_get_or, length-map}
use Rattle.std.specs.List.{concat}
use Rattle.std.specs.Slots.{slots_items}
use mathlib.Core.Option.{some}
use lib.ListN.{get_elem?}
use Rattle.atomic_table.specs.Table.{State}
use Rattle.sqz_image.specs.Objects.{Memory, object_count, find}
use Rattle.sqz_trace.specs.declared.shades.Shade.{Shade}
use Rattle.sqz_trace.specs.declared.weak.Weak.{Weak}
use Rattle.sqz_trace.specs.Shades.{has_mark, marks_of}
use Rattle.sqz_trace.proofs.MarkingLemmas.{whole_slice}
use Rattle.sqz_regions.specs.Bases.{AreSums}
use Rattle.sqz_trace.specs.Live.{live_words}
use Rattle.sqz_regions.specs.Regions.{Regioning, region_count, objects_before}
use Rattle.sqz_regions.proofs.SumLemmas.{sum-AreSums}
use Rattle.sqz_trace.proofs.LiveWordLemmas.{live_words-le-words}
use Rattle.sqz_marks.specs.declared.view.View.{View}
use Rattle.sqz_marks.specs.Table.{SharedMarks, HeldPass, HasCountedAll, IsKept, marking_in, start_of, shade_of, AreClosed}
use Rattle.sqz_marks.proofs.KeptLemmas.{AreClosed-kept, AreSums-kept, shades_read, sum_read, sum_few}
use Rattle.sqz_marks.proofs.table.MarkTable.close.Goals as goal
use Rattle.sqz_marks.proofs.table.MarkTable.close.Goals.{After-deref_mut-2, After-free}

-- what the rule was told: the heap, what becomes of weak slots, and how many workers share the table
abbrev told_heap : After-deref_mut-2 → Regioning
told_heap c = c.self.inside.table.shared.key.0.value

abbrev told_weak : After-deref_mut-2 → Weak
told_weak c = c.self.inside.table.shared.key.1

abbrev told_workers : After-deref_mut-2 → ℕ
told_workers c = c.self.inside.table.shared.key.2

-- the heap is the table's
is_heap : (c : After-deref_mut-2) → told_heap c ≡ c.args.self.heap
is_heap c = c.self.invariant.1 ∙ ap (λ (m : SharedMarks). m.heap) c.self.view_is

is_weak : (c : After-deref_mut-2) → told_weak c ≡ c.args.self.weak
is_weak c = c.self.invariant.2 ∙ ap (λ (m : SharedMarks). m.weak) c.self.view_is

same_memory : (c : After-deref_mut-2) → c.self.inside.heap.now ≡ c.args.self.heap.memory
same_memory c = c.self.invariant.0 ∙ ap (λ (m : SharedMarks). m.heap.memory) c.self.view_is

count_is : (c : After-deref_mut-2) → c.len-objects.result ≡ object_count (told_heap c).memory
count_is c =
    c.len-objects.ensures.objects ∙ ap object_count (same_memory c)
    ∙ sym (ap (λ (h : Regioning). object_count h.memory) (is_heap c))

regions_are : (c : After-deref_mut-2) → c.count-regions.result ≡ region_count c.args.self.heap.cut c.args.self.heap.memory
regions_are c =
    c.count-regions.ensures.count
    ∙ ap (λ (h : Regioning). region_count h.cut h.memory) (ap (λ (m : SharedMarks). m.heap) c.self.view_is)

regions_of : (c : After-deref_mut-2) → length c.deref_mut-2.result.now ≡ c.count-regions.result
regions_of c = ap length c.deref_mut-2.ensures.value ∙ sym c.in-Ok-vec.live_words.ok.0 ∙ c.in-Ok-vec.ensures.len

-- the table as it was closed: the rule holds of it, the pass is one of its passes, and its words are those that are read
record IsLast (c : After-deref_mut-2) : Type 0 where
  table : State (Unit {0}) View
  kept : IsKept (marking_in (told_heap c) (told_weak c) (told_workers c)) table
  at : get_elem? table.views c.pass.inside.seat.id ≡ some c.pass.inside.seat.me.0
  words : table.words ≡ slots_items c.close_with-closed.result.words

last : (c : After-deref_mut-2) → IsLast c
last c =
    let (table, (kept, at), words, sized, homes) = c.close_with-closed.ensures.values.2 in
    record { table = table; kept = kept; at = at; words = words }

pub read_sums-requires-clause-few : goal.read_sums-requires-clause-few
read_sums-requires-clause-few c region inside =
    let end = last c in
    let within : region < region_count c.args.self.heap.cut c.args.self.heap.memory =
    omega (arith, inside, regions_of c, regions_are c) in
    sum_few (told_heap c) (told_weak c) (told_workers c) end.table end.kept _ end.words _ (count_is c) region
    (subst (λ (h : Regioning). region < region_count h.cut h.memory) (sym (is_heap c)) within)

-- where a call on a later fact speaks of an earlier one
abbrev early : After-free → After-deref_mut-2
early c = c.before.before.before

-- the shades that were read
abbrev shades_of : After-free → List Shade
shades_of c = (last (early c)).kept.shades

are_shades : (c : After-free)
    → take c.in-Ok.shades.len (c.read_shades.new.shades ++ drop (length c.read_shades.new.shades) c.in-Ok.shades.items) ≡ shades_of c
are_shades c =
    let then = early c in
    let end = last then in
    let items = c.in-Ok.shades.items in
    let words = slots_items c.close_with-closed.result.words in
    let objects : length items ≡ c.len-objects.result = sym c.in-Ok.shades.ok.0 ∙ c.in-Ok.ensures.len in
    let count = objects ∙ count_is then in
    let read : c.read_shades.new.shades ≡ shades_of c =
    c.read_shades.ensures
    ∙ ap (λ (list : List Shade). map shade_of (take (length list) words)) c.deref_mut.ensures.value
    ∙ shades_read (told_heap then) (told_weak then) (told_workers then) end.table end.kept words end.words (length items) count in
    let sized : length c.read_shades.new.shades ≡ length items = ap length read ∙ end.kept.lawful.shades.sized ∙ sym count in
    whole_slice c.in-Ok.shades.len c.read_shades.new.shades items sized c.in-Ok.shades.ok.0 ∙ read

-- the sums that were read
abbrev sums_read : After-free → List ℕ
sums_read c =
    take c.in-Ok-vec.live_words.len (c.read_sums.new.sums ++ drop (length c.read_sums.new.sums) c.in-Ok-vec.live_words.items)

abbrev sums_of : After-free → List ℕ
sums_of c = (last (early c)).kept.sums

are_sums : (c : After-free) → sums_read c ≡ sums_of c
are_sums c =
    let then = early c in
    let end = last then in
    let items = c.in-Ok-vec.live_words.items in
    let regions : length items ≡ c.count-regions.result = sym c.in-Ok-vec.live_words.ok.0 ∙ c.in-Ok-vec.ensures.len in
    let sized : length c.read_sums.new.sums ≡ length items = c.read_sums.ensures.sized ∙ ap length c.deref_mut-2.ensures.value in
    let count : length items ≡ length (sums_of c) =
    regions ∙ regions_are then
    ∙ sym (ap (λ (h : Regioning). region_count h.cut h.memory) (is_heap then)) ∙ sym end.kept.lawful.sums.sized in
    whole_slice c.in-Ok-vec.live_words.len c.read_sums.new.sums items sized c.in-Ok-vec.live_words.ok.0
    ∙ ext_get_or 0 c.read_sums.new.sums (sums_of c) (sized ∙ count)
    (λ region lt. c.read_sums.ensures.read region (omega (arith, lt, c.read_sums.ensures.sized))
    ∙ sum_read (told_heap then) (told_weak then) (told_workers then) end.table end.kept _ end.words _ (count_is then) region)

is_view : (c : After-free) → c.pass.inside.seat.me.0 ≡ c.args.pass.view
is_view c = ap (λ (p : HeldPass). p.view) c.pass.view_is

whole : (c : After-free) → c.pass.inside.seat.me.0.weight ≡ told_workers (early c)
whole c =
    ap (λ (v : View). v.weight) (is_view c) ∙ c.requires.whole
    ∙ sym (ap (λ (m : SharedMarks). m.workers) c.self.view_is) ∙ sym c.self.invariant.3

pub returns-clause-closed : goal.returns-clause-closed
returns-clause-closed c =
    let then = early c in
    let end = last then in
    let seat = c.pass.inside.seat in
    let special : find (told_heap then).memory (told_heap then).memory.special ≡ Some (start_of (told_heap then).memory) =
    subst (λ (h : Regioning). find h.memory h.memory.special ≡ Some (start_of h.memory)) (sym c.self.invariant.1)
    c.self.invariant.6 in
    let closed = AreClosed-kept (told_heap then) (told_weak then) (told_workers then) end.table end.kept seat.id seat.me.0 end.at
    (whole c) special in
    subst (λ (ss : List Shade). AreClosed c.args.self.heap.memory c.args.self.weak c.args.pass.view ss) (sym (are_shades c))
    (subst (λ (h : Regioning). AreClosed h.memory c.args.self.weak c.args.pass.view (shades_of c)) (is_heap then)
    (subst (λ (v : View). AreClosed (told_heap then).memory c.args.self.weak v (shades_of c)) (is_view c)
    (subst (λ (w : Weak). AreClosed (told_heap then).memory w seat.me.0 (shades_of c)) (is_weak then) closed)))

-- the sums of the regions
sums : (c : After-free) → AreSums c.args.self.heap (marks_of (shades_of c)) (sums_of c)
sums c =
    let then = early c in
    let end = last then in
    let seat = c.pass.inside.seat in
    subst (λ (h : Regioning). AreSums h (marks_of (shades_of c)) (sums_of c)) (is_heap then)
    (AreSums-kept (told_heap then) (told_weak then) (told_workers then) end.table end.kept seat.id seat.me.0 end.at (whole c)
    (subst HasCountedAll (sym (is_view c)) c.requires.counted))

pub returns-clause-sums : goal.returns-clause-sums
returns-clause-sums c =
    subst (λ (ss : List Shade). AreSums c.args.self.heap (marks_of ss) (sums_read c)) (sym (are_shades c))
    (subst (λ (list : List ℕ). AreSums c.args.self.heap (marks_of (shades_of c)) list) (sym (are_sums c)) (sums c))

sized_marks : (c : After-free) → length (marks_of (shades_of c)) ≡ object_count c.args.self.heap.memory
sized_marks c =
    length-map (shades_of c) has_mark ∙ (last (early c)).kept.lawful.shades.sized
    ∙ ap (λ (h : Regioning). object_count h.memory) (is_heap (early c))

-- they make all live words
all_words : (c : After-free) → sum (sums_of c) ≡ live_words c.args.self.heap.memory (marks_of (shades_of c))
all_words c =
    let self = c.args.self.heap in
    let regions = ap (λ (m : SharedMarks). m.heap) c.self.view_is in
    let all = subst
    (λ (h : Regioning). objects_before h.cut h.memory c.count-regions.result ≡ object_count h.memory) regions
    c.count-regions.ensures.all in
    sum-AreSums self self.memory (marks_of (shades_of c)) (sums_of c) c.count-regions.result refl (sums c) (regions_are (early c)) all
    (sized_marks c)

pub returns-clause-whole : goal.returns-clause-whole
returns-clause-whole c =
    ap sum (are_sums c) ∙ all_words c ∙ ap (λ (ss : List Shade). live_words c.args.self.heap.memory (marks_of ss)) (sym (are_shades c))

pub returns-clause-room : goal.returns-clause-room
returns-clause-room c =
    let memory = c.args.self.heap.memory in
    let words = live_words-le-words memory (marks_of (shades_of c)) (sized_marks c) in
    let within : memory.base + 4 * length (concat memory.chunks) ≤ 2 ^ 32 =
    subst (λ (m : Memory). m.base + 4 * length (concat m.chunks) ≤ 2 ^ 32) (same_memory (early c)) c.heap_bounds.ensures.within in
    omega (arith, ap sum (are_sums c), all_words c, words, within)
