-- The mark table and its passes as contracts see them, the meaning of its words, and what each
-- step shows its pass.
use Rattle.std.specs.Prelude.{◌≡◌, ℕ, zero, suc, ◌^◌, ◌<◌, ◌≤◌, ◌++◌, nat_lt, if◌then◌else◌, true, List, map, unwrap_or}
use Rattle.atomic_table.specs.Table.{Step, Me}
use Rattle.atomic_table.specs.Table.{State as TableState}
use Rattle.atomic_table.specs.Seated.{TableId}
use Rattle.sqz_image.specs.Objects.{Memory, object_count, find}
use Rattle.sqz_trace.specs.declared.weak.Weak.{Weak}
use Rattle.sqz_trace.specs.declared.shades.Shade.{Shade}
use Rattle.sqz_trace.specs.declared.shades.Shade.TheVariants.{White, Grey, Black}
use Rattle.sqz_trace.specs.Edges.{OutEdges, out_edges}
use Rattle.sqz_trace.specs.Graph.{is_marked}
use Rattle.sqz_trace.specs.Shades.{shade_at, marks_of, AreLawfulOf}
use Rattle.sqz_regions.specs.Regions.{Regioning}
use Rattle.sqz_marks.specs.declared.view.View.{View}
use Rattle.sqz_marks.specs.Core.{Marking, marking_of, times, HasWon, HasSeen, HasCounted, HasBlackened, looked, claimed, counted, blackened}
use Rattle.sqz_marks.specs.Lawful.{IsLawful, wins, words_listed}

-- a mark table: its identity, the object memory and its cut, the policy on weak slots, and the
-- number of workers that share it
pub record SharedMarks : Type 0 where
  pub table : TableId
  pub heap : Regioning
  pub weak : Weak
  pub workers : ℕ

-- a pass: the identity of its table, the number of workers that share it, and what it knows
pub record HeldPass : Type 0 where
  pub table : TableId
  pub workers : ℕ
  pub view : View

-- a pass of this table
abbrev pub IsPassOf : SharedMarks → HeldPass → Type 0
IsPassOf marks pass = (pass.table ≡ marks.table) × (pass.workers ≡ marks.workers)

-- the same pass, which knows this
abbrev pub knowing : HeldPass → View → HeldPass
knowing pass view = record { table = pass.table; workers = pass.workers; view = view }

-- what a pass had seen it still has seen
abbrev pub KeepsSeen : View → View → Type 0
KeepsSeen old new = (object : ℕ) → HasSeen old object → HasSeen new object

-- the pass has neither seen nor counted the object
abbrev pub IsNewTo : View → ℕ → Type 0
IsNewTo view object = (times object view.seen ≡ 0) × (times object view.counted ≡ 0)

-- the pass has counted all that it won
abbrev pub HasCountedAll : View → Type 0
HasCountedAll view = (object : ℕ) → HasWon view object → HasCounted view object

-- these are the edges of an object that the pass has seen
pub record AreEdgesOfSeen (memory : Memory) (weak : Weak) (view : View) (edges : OutEdges) : Type 0 where
  pub object : ℕ
  pub inside : object < object_count memory
  pub seen : HasSeen view object
  pub its : edges ≡ out_edges memory weak object

-- the special objects array
abbrev pub start_of : Memory → ℕ
start_of memory = unwrap_or (find memory memory.special) 0

-- what a table of this memory marks
abbrev pub marking_in : Regioning → Weak → ℕ → Marking
marking_in heap weak workers = marking_of heap weak workers (start_of heap.memory)

-- the word of an object encodes its shade
abbrev pub number_of : Shade → ℕ
number_of White = 0
number_of Grey = 1
number_of Black = 2

abbrev pub shade_of : ℕ → Shade
shade_of zero = White
shade_of (suc zero) = Grey
shade_of (suc (suc more)) = Black

-- the objects of a list without repetitions have fewer than 2 ^ 30 words in each region
abbrev pub HasFewWords : Marking → Type 0
HasFewWords marking =
    (region : ℕ) (list : List ℕ) → ((object : ℕ) → times object list ≤ 1) → ((object : ℕ) → marking.graph.count ≤ object → times object list ≡ 0)
    → words_listed marking region list < 2 ^ 30

-- between any two steps the words encode the shades, and after these the sum of each region; these
-- and the passes are a lawful state
pub record IsKept (marking : Marking) {S : Type 0} (table : TableState S View) : Type 0 where
  pub shades : List Shade
  pub sums : List ℕ
  pub words : table.words ≡ map number_of shades ++ sums
  pub lawful : IsLawful marking record { shades = shades; sums = sums; passes = table.views }
  pub few : marking.workers ≤ 64
  pub few_words : HasFewWords marking

module _ {S : Type 0} where
  -- a look shows the shade
  pub record Looked (step : Step S) (before : Me S View) (found : ℕ) (after : Me S View) : Type 0 where
    pub small : found ≤ 2
    pub knows : after ≡ (looked step.word (shade_of found) before.0, before.1)
    pub unwon : HasWon before.0 step.word → 1 ≤ found
    pub unseen : HasSeen before.0 step.word → 1 ≤ found
    pub black : HasBlackened before.0 step.word → found ≡ 2

  -- a claim shows the shade that was found; the pass has neither seen nor counted an object that
  -- was white
  pub record Claimed (step : Step S) (before : Me S View) (found : ℕ) (after : Me S View) : Type 0 where
    pub knows : after ≡ (claimed step.word (shade_of found) before.0, before.1)
    pub new : found ≡ 0 → IsNewTo before.0 step.word

  abbrev pub Counted : ℕ → Step S → Me S View → ℕ → Me S View → Type 0
  Counted object step before found after = after ≡ (counted object before.0, before.1)

  abbrev pub Blackened : Step S → Me S View → ℕ → Me S View → Type 0
  Blackened step before found after = after ≡ (blackened step.word before.0, before.1)

  -- a pass has at most the total weight of all passes
  abbrev pub Weighed : Step S → Me S View → ℕ → Me S View → Type 0
  Weighed step before found after = (after ≡ before) × (before.0.weight ≤ 64)

-- what a pass that is the share of all workers knows about an object's shade
abbrev pub shade_known : View → ℕ → Shade
shade_known view object =
    if nat_lt 0 (times object view.blackened) then Black else (if nat_lt 0 (times object view.won) then Grey else White)

-- the shades when a table is closed by the pass that knows everything: it knows each object's
-- shade, it won each marked object once, what it has seen is marked, and marking can be finished
-- from them
pub record AreClosed (memory : Memory) (weak : Weak) (view : View) (shades : List Shade) : Type 0 where
  pub known : (object : ℕ) → shade_at shades object ≡ shade_known view object
  pub once : (object : ℕ) → times object view.won ≡ wins (shade_at shades object)
  pub seen : (object : ℕ) → HasSeen view object → is_marked (marks_of shades) object ≡ true
  pub lawful : AreLawfulOf memory weak shades
