-- The core of marking by several passes: their shared state, the events that change it, and their
-- legal runs.
use Rattle.std.specs.Prelude.{◌≡◌, ◌≢◌, ℕ, ◌+◌, ◌-◌, ◌<◌, ◌≤◌, ◌==◌, List, [], ◌∷◌, ◌++◌, length, count_by}
use Rattle.std.specs.Prelude.{slice_index, slice_index_or, slice_set, replicate}
use Rattle.sqz_trace.specs.declared.shades.Shade.{Shade}
use Rattle.sqz_trace.specs.declared.shades.Shade.TheVariants.{White, Grey, Black}
use Rattle.sqz_image.specs.Objects.{chunk_words}
use Rattle.sqz_trace.specs.declared.weak.Weak.{Weak}
use Rattle.sqz_trace.specs.Graph.{Graph}
use Rattle.sqz_trace.specs.Reachability.{graph_from}
use Rattle.sqz_trace.specs.Shades.{shade_at}
use Rattle.sqz_regions.specs.Regions.{Regioning, region_at, region_count}
use Rattle.sqz_marks.specs.declared.view.View.{View}

-- what is to be marked, and by how many workers: a graph, the number of regions, and each object's
-- region and length in words
pub record Marking : Type 1 where
  pub graph : Graph
  pub regions : ℕ
  pub region : ℕ → ℕ
  pub words : ℕ → ℕ
  pub workers : ℕ

-- the marking of an object memory under a cut; the object with this index is the special objects
-- array
abbrev pub marking_of : Regioning → Weak → ℕ → ℕ → Marking
marking_of heap weak workers start =
    record {
      graph = graph_from start heap.memory weak;
      regions = region_count heap.cut heap.memory;
      region = region_at heap.cut heap.memory;
      words = λ object. length (chunk_words heap.memory object);
      workers = workers;
    }

-- the shades of the objects, the number of words counted in each region, and what each pass knows
pub record State : Type 0 where
  pub shades : List Shade
  pub sums : List ℕ
  pub passes : List View

-- how often an object occurs in a list
abbrev pub times : ℕ → List ℕ → ℕ
times object list = count_by (λ other. other == object) list

abbrev pub HasWon : View → ℕ → Type 0
HasWon view object = 0 < times object view.won

abbrev pub HasSeen : View → ℕ → Type 0
HasSeen view object = 0 < times object view.seen

abbrev pub HasCounted : View → ℕ → Type 0
HasCounted view object = 0 < times object view.counted

abbrev pub HasBlackened : View → ℕ → Type 0
HasBlackened view object = 0 < times object view.blackened

-- what is left of a pass that another took in
abbrev pub spent : View
spent = record { weight = 0; won = []; seen = []; counted = []; blackened = [] }

-- what the pass with this number knows
abbrev pub pass_at : List View → ℕ → View
pass_at passes pass = slice_index_or passes pass spent

-- what passes do: each event is one atomic step
pub data Event : Type 0 where
  -- looks at an object
  Look : ℕ → Event
  -- claims an object along an edge from another, which comes first
  Claim : ℕ → ℕ → Event
  -- counts the words of an object that it won
  Count : ℕ → Event
  -- makes an object black
  Blacken : ℕ → Event
  -- gives a part of its weight to a new pass
  Split : ℕ → Event
  -- takes in another pass
  Join : ℕ → Event

-- a pass that knows more: it saw an object, won one, counted one, or knows one to be black
abbrev pub seen_by : ℕ → View → View
seen_by object view =
    record { weight = view.weight; won = view.won; seen = object ∷ view.seen; counted = view.counted; blackened = view.blackened }

abbrev pub won_by : ℕ → View → View
won_by object view =
    record { weight = view.weight; won = object ∷ view.won; seen = object ∷ view.seen; counted = view.counted; blackened = view.blackened }

abbrev pub counted : ℕ → View → View
counted object view =
    record { weight = view.weight; won = view.won; seen = view.seen; counted = object ∷ view.counted; blackened = view.blackened }

abbrev pub blackened : ℕ → View → View
blackened object view =
    record { weight = view.weight; won = view.won; seen = view.seen; counted = view.counted; blackened = object ∷ view.blackened }

-- a pass sees an object, by the shade that it found
abbrev pub looked : ℕ → Shade → View → View
looked object White view = view
looked object Grey view = seen_by object view
looked object Black view = blackened object (seen_by object view)

-- a pass claims an object, by the shade that it found: a white one is won
abbrev pub claimed : ℕ → Shade → View → View
claimed object White view = won_by object view
claimed object Grey view = seen_by object view
claimed object Black view = seen_by object view

-- the shade of an object after it is claimed
abbrev pub greyed : Shade → Shade
greyed White = Grey
greyed Grey = Grey
greyed Black = Black

-- a pass that gave this weight up, and the new pass that has it
abbrev pub kept_of : ℕ → View → View
kept_of weight view =
    record { weight = view.weight - weight; won = view.won; seen = view.seen; counted = view.counted; blackened = view.blackened }

abbrev pub part_of : ℕ → View
part_of weight = record { weight = weight; won = []; seen = []; counted = []; blackened = [] }

-- two passes that became one
abbrev pub joined : View → View → View
joined view other =
    record {
      weight = view.weight + other.weight;
      won = view.won ++ other.won;
      seen = view.seen ++ other.seen;
      counted = view.counted ++ other.counted;
      blackened = view.blackened ++ other.blackened;
    }

-- the sums of the regions after an object of this many words is counted in a region
abbrev pub grown : List ℕ → ℕ → ℕ → List ℕ
grown sums region words = slice_set sums region (slice_index sums region + words)

-- the condition of an event of a pass
abbrev pub Meets : Marking → State → ℕ → Event → Type 0
Meets marking state pass (Look object) = (1 ≤ (pass_at state.passes pass).weight) × (object < marking.graph.count)
Meets marking state pass (Claim parent object) =
    HasSeen (pass_at state.passes pass) parent × (object < marking.graph.count) × marking.graph.Edge parent object
Meets marking state pass (Count object) =
    HasWon (pass_at state.passes pass) object × (times object (pass_at state.passes pass).counted ≡ 0)
Meets marking state pass (Blacken object) =
    HasSeen (pass_at state.passes pass) object × (object < marking.graph.count)
    × ((target : ℕ) → marking.graph.Edge object target → HasSeen (pass_at state.passes pass) target)
Meets marking state pass (Split weight) = (1 ≤ weight) × (weight < (pass_at state.passes pass).weight)
Meets marking state pass (Join other) =
    (other ≢ pass) × (other < length state.passes) × (1 ≤ (pass_at state.passes other).weight)

-- the state after an event of a pass
abbrev pub after : Marking → State → ℕ → Event → State
after marking state pass (Look object) =
    record {
      shades = state.shades;
      sums = state.sums;
      passes = slice_set state.passes pass (looked object (shade_at state.shades object) (pass_at state.passes pass));
    }
after marking state pass (Claim parent object) =
    record {
      shades = slice_set state.shades object (greyed (shade_at state.shades object));
      sums = state.sums;
      passes = slice_set state.passes pass (claimed object (shade_at state.shades object) (pass_at state.passes pass));
    }
after marking state pass (Count object) =
    record {
      shades = state.shades;
      sums = grown state.sums (marking.region object) (marking.words object);
      passes = slice_set state.passes pass (counted object (pass_at state.passes pass));
    }
after marking state pass (Blacken object) =
    record {
      shades = slice_set state.shades object Black;
      sums = state.sums;
      passes = slice_set state.passes pass (blackened object (pass_at state.passes pass));
    }
after marking state pass (Split weight) =
    record {
      shades = state.shades;
      sums = state.sums;
      passes = slice_set state.passes pass (kept_of weight (pass_at state.passes pass)) ++ part_of weight ∷ [];
    }
after marking state pass (Join other) =
    record {
      shades = state.shades;
      sums = state.sums;
      passes = slice_set (slice_set state.passes pass (joined (pass_at state.passes pass) (pass_at state.passes other))) other spent;
    }

-- the pass with which marking begins: it is the share of all workers, and has won and counted the
-- object at which all paths start
abbrev pub first_view : ℕ → ℕ → View
first_view workers start = record { weight = workers; won = start ∷ []; seen = start ∷ []; counted = start ∷ []; blackened = [] }

-- the state in which marking begins: the start is grey and counted in its region, every other
-- object is white
abbrev pub opening : Marking → State
opening marking =
    record {
      shades = slice_set (replicate marking.graph.count White) marking.graph.start Grey;
      sums = grown (replicate marking.regions 0) (marking.region marking.graph.start) (marking.words marking.graph.start);
      passes = first_view marking.workers marking.graph.start ∷ [];
    }

-- events, each of one of the passes and with its condition met, lead from one state to another
abbrev pub LeadsTo : Marking → State → List (ℕ × Event) → State → Type 0
LeadsTo marking from [] to = from ≡ to
LeadsTo marking from ((pass, event) ∷ run) to =
    (pass < length from.passes) × Meets marking from pass event × LeadsTo marking (after marking from pass event) run to

-- a legal run, in any interleaving of its passes' events, leads from the opening to this state
abbrev pub IsLegalRun : Marking → List (ℕ × Event) → State → Type 0
IsLegalRun marking run state = LeadsTo marking (opening marking) run state
