-- One step of marking: the targets of an object get their marks, and those that had none join the
-- worklist.
use Rattle.std.specs.Prelude.{◌≡◌, ℕ, suc, ◌+◌, Bool, true, false, ◌⊎◌, List, [], ◌∷◌, length, Contains}
use Rattle.sqz_trace.specs.Graph.{is_marked}

-- the number of objects without a mark
abbrev pub unmarked_count : List Bool → ℕ
unmarked_count [] = 0
unmarked_count (true ∷ marks) = unmarked_count marks
unmarked_count (false ∷ marks) = suc (unmarked_count marks)

-- marks and a worklist, before and after: the targets are marked, and those that had no mark
-- joined the worklist
pub record MarksTargets (IsTarget : ℕ → Type 0) (old : List Bool) (queue : List ℕ) (new : List Bool) (longer : List ℕ) : Type 0 where
  pub sized : length new ≡ length old
  pub keeps : (index : ℕ) → is_marked old index ≡ true → is_marked new index ≡ true
  pub targets : (index : ℕ) → IsTarget index → is_marked new index ≡ true
  pub only : (index : ℕ) → is_marked new index ≡ true → (is_marked old index ≡ true) ⊎ (IsTarget index × Contains longer index)
  pub queued : (index : ℕ) → Contains queue index → Contains longer index
  pub added : (index : ℕ) → Contains longer index → Contains queue index ⊎ (is_marked new index ≡ true)
  pub measure : unmarked_count new + length longer ≡ unmarked_count old + length queue
