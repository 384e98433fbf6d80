-- The best step from a word, after those from all later words.
-- Serves `WalkLemmas` and `steps`.
use Rattle.std.proofs.Common.{◌≡◌, ℕ, suc, ◌+◌, ◌-◌, ◌*◌, ◌^◌, ◌<◌, ◌≤◌, Bool, true, false, List, [], ◌∷◌, length, take, drop}
use Rattle.std.proofs.Common.{sym, ap, subst, ◌∙◌, arith, inl, inr}
use Rattle.std.proofs.lemmas.Bool.{cases_lt}
use Rattle.std.proofs.lemmas.List.{length-drop, length-take-le, append-nil}
use Rattle.sqz_object.specs.Chunk.{IsChunk}
use Rattle.sqz_object.specs.Reading.{BeginsWith}
use Rattle.sqz_object.specs.declared.chunk.Chunk.{Chunk as Header}
use Rattle.sqz_object.proofs.ChunkLemmas.{chunk_prefix_unique, length-chunk}
use Rattle.sqz_damage.specs.declared.step.Step.{Step}
use Rattle.sqz_damage.specs.declared.step.WayOn.{WayOn}
use Rattle.sqz_damage.specs.Readings.{Chunk, Skipped, IsReading, part_cost, skip_cost}
use Rattle.sqz_damage.specs.Steps.{cost_at, IsLeast, IsStep, AreSteps, IsWayOn}
use Rattle.sqz_damage.proofs.ReadingLemmas.{front_is, IsReading-rest, front-le, no_parts}

module _ (votes : ℕ → ℕ) (words : List ℕ) where
  -- ---- a bound on all readings

  -- no reading from `p` on is below a bound that is below all chunks there, and all gaps
  pub IsLeast-at : (onward : ℕ → ℕ) (p least : ℕ) → p < length words
      → ((q : ℕ) → p < q → q ≤ length words → IsLeast votes words q (onward q))
      → ((chunk : List ℕ) → IsChunk chunk → take (length chunk) (drop p words) ≡ chunk → p + length chunk ≤ length words
      → least ≤ part_cost votes p (Chunk chunk) + onward (p + length chunk))
      → ((end : ℕ) → p < end → end ≤ length words → least ≤ 4 * 2 ^ 30 + skip_cost votes p (end - p) + onward end)
      → IsLeast votes words p least
  IsLeast-at onward p least lt later read skipped [] reading = absurd (no_parts words p lt reading)
  IsLeast-at onward p least lt later read skipped (Chunk chunk ∷ parts) reading =
      let inside = front-le words p (Chunk chunk) parts reading (omega arith) in
      let some = length-chunk chunk reading.each.0 in
      omega (
        arith,
        read chunk reading.each.0 (front_is words p (Chunk chunk) parts reading) inside,
        later (p + length chunk) (omega arith) inside parts (IsReading-rest words p (Chunk chunk) parts reading),
      )
  IsLeast-at onward p least lt later read skipped (Skipped run ∷ parts) reading =
      let inside = front-le words p (Skipped run) parts reading (omega arith) in
      let some = reading.each.0 in
      let size : p + length run - p ≡ length run = omega arith in
      let bound = rw size at (skipped (p + length run) (omega arith) inside) in
      omega (
        arith,
        bound,
        later (p + length run) (omega arith) inside parts (IsReading-rest words p (Skipped run) parts reading),
      )

  -- all words in one gap are a reading
  one_gap : (p : ℕ) → p < length words → IsReading (drop p words) (Skipped (drop p words) ∷ [])
  one_gap p lt =
      record { each = (omega (arith, length-drop p words), tt); whole = append-nil (drop p words) }

  -- so a best one costs no more
  IsLeast-le : (p least : ℕ) → p < length words → IsLeast votes words p least
      → least ≤ 4 * 2 ^ 30 + skip_cost votes p (length words - p)
  IsLeast-le p least lt is =
      let bound = rw (length-drop p words) at (is (Skipped (drop p words) ∷ []) (one_gap p lt)) in
      omega (arith, bound)

  module _ (p : ℕ) (steps : List Step) (are : AreSteps votes words p steps) where
    -- the cost of each step is that of a best reading
    pub least_from : (q : ℕ) → p ≤ q → q ≤ length words → IsLeast votes words q (cost_at steps q)
    least_from q low high parts reading =
        elim (cases_lt q (length words)) [
          | inl lt ↦ (are.each q low lt).least parts reading
          | inr ge ↦
              let end : q ≡ length words = omega arith in
              let none : cost_at steps q ≡ 0 = ap (cost_at steps) end ∙ are.last in
              omega (arith, none)
        ]

    -- it is bounded
    pub cost_at-le : (q : ℕ) → p ≤ q → q ≤ length words
        → cost_at steps q ≤ 4 * 2 ^ 30 + skip_cost votes q (length words - q)
    cost_at-le q low high =
        elim (cases_lt q (length words)) [
          | inl lt ↦ IsLeast-le q (cost_at steps q) lt (least_from q low high)
          | inr ge ↦
              let end : q ≡ length words = omega arith in
              let none : cost_at steps q ≡ 0 = ap (cost_at steps) end ∙ are.last in
              omega (arith, none)
        ]

  -- ---- the best step from a word

  -- a step that reads a chunk
  abbrev pub reads : ℕ → ℕ → Step
  reads cost end = record { cost = cost; end = end; is_gap = false }

  -- a step that skips words
  abbrev pub skips : ℕ → ℕ → Step
  skips cost end = record { cost = cost; end = end; is_gap = true }

  -- a step whose parts are known
  pub step_that_reads : (step : Step) (end : ℕ) → step.end ≡ end → step.is_gap ≡ false → step ≡ reads step.cost end
  step_that_reads step end e g =
      ap (λ (n : ℕ). record { cost = step.cost; end = n; is_gap = step.is_gap }) e
      ∙ ap (λ (b : Bool). record { cost = step.cost; end = end; is_gap = b }) g

  module _ (p : ℕ) (lt : p < length words) (steps : List Step) (are : AreSteps votes words (suc p) steps)
      (skipped : WayOn) (way : IsWayOn votes words (cost_at steps) p (suc p) skipped) where
    later : (q : ℕ) → p < q → q ≤ length words → IsLeast votes words q (cost_at steps q)
    later q low high = least_from (suc p) steps are q (omega arith) high

    -- the step into the best gap, if no chunk costs less
    pub IsStep-skips : ((chunk : List ℕ) → IsChunk chunk → take (length chunk) (drop p words) ≡ chunk
        → p + length chunk ≤ length words
        → 4 * 2 ^ 30 + skipped.cost ≤ part_cost votes p (Chunk chunk) + cost_at steps (p + length chunk))
        → IsStep votes words (cost_at steps) p (skips (4 * 2 ^ 30 + skipped.cost) skipped.end)
    IsStep-skips dear =
        let ahead = way.late in
        let inside = way.inside in
        let size : length (take (skipped.end - p) (drop p words)) ≡ skipped.end - p =
        length-take-le (skipped.end - p) (drop p words) (omega (arith, length-drop p words)) in
        record {
          ahead = omega arith;
          inside = inside;
          part = omega (arith, size);
          cost_is = rw size (omega (arith, way.cost_is));
          least =
              IsLeast-at (cost_at steps) p (4 * 2 ^ 30 + skipped.cost) lt later dear
              (λ end low high. omega (arith, way.least end (omega arith) high));
        }

    module _ (header : Header) (begins : BeginsWith (drop p words) header) where
      abbrev here : List ℕ
      here = take header.length (drop p words)

      size_here : length here ≡ header.length
      size_here = length-take-le header.length (drop p words) begins.inside

      -- the only chunk at the word
      same_chunk : (chunk : List ℕ) → IsChunk chunk → take (length chunk) (drop p words) ≡ chunk
          → p + length chunk ≤ length words → chunk ≡ here
      same_chunk chunk is_chunk front inside =
          let same : length chunk ≡ header.length =
          chunk_prefix_unique (drop p words) (length chunk) header.length (omega (arith, length-drop p words)) begins.inside
          (subst IsChunk (sym front) is_chunk) (header.kind, begins.is_chunk) in
          sym front ∙ ap (λ (n : ℕ). take n (drop p words)) same

      -- so what its step costs bounds all
      cost_of_same : (cost : ℕ) → cost ≡ part_cost votes p (Chunk here) + cost_at steps (p + header.length)
          → (chunk : List ℕ) → IsChunk chunk → take (length chunk) (drop p words) ≡ chunk → p + length chunk ≤ length words
          → part_cost votes p (Chunk chunk) + cost_at steps (p + length chunk) ≡ cost
      cost_of_same cost is chunk is_chunk front inside =
          let same = same_chunk chunk is_chunk front inside in
          ap (λ (c : List ℕ). part_cost votes p (Chunk c) + cost_at steps (p + length c)) same
          ∙ ap (λ (n : ℕ). part_cost votes p (Chunk here) + cost_at steps (p + n)) size_here
          ∙ sym is

      -- the step over the chunk, if it costs no more than the best gap
      pub IsStep-reads : (cost : ℕ) → cost ≡ part_cost votes p (Chunk here) + cost_at steps (p + header.length)
          → cost ≤ 4 * 2 ^ 30 + skipped.cost
          → IsStep votes words (cost_at steps) p (reads cost (p + header.length))
      IsStep-reads cost is cheap =
          let some = length-chunk here (header.kind, begins.is_chunk) in
          let inside = begins.inside in
          let size : p + header.length - p ≡ header.length = omega arith in
          record {
            ahead = omega (arith, size_here);
            inside = omega (arith, length-drop p words);
            part = rw size (header.kind, begins.is_chunk);
            cost_is = rw size is;
            least =
                IsLeast-at (cost_at steps) p cost lt later
                (λ chunk is_chunk front fits. omega (arith, cost_of_same cost is chunk is_chunk front fits))
                (λ end low high. omega (arith, way.least end (omega arith) high));
          }

      -- the step into the best gap, if the chunk costs more
      pub IsStep-skips_chunk : (cost : ℕ) → cost ≡ part_cost votes p (Chunk here) + cost_at steps (p + header.length)
          → 4 * 2 ^ 30 + skipped.cost < cost
          → IsStep votes words (cost_at steps) p (skips (4 * 2 ^ 30 + skipped.cost) skipped.end)
      IsStep-skips_chunk cost is dear =
          IsStep-skips
          (λ chunk is_chunk front fits. omega (arith, cost_of_same cost is chunk is_chunk front fits))
