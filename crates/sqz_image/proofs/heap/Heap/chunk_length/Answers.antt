use Rattle.std.proofs.Common.{◌≡◌, ◌+◌, length, refl, ap, sym, arith}
use Rattle.std.proofs.lemmas.List.{get_or_read}
use Rattle.sqz_image.specs.Objects.{objects}
use Rattle.sqz_image.specs.Starts.{first_of, start_at, object_in, IsNextAfter}
use Rattle.sqz_image.proofs.HeapLemmas.{listed_is, few_objects, first_there, length_starts, next_read}
use Rattle.sqz_image.proofs.heap.Heap.chunk_length.Goals as goal
use Rattle.sqz_image.proofs.heap.Heap.chunk_length.Goals.{Then-is_followed}

-- what was read of the object's start
read : (c : Then-is_followed) → start_at c.self.inside.starts.items c.args.object ≡ c.index.result.now
read c =
    let heap = listed_is c.self.view_is c.self.invariant in
    sym
    (get_or_read c.self.inside.starts.items _ _ (omega (arith, length_starts heap, c.requires)) c.index.ensures
    record { index = 0 })

-- the next object begins where this one ends
next : (c : Then-is_followed) → IsNextAfter (objects c.args.self.now) c.args.object
next c =
    next_read (listed_is c.self.view_is c.self.invariant) c.args.object c.index.result.now c.requires (read c)
    (c.if-is_followed.ensures.0 refl)

-- the next object begins where this one ends, by its start and its length
next_first : (c : Then-is_followed) → (object_in (objects c.args.self.now) (c.args.object + 1)).first
    ≡ first_of c.index.result.now + length (object_in (objects c.args.self.now) c.args.object).chunk
next_first c =
    let heap = listed_is c.self.view_is c.self.invariant in
    omega (arith, (next c).adjacent, ap first_of (read c), first_there heap c.args.object c.requires)

pub overflow_add-object : goal.overflow_add-object
overflow_add-object c =
    omega (arith, (next c).inside, few_objects (listed_is c.self.view_is c.self.invariant))

pub first-requires : goal.first-requires
first-requires c = (next c).inside

pub overflow_sub-result : goal.overflow_sub-result
overflow_sub-result c =
    let here = next_first (goal.at.overflow_sub-result c).Then-is_followed in
    omega (arith, here, c.first.ensures.first, c.first-then-is_followed.ensures.first)

pub returns-then-is_followed-clause-length : goal.returns-then-is_followed-clause-length
returns-then-is_followed-clause-length c =
    let here = next_first (goal.at.returns-then-is_followed-clause-length c).Then-is_followed in
    omega (arith, here, c.first.ensures.first, c.first-then-is_followed.ensures.first)
