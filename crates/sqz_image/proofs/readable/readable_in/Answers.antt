use Rattle.std.proofs.Common.{◌≡◌, ℕ, ◌+◌, ◌-◌, ◌*◌, ◌<◌, ◌∙◌, List, drop, sym, ap, subst, arith}
use Rattle.std.proofs.lemmas.List.{get_or_read}
use Rattle.sqz_object.specs.declared.chunk.Chunk.{Chunk}
use Rattle.sqz_object.specs.declared.order.Order.TheVariants.{Little}
use Rattle.sqz_object.specs.Reading.{BeginsWith, description}
use Rattle.sqz_image.specs.Memory.{memory_of, IsListed}
use Rattle.sqz_image.specs.Objects.{Memory, object_count, object_at, address_of}
use Rattle.sqz_image.specs.Starts.{first_of, start_at}
use Rattle.sqz_image.proofs.HeapLemmas.{listed_of, has_object, first_there, length_starts, few_objects, HasObject}
use Rattle.sqz_image.proofs.HeapLemmas.{chunk_there, begins_there}
use Rattle.sqz_image.proofs.readable.readable_in.Goals as goal
use Rattle.sqz_image.proofs.readable.readable_in.Goals.{After-len-objects, After-first-first}

abbrev read : After-len-objects → Memory
read c = memory_of Little c.args.base 0 c.args.words.now

listed : (c : After-len-objects) → IsListed (read c) c.args.words.now c.in-Ok.index.starts.items
listed c = listed_of Little c.args.base 0 c.in-Ok.ensures.index c.requires.few c.requires.within c.requires.aligned

count : (c : After-len-objects) → c.len-objects.result ≡ object_count (read c)
count c = c.len-objects.ensures ∙ c.in-Ok.index.starts.ok.0 ∙ length_starts (listed c)

few : (c : After-len-objects) → c.len-objects.result < 1073741824
few c = omega (arith, count c, few_objects (listed c))

pub overflow_cast-objects : goal.overflow_cast-objects
overflow_cast-objects c = omega (arith, few (goal.at.overflow_cast-objects c).After-len-objects)

abbrev last : After-len-objects → ℕ
last c = c.len-objects.result - 1

last_is_object : (c : After-first-first) → last (goal.at.After-first-first c).After-len-objects < object_count (read (goal.at.After-first-first c).After-len-objects)
last_is_object c = omega (arith, count (goal.at.After-first-first c).After-len-objects, c.if-objects-eq0.false)

here : (c : After-first-first) → HasObject c.args.words.now
    (object_at (read (goal.at.After-first-first c).After-len-objects) (c.len-objects.result - 1))
here c = has_object (listed (goal.at.After-first-first c).After-len-objects) (c.len-objects.result - 1) (last_is_object c)

-- what was read of the last object's start
first_is : (c : After-first-first) → c.first-first.result
    ≡ (object_at (read (goal.at.After-first-first c).After-len-objects) (c.len-objects.result - 1)).first
first_is c =
    let before = (goal.at.After-first-first c).After-len-objects in
    let start : c.index.result.now ≡ start_at c.in-Ok.index.starts.items (c.len-objects.result - 1) =
    get_or_read c.in-Ok.index.starts.items _ _ (omega (arith, length_starts (listed before), last_is_object c)) c.index.ensures
    record { index = 0 } in
    c.first-first.ensures.first ∙ ap first_of start ∙ first_there (listed before) (c.len-objects.result - 1) (last_is_object c)

words_are : (c : After-first-first)
    → drop (object_at (read (goal.at.After-first-first c).After-len-objects) (c.len-objects.result - 1)).first c.args.words.now
    ≡ drop c.first-first.result c.args.words.now
words_are c = ap (λ (n : ℕ). drop n c.args.words.now) (sym (first_is c))

pub known_chunk-requires-clause-begins : goal.known_chunk-requires-clause-begins
known_chunk-requires-clause-begins c =
    let at = (goal.at.known_chunk-requires-clause-begins c).After-first-first in
    let object = object_at (read (goal.at.After-first-first at).After-len-objects) (c.len-objects.result - 1) in (
      description object.chunk,
      subst (λ (words : List ℕ). BeginsWith words (description object.chunk)) (words_are at) (begins_there (here at)),
    )

pub returns : goal.returns
returns c =
    let at = (goal.at.returns c).After-first-first in
    let memory = read (goal.at.After-first-first at).After-len-objects in
    let object = object_at memory (c.len-objects.result - 1) in
    let chunk_is =
    chunk_there (here at) c.known_chunk.result
    (subst (λ (words : List ℕ). BeginsWith words c.known_chunk.result) (sym (words_are at)) c.known_chunk.ensures) in
    record {
      chunks = memory.chunks;
      partition = (listed (goal.at.After-first-first at).After-len-objects).partition;
      objects = count (goal.at.After-first-first at).After-len-objects;
      last =
          ap (λ (n : ℕ). c.args.base + 4 * (n + c.known_chunk.result.before)) (first_is at)
          ∙ ap (λ (chunk : Chunk). c.args.base + 4 * (object.first + chunk.before)) chunk_is
          ∙ ap (λ (n : ℕ). address_of memory (n - 1)) (count (goal.at.After-first-first at).After-len-objects);
      none = tt;
    }
