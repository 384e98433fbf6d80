use Rattle.std.proofs.Common.{◌≡◌, ℕ, List, None, sym, subst, ◌∙◌, inr}
use Rattle.sqz_object.specs.Bytes.{words_of}
use Rattle.sqz_image.specs.Index.{IsIndex}
use Rattle.sqz_image.specs.Memory.{memory_of, base_headers, IsListed}
use Rattle.sqz_image.specs.Objects.{find}
use Rattle.sqz_image.specs.Ranks.{IsRanked}
use Rattle.sqz_image.proofs.HeapLemmas.{listed_of, headers_of, table_of}
use Rattle.sqz_image.proofs.HeapLemmas.{find_in_table, lacks_special_of}
use Rattle.sqz_image.proofs.heap.HeapIndex.of.Goals as goal
use Rattle.sqz_image.proofs.heap.HeapIndex.of.Goals.{After-of-words, In_ok-index, After-place_at}

-- the words are those of the bytes
words_are : (c : After-of-words) → c.of-words.result ≡ words_of c.args.order c.args.bytes.now
words_are c = c.of-words.ensures

index_is : (c : In_ok-index)
    → IsIndex (words_of c.args.order c.args.bytes.now) c.in_ok-index.index.starts.items c.in_ok-index.index.headers.items
index_is c =
    subst (λ (words : List ℕ). IsIndex words c.in_ok-index.index.starts.items c.in_ok-index.index.headers.items)
    (words_are (goal.at.In_ok-index c).After-of-words) c.in_ok-index.ensures.index

listed : (c : In_ok-index)
    → IsListed (memory_of c.args.order c.args.base c.args.special (words_of c.args.order c.args.bytes.now)) (words_of c.args.order c.args.bytes.now) c.in_ok-index.index.starts.items
listed c =
    listed_of c.args.order c.args.base c.args.special (index_is c)
    c.requires.few c.requires.within c.requires.aligned

ranked : (c : In_ok-index)
    → IsRanked (base_headers (memory_of c.args.order c.args.base c.args.special (words_of c.args.order c.args.bytes.now))) c.in_ok-index.index.headers.items
ranked c = headers_of c.args.order c.args.base c.args.special (index_is c)

pub place_at-requires : goal.place_at-requires
place_at-requires c =
    let read = (goal.at.place_at-requires c).In_ok-index in
    rw c.deref.ensures.value (table_of (listed read) (ranked read))

-- what the look for the special objects array says
found : (c : After-place_at)
    → find (memory_of c.args.order c.args.base c.args.special (words_of c.args.order c.args.bytes.now)) c.args.special ≡ c.place_at.result
found c =
    let at = goal.at.After-place_at c in
    sym
    (find_in_table (listed at.In_ok-index) c.args.special c.place_at.result (ranked at.In_ok-index)
    (rw c.deref.ensures.value at c.place_at.ensures))

pub returns-in_default-clause-refused : goal.returns-in_default-clause-refused
returns-in_default-clause-refused c =
    let at = goal.at.returns-in_default-clause-refused c in
    let missing =
    find_in_table (listed at.In_ok-index) c.args.special None (ranked at.In_ok-index)
    (rw c.deref.ensures.value at c.in_default.ensures) in
    inr (inr (lacks_special_of c.args.order c.args.base c.args.special (index_is at.In_ok-index) (sym missing)))

pub returns-clause-kept : goal.returns-clause-kept
returns-clause-kept c =
    let at = goal.at.returns-clause-kept c in
    record {
      listed = listed at.In_ok-index;
      headers = ranked at.In_ok-index;
      found = found at.After-place_at ∙ c.in-Some.is;
    }
