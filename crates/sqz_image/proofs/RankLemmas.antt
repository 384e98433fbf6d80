-- The table of ranks while it is filled, and what a lookup returns.
-- Serves `ranks::add`, `ranks::place_of` and `IndexLemmas`.
use Rattle.std.proofs.Common.{◌≡◌, ◌≢◌, ℕ, suc, ◌+◌, ◌-◌, ◌*◌, ◌/◌, ◌%◌, ◌^◌, ◌<◌, ◌≤◌, List, [], ◌∷◌, ◌++◌, length}
use Rattle.std.proofs.Common.{take, set, replicate, slice_index, count_ones, bit_and, bit_or, Some, None, refl}
use Rattle.std.proofs.Common.{sym, ap, ◌∙◌, arith, inl, inr}
use Rattle.std.specs.Int.{bit_at}
use Rattle.std.proofs.lemmas.Bool.{cases_eq, cases_lt, cases_order}
use Rattle.std.proofs.lemmas.List.{take_all, length-append, length-replicate, length-set, get_or-set_same}
use Rattle.std.proofs.lemmas.List.{get_or-set_other, get_or_append_left, get_or-append_right, get_or-replicate}
use Rattle.std.proofs.lemmas.List.{get_or_past}
use Rattle.std.proofs.lemmas.Nat.{pow-add, and_mask, or_shifted, or_comm, one_shl, ones_cat, ones_le_self, mod_low}
use Rattle.std.specs.Int.Count.{ones-ones}
use Rattle.std.proofs.lemmas.Nat.Bits.{and_pow, bit_at-lt, bit_at-zero, bit_at_above, bit_at_cat_low, bit_at_cat_high}
use Rattle.std.proofs.Math.Nat.{mul-add-mod_self_right, two-pow-succ}
use Rattle.std.proofs.Math.Pow.{pow_mono, pow_pos}
use Rattle.sqz_image.specs.declared.ranks.Block.{Block}
use Rattle.sqz_image.specs.Ranks.{IsPlaceOf, IsMember, IsRanked, IsAbove, IsReady, IsFilled, block_of, rank}

-- ---- one bit more, above the others

abbrev with_bit : ℕ → ℕ → ℕ
with_bit k bits = 1 * 2 ^ k + bits

pub or_bit : (k bits : ℕ) → k < 32 → bits < 2 ^ k → bit_or bits (1 * 2 ^ k % 2 ^ 32) ≡ with_bit k bits
or_bit k bits inside below =
    ap (bit_or bits) (one_shl k 32 inside ∙ omega arith) ∙ or_comm bits (1 * 2 ^ k) ∙ or_shifted 1 k bits below

ones-with_bit : (k bits : ℕ) → bits < 2 ^ k → count_ones (with_bit k bits) ≡ 1 + count_ones bits
ones-with_bit k bits below = omega (arith, ones_cat k 1 bits below, ones-ones 1)

bit_at-with_bit : (k bits : ℕ) → bits < 2 ^ k → bit_at (with_bit k bits) k ≡ 1
bit_at-with_bit k bits below =
    let none : k - k ≡ 0 = omega arith in
    bit_at_cat_high 1 k bits k below (omega arith) ∙ ap (bit_at 1) none

bit_at-with_bit_above : (k bits j : ℕ) → bits < 2 ^ k → k < j → bit_at (with_bit k bits) j ≡ 0
bit_at-with_bit_above k bits j below above =
    bit_at_cat_high 1 k bits j below (omega arith) ∙ bit_at_above 1 1 (j - k) (omega arith) (omega arith)

mod-with_bit : (k bits j : ℕ) → j ≤ k → with_bit k bits % 2 ^ j ≡ bits % 2 ^ j
mod-with_bit k bits j le =
    let split : 2 ^ k ≡ 2 ^ (k - j) * 2 ^ j = ap (λ (n : ℕ). 2 ^ n) (omega arith) ∙ pow-add 2 (k - j) j in
    ap (λ (n : ℕ). (n + bits) % 2 ^ j) (omega arith ∙ split) ∙ mul-add-mod_self_right (2 ^ (k - j)) (2 ^ j) bits

with_bit_below : (k bits j : ℕ) → bits < 2 ^ k → k < j → with_bit k bits < 2 ^ j
with_bit_below k bits j below above =
    omega (arith, two-pow-succ k, pow_mono {i = suc k} {j = j} above)

-- ---- where a number's bit is

abbrev no_members : Block
no_members = record { members = 0; below = 0 }

pub member_inside : (blocks : List Block) (x : ℕ) → IsMember blocks x → x / 32 < length blocks
member_inside blocks x is =
    elim (cases_lt (x / 32) (length blocks)) [
      | inl lt ↦ lt
      | inr past ↦
          let empty : block_of blocks x ≡ no_members = get_or_past blocks (x / 32) no_members past in
          let clear = ap (λ (block : Block). bit_at block.members (x % 32)) empty in
          absurd (omega (arith, sym is, clear, bit_at-zero (x % 32)))
    ]

-- ---- the numbers so far

-- the table of the numbers so far, with a block for the next one
pub record IsAwaiting (numbers : List ℕ) (next : ℕ) (blocks : List Block) : Type 0 where
  pub ranked : IsRanked numbers blocks
  pub ready : IsReady blocks (length numbers) next

pub IsFilled-empty : IsFilled [] []
IsFilled-empty =
    record {
      ranked = record {
        member = λ i lt. absurd (omega (arith, lt));
        place = λ i lt. absurd (omega (arith, lt));
        only = λ x is. absurd (omega (arith, member_inside [] x is));
      };
      reach = λ x above. omega arith;
      ready = λ x above lt. absurd (omega (arith, lt));
    }

-- ---- the next number

module _ (numbers : List ℕ) (next : ℕ) where
  abbrev count : ℕ
  count = length numbers

  abbrev with_next : List ℕ
  with_next = numbers ++ next ∷ []

  one_more : length with_next ≡ count + 1
  one_more = length-append numbers (next ∷ [])

  at_before : (i : ℕ) → i < count → slice_index with_next i ≡ slice_index numbers i
  at_before i lt = get_or_append_left numbers (next ∷ []) 0 i lt

  at_next : slice_index with_next count ≡ next
  at_next =
      let none : count - count ≡ 0 = omega arith in
      get_or-append_right numbers (next ∷ []) count count 0 refl (omega arith) ∙ rw none refl

  -- what holds of each number and of the next one holds of all
  of_all : (P : ℕ → ℕ → Type 0) → ((i : ℕ) → i < count → P (slice_index numbers i) i) → P next count
      → (i : ℕ) → i < length with_next → P (slice_index with_next i) i
  of_all P before last i lt =
      elim (cases_lt i count) [
        | inl early ↦ rw (at_before i early) (before i early)
        | inr late ↦
            let is : i ≡ count = omega (arith, lt, late, one_more) in
            rw (is, at_next) last
      ]

  pub IsAbove-push : (x : ℕ) → IsAbove numbers x → next < x → IsAbove with_next x
  IsAbove-push x above later = of_all (λ y i. y < x) above later

  module _ (blocks : List Block) (ranked : IsRanked numbers blocks) (rising : IsAbove numbers next) where
    -- ---- its bit is set in the last block

    module _ (ready : IsReady blocks count next) where
      abbrev old : Block
      old = block_of blocks next

      abbrev bit : ℕ
      bit = next % 32

      abbrev new : Block
      new = record { members = with_bit bit old.members; below = old.below }

      abbrev more : List Block
      more = set blocks (next / 32) new

      -- the block of a number, in its row and in others
      here : (x : ℕ) → x / 32 ≡ next / 32 → block_of more x ≡ new
      here x same = rw same (get_or-set_same blocks (next / 32) new no_members (omega (arith, ready.last)))

      as_before : (x : ℕ) → x / 32 ≡ next / 32 → block_of blocks x ≡ old
      as_before x same = rw same refl

      elsewhere : (x : ℕ) → x / 32 ≢ next / 32 → block_of more x ≡ block_of blocks x
      elsewhere x other = get_or-set_other blocks (next / 32) (x / 32) new no_members other

      member_before : (x : ℕ) → x < next → IsMember blocks x → IsMember more x
      member_before x lt is =
          elim (cases_eq (x / 32) (next / 32)) [
            | inl same ↦
                let kept : bit_at (with_bit bit old.members) (x % 32) ≡ bit_at old.members (x % 32) =
                bit_at_cat_low 1 bit old.members (x % 32) (omega arith) in
                rw (here x same) (kept ∙ rw (as_before x same) at is)
            | inr other ↦ rw (elsewhere x other) is
          ]

      rank_before : (x : ℕ) → x < next → rank more x ≡ rank blocks x
      rank_before x lt =
          elim (cases_eq (x / 32) (next / 32)) [
            | inl same ↦
                let kept : with_bit bit old.members % 2 ^ (x % 32) ≡ old.members % 2 ^ (x % 32) =
                mod-with_bit bit old.members (x % 32) (omega arith) in
                rw (here x same, as_before x same) (ap (λ (n : ℕ). old.below + count_ones n) kept)
            | inr other ↦ rw (elsewhere x other) refl
          ]

      member_next : IsMember more next
      member_next = rw (here next refl) (bit_at-with_bit bit old.members ready.above)

      rank_next : rank more next ≡ count
      rank_next =
          rw (here next refl)
          (ap (λ (n : ℕ). old.below + count_ones n) (mod_low 1 bit old.members ready.above) ∙ ready.counted)

      abbrev IsPlaced : ℕ → Type 0
      IsPlaced x = (i : ℕ) × (i < length with_next) × (slice_index with_next i ≡ x)

      one_of_more : (x : ℕ) → IsMember blocks x → IsPlaced x
      one_of_more x is =
          let found = ranked.only x is in
          (found.0, omega (arith, found.1, one_more), at_before found.0 found.1 ∙ found.2)

      only_more : (x : ℕ) → IsMember more x → IsPlaced x
      only_more x is =
          elim (cases_eq (x / 32) (next / 32)) [
            | inl same ↦
                let marked : bit_at (with_bit bit old.members) (x % 32) ≡ 1 = rw (here x same) at is in
                elim (cases_order (x % 32) bit) [
                  | inl equal ↦ (count, omega (arith, one_more), at_next ∙ omega (arith, same, equal))
                  | inr (inl lower) ↦
                      let before = sym (bit_at_cat_low 1 bit old.members (x % 32) lower) ∙ marked in
                      one_of_more x (rw (as_before x same) before)
                  | inr (inr upper) ↦
                      let clear = bit_at-with_bit_above bit old.members (x % 32) ready.above upper in
                      absurd (omega (arith, marked, clear))
                ]
            | inr other ↦ one_of_more x (rw (elsewhere x other) at is)
          ]

      below_later : (x : ℕ) → IsAbove with_next x → next < x
      below_later x above = rw at_next at (above count (omega (arith, one_more)))

      ready_more : (x : ℕ) → IsAbove with_next x → x / 32 < length more → IsReady more (length with_next) x
      ready_more x above lt =
          let later = below_later x above in
          let size : length more ≡ next / 32 + 1 = length-set blocks (next / 32) new ∙ ready.last in
          let same : x / 32 ≡ next / 32 = omega (arith, lt, later, size) in
          record {
            last = omega (arith, size, same);
            above = rw (here x same) (with_bit_below bit old.members (x % 32) ready.above (omega (arith, later, same)));
            counted = rw (here x same) (omega (arith, ones-with_bit bit old.members ready.above, ready.counted, one_more));
          }

      IsFilled-set : IsFilled with_next more
      IsFilled-set =
          record {
            ranked = record {
              member =
                  of_all (λ x i. IsMember more x)
                  (λ i lt. member_before (slice_index numbers i) (rising i lt) (ranked.member i lt)) member_next;
              place =
                  of_all (λ x i. rank more x ≡ i)
                  (λ i lt. rank_before (slice_index numbers i) (rising i lt) ∙ ranked.place i lt) rank_next;
              only = only_more;
            };
            reach = λ x above.
                omega (arith, below_later x above, length-set blocks (next / 32) new, ready.last);
            ready = ready_more;
          }

      -- as the code writes the block
      abbrev with_its_bit : Block → Block
      with_its_bit block =
          record { members = bit_or block.members (1 * 2 ^ (next % 32) % 2 ^ 32); below = block.below }

      pub IsFilled-or : (block : Block) → block ≡ old → IsFilled with_next (set blocks (next / 32) (with_its_bit block))
      IsFilled-or block is =
          rw (is, or_bit bit old.members (omega arith) ready.above) IsFilled-set

    -- ---- before that, blocks with no members are added up to its row

    module _ (absent : length blocks ≤ next / 32) where
      abbrev added : ℕ
      added = next / 32 + 1 - length blocks

      abbrev empty : Block
      empty = record { members = 0; below = count }

      abbrev longer : List Block
      longer = blocks ++ replicate added empty

      size_longer : length longer ≡ next / 32 + 1
      size_longer = omega (arith, length-append blocks (replicate added empty), length-replicate added empty, absent)

      before_longer : (x : ℕ) → x / 32 < length blocks → block_of longer x ≡ block_of blocks x
      before_longer x lt = get_or_append_left blocks (replicate added empty) no_members (x / 32) lt

      after_longer : (x : ℕ) → length blocks ≤ x / 32 → x / 32 < length longer → block_of longer x ≡ empty
      after_longer x le lt =
          get_or-append_right blocks (replicate added empty) (length blocks) (x / 32) no_members refl le
          ∙ get_or-replicate added (x / 32 - length blocks) empty no_members (omega (arith, lt, le, size_longer))

      member_longer : (x : ℕ) → IsMember longer x → IsMember blocks x
      member_longer x is =
          elim (cases_lt (x / 32) (length blocks)) [
            | inl lt ↦ rw (before_longer x lt) at is
            | inr le ↦
                let none : bit_at 0 (x % 32) ≡ 1 = rw (after_longer x le (member_inside longer x is)) at is in
                absurd (omega (arith, none, bit_at-zero (x % 32)))
          ]

      as_it_was : (i : ℕ) → i < count
          → block_of longer (slice_index numbers i) ≡ block_of blocks (slice_index numbers i)
      as_it_was i lt =
          before_longer (slice_index numbers i) (member_inside blocks (slice_index numbers i) (ranked.member i lt))

      longer_ranked : IsRanked numbers longer
      longer_ranked =
          record {
            member = λ i lt. rw (as_it_was i lt) (ranked.member i lt);
            place = λ i lt. rw (as_it_was i lt) (ranked.place i lt);
            only = λ x is. ranked.only x (member_longer x is);
          }

      longer_ready : IsReady longer count next
      longer_ready =
          let last : block_of longer next ≡ empty = after_longer next absent (omega (arith, size_longer)) in
          record {
            last = size_longer;
            above = rw last (pow_pos (next % 32));
            counted = rw last (omega (arith, ones_le_self 0));
          }

      pub IsAwaiting-longer : IsAwaiting numbers next (take (next / 32 + 1) blocks ++ replicate added empty)
      IsAwaiting-longer =
          rw (take_all (next / 32 + 1) blocks (omega (arith, absent)))
          (record { ranked = longer_ranked; ready = longer_ready })

pub IsAwaiting-filled : (numbers : List ℕ) (next : ℕ) (blocks : List Block)
    → IsFilled numbers blocks → IsAbove numbers next → next / 32 < length blocks
    → IsAwaiting numbers next blocks
IsAwaiting-filled numbers next blocks filled rising inside =
    record { ranked = filled.ranked; ready = filled.ready next rising inside }

-- ---- a look into the table

module _ (numbers : List ℕ) (blocks : List Block)
    (ranked : IsRanked numbers blocks) (x : ℕ) where
  module _ (block : Block) (there : block ≡ block_of blocks x) where
    abbrev mask : ℕ
    mask = 1 * 2 ^ (x % 32) % 2 ^ 32

    mask_is : mask ≡ 2 ^ (x % 32)
    mask_is = one_shl (x % 32) 32 (omega arith)

    tested : bit_and block.members mask ≡ bit_at block.members (x % 32) * 2 ^ (x % 32)
    tested = rw mask_is (and_pow block.members (x % 32))

    pub no_bit : bit_and block.members mask ≡ 0 → IsPlaceOf numbers x None
    no_bit clear i lt is =
        let marked : bit_at block.members (x % 32) ≡ 1 = rw there (rw is at (ranked.member i lt)) in
        let product : bit_at block.members (x % 32) * 2 ^ (x % 32) ≡ 1 * 2 ^ (x % 32) =
        ap (λ (n : ℕ). n * 2 ^ (x % 32)) marked in
        omega (arith, clear, tested, product, pow_pos (x % 32))

    is_member : (bit_and block.members mask ≡ 0 → ⊥) → IsMember blocks x
    is_member marked =
        elim (cases_lt (bit_at block.members (x % 32)) 1) [
          | inl none ↦
              let clear : bit_at block.members (x % 32) * 2 ^ (x % 32) ≡ 0 * 2 ^ (x % 32) =
              ap (λ (n : ℕ). n * 2 ^ (x % 32)) (omega (arith, none)) in
              absurd (marked (omega (arith, tested, clear)))
          | inr some ↦
              let one : bit_at block.members (x % 32) ≡ 1 = omega (arith, some, bit_at-lt block.members (x % 32)) in
              rw there at one
        ]

    rank_is : block.below + count_ones (bit_and block.members (mask - 1)) ≡ rank blocks x
    rank_is = rw (mask_is, and_mask block.members (x % 32), there) refl

    pub with_bit_place : (bit_and block.members mask ≡ 0 → ⊥)
        → IsPlaceOf numbers x (Some (block.below + count_ones (bit_and block.members (mask - 1))))
    with_bit_place marked =
        let found = ranked.only x (is_member marked) in
        let place : block.below + count_ones (bit_and block.members (mask - 1)) ≡ found.0 =
        rank_is ∙ ap (rank blocks) (sym found.2) ∙ ranked.place found.0 found.1 in
        rw place (found.1, found.2)
