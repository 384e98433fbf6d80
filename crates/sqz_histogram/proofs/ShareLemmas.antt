-- The shares of groups, by key and in census order.
-- Serves `shares::shares_by_key` and `shares::shares_of`.
use Rattle.std.proofs.Common.{◌≡◌, ℕ, ◌+◌, ◌<◌, List, [], ◌∷◌, ◌++◌, length, get_or, refl, sym, subst, arith}
use Rattle.std.specs.List.Sorted.{IsPermutation, IsSortedBy}
use Rattle.std.specs.declared.cmp.Reverse.{Reverse}
use Rattle.sqz_object.proofs.RankedLemmas.{AreFilled, AreFilled-more_no, AreFilled-more_yes, AreRanked-sorted, is_before}
use Rattle.sqz_histogram.specs.declared.tallies.Tally.{Tally}
use Rattle.sqz_histogram.specs.declared.shares.Share.{Share}
use Rattle.sqz_histogram.specs.Tallies.{no_tally, FitWords}
use Rattle.sqz_histogram.specs.Shares.{no_share, IsShareOf, AreShares, AreSharesInOrder}

-- the key of a share
abbrev key_in : Share → ℕ
key_in share = share.key

-- its number of words
abbrev share_words : Share → ℕ
share_words share = share.words

-- what shares are sorted by
abbrev pub sort_key : Share → Reverse ℕ × ℕ
sort_key share = (record { 0 = share.words }, share.key)

-- the group with a key has some object
abbrev HasSome : List Tally → ℕ → Type 0
HasSome tallies key = 0 < (get_or tallies key no_tally).count

-- shares are a list that is filled by their keys
filled : {tallies : List Tally} {bound : ℕ} {shares : List Share} → AreShares tallies bound shares
    → AreFilled key_in no_share (IsShareOf tallies) (HasSome tallies) bound shares
filled are = record { each = are.each; below = are.below; all = are.all; rise = are.rise }

-- and such a list is the shares
filled_back : {tallies : List Tally} {bound : ℕ} {shares : List Share}
    → AreFilled key_in no_share (IsShareOf tallies) (HasSome tallies) bound shares → AreShares tallies bound shares
filled_back are = record { each = are.each; below = are.below; all = are.all; rise = are.rise }

module _ (tallies : List Tally) (key : ℕ) (shares : List Share) (are : AreShares tallies key shares) where
  -- a group without objects has no share
  pub AreShares-more_no : (get_or tallies key no_tally).count ≡ 0 → AreShares tallies (key + 1) shares
  AreShares-more_no none =
      filled_back
      (AreFilled-more_no key_in no_share (IsShareOf tallies) (HasSome tallies) key shares (filled are) (λ some. absurd (omega arith)))

  -- another has the next share
  pub AreShares-more_yes : (share : Share) → share.key ≡ key → IsShareOf tallies share
      → AreShares tallies (key + 1) (shares ++ share ∷ [])
  AreShares-more_yes share key_is is =
      filled_back
      (AreFilled-more_yes key_in no_share (IsShareOf tallies) (HasSome tallies) key shares (filled are) share key_is is)

-- the share of the group with a key that has objects
pub IsShareOf-key : (tallies : List Tally) (key : ℕ) (share : Share) → key < length tallies → FitWords tallies
    → 0 < (get_or tallies key no_tally).count
    → share ≡ record { key = key; count = (get_or tallies key no_tally).count; words = (get_or tallies key no_tally).words }
    → IsShareOf tallies share
IsShareOf-key tallies key share lt fit some is =
    subst (IsShareOf tallies) (sym is)
    (record { inside = lt; tally = refl; some = some; few = fit.each key lt })

-- sorted shares are in order
pub AreSharesInOrder-sorted : (tallies : List Tally) (shares sorted : List Share) → AreShares tallies (length tallies) shares
    → IsPermutation shares sorted → IsSortedBy (is_before key_in share_words) sorted → AreSharesInOrder tallies sorted
AreSharesInOrder-sorted tallies shares sorted are moved ordered =
    let in_order =
    AreRanked-sorted key_in no_share (IsShareOf tallies) (HasSome tallies) (length tallies) shares (filled are) sorted moved share_words
    ordered in
    record { each = in_order.each; all = in_order.all; ordered = in_order.ordered }
