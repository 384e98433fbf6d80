-- A header with two renewed words: those two are the new ones, and all others stay.
-- Serves `FixedPointLemmas` of `sqz_tool`.
use Rattle.std.proofs.Common.{◌≡◌, ◌≢◌, ℕ, ◌^◌, ◌<◌, List, length, slice_index, sym, ap, subst, ◌∙◌, arith, inl, inr}
use Rattle.std.specs.Prelude.{slice_set}
use Rattle.std.proofs.lemmas.Bool.{cases_eq}
use Rattle.std.proofs.lemmas.List.{length-set, get_or-set_same, get_or-set_other, set-set, set_comm}
use Rattle.sqz_image.specs.File.{stated_header_size, data_size, base_address, special_address, renewed}

module _ (header : List ℕ) (size special : ℕ) where
  abbrev resized : List ℕ
  resized = slice_set header 2 size

  -- there are as many words
  pub length-renewed : length (renewed header size special) ≡ length header
  length-renewed = length-set resized 4 special ∙ length-set header 2 size

  -- each word but the third and the fifth stays
  pub renewed-other : (i : ℕ) → i ≢ 2 → i ≢ 4 → slice_index (renewed header size special) i ≡ slice_index header i
  renewed-other i not_size not_special =
      get_or-set_other resized 4 i special 0 not_special ∙ get_or-set_other header 2 i size 0 not_size

  -- the version stays
  pub version-renewed : slice_index (renewed header size special) 0 ≡ slice_index header 0
  version-renewed = renewed-other 0 (λ e. absurd (omega arith)) (λ e. absurd (omega arith))

  -- the header's size stays
  pub header_size-renewed : stated_header_size (renewed header size special) ≡ stated_header_size header
  header_size-renewed = renewed-other 1 (λ e. absurd (omega arith)) (λ e. absurd (omega arith))

  -- the address of the first data word stays
  pub base_address-renewed : base_address (renewed header size special) ≡ base_address header
  base_address-renewed = renewed-other 3 (λ e. absurd (omega arith)) (λ e. absurd (omega arith))

  module _ (sized : length header ≡ 16) where
    -- the data's size is the new one
    pub data_size-renewed : data_size (renewed header size special) ≡ size
    data_size-renewed =
        get_or-set_other resized 4 2 special 0 (λ e. absurd (omega arith))
        ∙ get_or-set_same header 2 size 0 (omega arith)

    -- and so is the address of the special objects array
    pub special_address-renewed : special_address (renewed header size special) ≡ special
    special_address-renewed = get_or-set_same resized 4 special 0 (omega (arith, length-set header 2 size))

    -- the words fit where the old ones and the two new ones do
    pub renewed-fits : ((i : ℕ) → slice_index header i < 2 ^ 32) → size < 2 ^ 32 → special < 2 ^ 32 → (i : ℕ)
        → slice_index (renewed header size special) i < 2 ^ 32
    renewed-fits each size_fits special_fits i =
        elim (cases_eq i 2) [
          | inl is ↦
              subst (λ (k : ℕ). slice_index (renewed header size special) k < 2 ^ 32) (sym is) (rw data_size-renewed size_fits)
          | inr not_size ↦
              elim (cases_eq i 4) [
                | inl is ↦
                    subst (λ (k : ℕ). slice_index (renewed header size special) k < 2 ^ 32) (sym is)
                    (rw special_address-renewed special_fits)
                | inr not_special ↦ rw (renewed-other i not_size not_special) (each i)
              ]
        ]

  -- to renew the two words twice is to renew them once
  pub renewed-twice : renewed (renewed header size special) size special ≡ renewed header size special
  renewed-twice =
      let new_special = λ (words : List ℕ). slice_set words 4 special in
      ap new_special
      (set_comm resized 4 2 special size (λ e. absurd (omega arith)) ∙ ap new_special (set-set header 2 size size))
      ∙ set-set resized 4 special special
