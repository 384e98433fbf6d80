-- The regions that each worker has.
-- Serves `sliding::concat_shares` and `shared_regions::SharedRegions::pieces_of_worker`.
use Rattle.std.proofs.Common.{◌≡◌, ◌↔◌, ℕ, ◌*◌, ◌/◌, ◌<◌, ◌≤◌, arith}
use Rattle.std.proofs.Math.Nat.{div-le_of_le-mul, mul-le-mul_right, mul-div-le, mul-div_cancel_left, le-div_iff_mul-le}
use Rattle.std.proofs.Math.Nat.{mul_comm}
use Rattle.sqz_slide.specs.Pieces.{first_region}

module _ (regions workers : ℕ) (some : 0 < workers) where
  -- the first worker has the first region
  pub first_region-none : first_region regions workers 0 ≡ 0
  first_region-none = let le : 0 * regions / workers ≤ 0 = div-le_of_le-mul workers (omega arith) in omega (arith, le)

  -- after the last worker's regions there is none
  pub first_region-all : first_region regions workers workers ≡ regions
  first_region-all = mul-div_cancel_left regions some

  -- a worker's first region is not above the next one's
  pub first_region-rises : (worker next : ℕ) → worker ≤ next → first_region regions workers worker ≤ first_region regions workers next
  first_region-rises worker next le =
      let below = mul-div-le (worker * regions) workers in
      let more : worker * regions ≤ next * regions = mul-le-mul_right regions le in
      let both : (worker * regions / workers ≤ next * regions / workers)
      ↔ (worker * regions / workers * workers ≤ next * regions) = le-div_iff_mul-le some in
      both.1 (rw (mul_comm (worker * regions / workers) workers) (omega (arith, below, more)))

  -- no worker has a region after the last
  pub first_region-le : (worker : ℕ) → worker ≤ workers → first_region regions workers worker ≤ regions
  first_region-le worker le = omega (arith, first_region-rises worker workers le, first_region-all)
