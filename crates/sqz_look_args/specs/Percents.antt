-- Shares of bytes.
use Rattle.std.specs.Prelude.{ℕ, ◌*◌}
use Rattle.std.specs.Int.{div_ceil}

-- the least number of bytes that is at least this share of some bytes, in millionths of a percent
abbrev pub least_bytes : ℕ → ℕ → ℕ
least_bytes millionths bytes = div_ceil (bytes * millionths) 100000000
