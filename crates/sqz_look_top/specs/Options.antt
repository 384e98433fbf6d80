-- Which part of a tree has rows, by the options of a command line.
use Rattle.std.specs.Prelude.{ℕ, Option, Some, None}
use Rattle.sqz_look_args.specs.declared.percent.Percent.{Percent}

-- the number of levels below the first row: 4 unless another is requested
abbrev pub depth_asked : Option ℕ → ℕ
depth_asked None = 4
depth_asked (Some depth) = depth

-- the least share of what the first row retains that has a row of its own, in millionths of a
-- percent: one percent unless another is requested
abbrev pub share_asked : Option Percent → ℕ
share_asked None = 1000000
share_asked (Some share) = share.millionths
