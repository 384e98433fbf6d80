-- How deep rows of a tree may be.
use Rattle.std.specs.Prelude.{ℕ}

-- the depth of the deepest rows
abbrev pub most_depth : ℕ
most_depth = 100
