use Rattle.std.proofs.Common.{◌≡◌, ◌++◌, length, drop}
use Rattle.sqz_names.specs.Categories.{ends_in, maxima}
use Rattle.sqz_names.proofs.categories.ends_in.Given as goal

-- an end for each field so far, and the other ends are in the fields that follow
abbrev pub invariant-loop-place : goal.invariant-loop-place
invariant-loop-place l = record {
  one_each : length l.ends.items ≡ l.place;
  are : maxima 0 (ends_in l.fields) ≡ l.ends.items ++ maxima l.most (ends_in (drop l.place l.fields));
}
