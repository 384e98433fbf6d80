use Rattle.std.proofs.Common.{◌≡◌, ◌≤◌, ◌*◌, ◌-◌, ◌^◌, take, sum_by}
use Rattle.sqz_census.proofs.printing.sums.Given as goal

abbrev pub invariant-loop-row : goal.invariant-loop-row
invariant-loop-row l =
    record {
      count : l.count ≡ sum_by (λ row. row.count) (take l.row-index l.rows);
      bytes : l.bytes ≡ sum_by (λ row. row.bytes) (take l.row-index l.rows);
      few : l.count ≤ l.row-index * (2 ^ 32 - 1);
      small : l.bytes ≤ l.row-index * (2 ^ 64 - 1);
    }
