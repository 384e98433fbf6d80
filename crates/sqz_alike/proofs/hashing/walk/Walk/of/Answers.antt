use Rattle.std.proofs.Common.{rules, arith}
use Rattle.sqz_alike.proofs.NumberingLemmas.{IsNumbering-none}
use Rattle.sqz_alike.proofs.hashing.walk.Walk.of.Goals as goal

pub place-requires-clause-numbering : goal.place-requires-clause-numbering
place-requires-clause-numbering c =
    let places = c.in_ok-places.ensures.items_if_clones_equal (λ place same. search rules) in
    rw (c.new-found.ensures.items, places) (IsNumbering-none c.len.result (omega (arith, c.len.ensures.few)))
