use Rattle.sqz_alike.specs.Seen.{seen}
use Rattle.sqz_alike.proofs.HashingLemmas.{HashesObject-parts}
use Rattle.sqz_alike.proofs.hashing.object.hash_object.Goals as goal

pub returns-clause-hashed : goal.returns-clause-hashed
returns-clause-hashed c =
    let header = rw c.object-chunk.ensures at c.hash_header.ensures in
    let rest = rw (c.order.ensures, c.object-chunk.ensures) at c.hash_untraced.ensures in
    HashesObject-parts (seen c.args.live.now) c.args.object header c.in_ok-hash_slots.ensures.hashed rest
