use Rattle.std.proofs.Common.{◌<◌, ◌≤◌, length, arith}
use Rattle.std.proofs.lemmas.List.{get_or_read}
use Rattle.sqz_alike.specs.Seen.{seen}
use Rattle.sqz_alike.specs.Written.{written}
use Rattle.sqz_alike.proofs.OrderLemmas.{NumbersFound-length, IsHashed-more, IsHashed-all}
use Rattle.sqz_alike.proofs.hashing.image.digest.Goals as goal

pub loop-next-smaller : goal.loop-next-smaller
loop-next-smaller c =
    omega (arith, NumbersFound-length c.args.live.now c.loop-next.walk c.loop-next.invariant.kept, c.loop-next-test.true, c.len.ensures, c.loop-next.walk.found.ok.0)

pub loop-next-preserved : goal.loop-next-preserved
loop-next-preserved c =
    let found = c.loop-next.walk.found in
    let inside : c.loop-next.next < length found.items = omega (arith, c.loop-next-test.true, c.len.ensures, found.ok.0) in
    IsHashed-more c.args.live.now c.loop-next.next c.index-object.result.now c.loop-next.walk c.hash_object.new.walk
    c.loop-next.hasher c.hash_object.new.hasher c.loop-next.invariant inside
    (get_or_read found.items _ _ inside c.index-object.ensures 0) c.in_ok-hash_object.ensures.walk c.in_ok-hash_object.ensures.hashed

pub returns : goal.returns
returns c =
    let found = c.loop-next.walk.found in
    let past : length found.items ≤ c.loop-next.next = omega (arith, c.loop-next-test.false, c.len.ensures, found.ok.0) in
    c.finalize.ensures (written (seen c.args.live.now))
    (IsHashed-all c.args.live.now c.loop-next.next c.loop-next.walk c.loop-next.hasher c.loop-next.invariant past)
