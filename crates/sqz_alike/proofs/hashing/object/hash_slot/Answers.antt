use Rattle.std.proofs.Common.{sym, ◌∙◌}
use Rattle.sqz_alike.specs.Seen.{seen}
use Rattle.sqz_alike.proofs.HashingLemmas.{HashesSlots-target, HashesSlots-none}
use Rattle.sqz_alike.proofs.hashing.object.hash_slot.Goals as goal

pub returns-in_ok-place-in-Some-clause-hashed : goal.returns-in_ok-place-in-Some-clause-hashed
returns-in_ok-place-in-Some-clause-hashed c =
    let place = c.in_ok-place-in-Some in
    HashesSlots-target (seen c.args.live.now) c.args.object c.args.slot c.args.walk.now.found.items c.args.hasher.now c.hash_pair.new.hasher
    c.in-Some.target place.place c.place.new.self.found.items (sym c.seen_target.ensures.target ∙ c.in-Some.is)
    place.ensures.found place.ensures.place c.hash_pair.ensures

pub returns-in-None-clause-hashed : goal.returns-in-None-clause-hashed
returns-in-None-clause-hashed c =
    HashesSlots-none (seen c.args.live.now) c.args.object c.args.slot c.args.walk.now.found.items c.args.hasher.now c.hash_simple.new.hasher
    (sym c.seen_target.ensures.target ∙ c.in-None.is) (rw c.slot_word.ensures at c.hash_simple.ensures)
