use Rattle.std.proofs.lemmas.Result.{IfOk-weaker}
use Rattle.sqz_alike.specs.Seen.{seen}
use Rattle.sqz_alike.proofs.StepLemmas.{Finds-never}
use Rattle.sqz_alike.proofs.WalkLemmas.{old_inside, new_inside, objects_find}
use Rattle.sqz_alike.proofs.objects.objects_match.Goals as goal

pub object-object-requires : goal.object-object-requires
object-object-requires c =
    old_inside c.args.old.now c.args.new.now c.args.matching.now c.requires.walk c.args.pair c.requires.paired

pub object-other-requires : goal.object-other-requires
object-other-requires c =
    new_inside c.args.old.now c.args.new.now c.args.matching.now c.requires.walk c.args.pair c.requires.paired

pub returns-then-not-words_match-clause-finds : goal.returns-then-not-words_match-clause-finds
returns-then-not-words_match-clause-finds c =
    Finds-never c.args.matching.now.pairs.items (λ all once among match.
    let no_match = rw (c.order.ensures, c.order-2.ensures, c.object-object.ensures, c.object-other.ensures) at c.words_match.ensures.1 match.words in
    absurd cc)

pub returns-clause-finds : goal.returns-clause-finds
returns-clause-finds c =
    let words = rw (c.order.ensures, c.order-2.ensures, c.object-object.ensures, c.object-other.ensures) at c.words_match.ensures.0 c.if-not-words_match.false in
    IfOk-weaker c.slots_match.result _ _ (λ found finds.
    objects_find (seen c.args.old.now) (seen c.args.new.now) c.args.pair c.traced_fields.result
    (rw c.object-object.ensures at c.traced_fields.ensures.traced) words finds) c.slots_match.ensures.finds
