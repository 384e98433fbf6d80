use Rattle.std.proofs.Common.{ℕ, List, Option, ◌≡◌, refl, subst, ◌∙◌}
use Rattle.std.specs.Option.{option_to_list}
use Rattle.sqz_object.specs.Chunk.{fields}
use Rattle.sqz_image.specs.declared.slot.Slot.TheVariants.{ClassWord}
use Rattle.sqz_trace.specs.Slots.{slot_word, traced}
use Rattle.sqz_damage.specs.Votes.{Casts}
use Rattle.std.proofs.Common.{take}
use Rattle.sqz_damage.proofs.VoteLemmas.{Casts-none, Casts-then}
use Rattle.sqz_damage.proofs.votes.vote_by_slots.Goals as goal
use Rattle.sqz_damage.proofs.votes.vote_by_slots.Goals.{in-Some, in_default}

pub returns : goal.returns
returns c =
    let base = c.args.base in
    let object = c.args.object.now in
    let old = c.args.votes.now in
    let middle = c.match-class_address.votes in
    let new = c.vote_by_words.new.votes in
    let class : Casts base (option_to_list (slot_word object ClassWord)) old middle =
    subst (λ (word : Option ℕ). Casts base (option_to_list word) old middle) c.class_address.ensures
    (elim c.match-class_address.branch [
      | in-Some w ↦ rw (w.in-Some.is, w.votes-is) w.vote.ensures
      | in_default w ↦ rw (w.in_default.is, w.votes-is) (Casts-none base old)
    ]) in
    let traced_is : c.split_at-traced.result.0 ≡ take (traced object) (fields object) =
    c.split_at-traced.ensures.front ∙ rw (c.traced_fields.ensures.traced, c.fields.ensures.fields) refl in
    Casts-then base (option_to_list (slot_word object ClassWord)) (take (traced object) (fields object)) old middle new class
    (subst (λ (words : List ℕ). Casts base words middle new) traced_is c.vote_by_words.ensures)
