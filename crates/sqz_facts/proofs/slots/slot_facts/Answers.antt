use Rattle.std.proofs.Common.{◌≡◌, Some, sym, ap, ◌∙◌, List, ℕ}
use Rattle.std.specs.List.{slice_get}
use Rattle.sqz_object.specs.Chunk.{fields}
use Rattle.sqz_image.specs.Objects.{chunk_words}
use Rattle.sqz_facts.proofs.HeldLemmas.{IsHeld-read, word_among-read}
use Rattle.sqz_facts.proofs.slots.slot_facts.Goals as goal
use Rattle.sqz_facts.proofs.slots.slot_facts.Goals.{After-held_in-held}

-- what was read of the field
read : (c : After-held_in-held)
    → slice_get (fields (chunk_words c.args.heap.now c.args.object)) c.in-Field.field ≡ Some c.in_ok-word-in-Field.word
read c =
    ap (λ (words : List ℕ). slice_get words c.in-Field.field) (sym (c.fields.ensures.fields ∙ ap fields c.object-object.ensures))
    ∙ sym c.get.ensures
    ∙ c.in_ok-word-in-Field.was

pub returns-in_ok-word-in-Field-clause-word : goal.returns-in_ok-word-in-Field-clause-word
returns-in_ok-word-in-Field-clause-word c =
    rw c.in-Field.is
    (word_among-read (chunk_words c.args.heap.now c.args.object) c.in-Field.field c.in_ok-word-in-Field.word (read c))

pub returns-in_ok-word-in-Field-clause-held : goal.returns-in_ok-word-in-Field-clause-held
returns-in_ok-word-in-Field-clause-held c =
    rw (c.in-Field.is, c.held_in-held.ensures.held)
    (IsHeld-read c.args.heap.now c.args.object c.in-Field.field c.in_ok-word-in-Field.word c.object-object.result
    c.object-object.ensures (read c))
