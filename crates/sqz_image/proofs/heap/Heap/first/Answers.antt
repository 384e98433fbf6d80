use Rattle.std.proofs.Common.{◌≡◌, ap, arith, ◌∙◌}
use Rattle.std.proofs.lemmas.List.{get_or_read}
use Rattle.sqz_image.specs.Objects.{object_at}
use Rattle.sqz_image.specs.Starts.{first_of, start_at}
use Rattle.sqz_image.proofs.HeapLemmas.{listed_is, has_object, first_there, length_starts}
use Rattle.sqz_image.proofs.heap.Heap.first.Goals as goal
use Rattle.sqz_image.proofs.heap.Heap.first.Goals.{After-first}

-- what was read of the object's start
read : (c : After-first) → c.first.result ≡ (object_at c.args.self.now c.args.object).first
read c =
    let heap = listed_is c.self.view_is c.self.invariant in
    let start : c.index.result.now ≡ start_at c.self.inside.starts.items c.args.object =
    get_or_read c.self.inside.starts.items _ _ (omega (arith, length_starts heap, c.requires)) c.index.ensures
    record { index = 0 } in
    c.first.ensures.first ∙ ap first_of start ∙ first_there heap c.args.object c.requires

pub returns-clause-first : goal.returns-clause-first
returns-clause-first c = read (goal.at.returns-clause-first c).After-first

pub returns-clause-inside : goal.returns-clause-inside
returns-clause-inside c =
    let heap = listed_is c.self.view_is c.self.invariant in
    let here = has_object heap c.args.object c.requires in
    omega (arith, here.stands.inside, heap.few_words, read (goal.at.returns-clause-inside c).After-first)
