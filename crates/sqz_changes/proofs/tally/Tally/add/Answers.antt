use Rattle.std.proofs.Common.{◌≡◌, ◌∙◌, ℕ, Option, Some, None, ap, sym, length, set, arith}
use Rattle.std.proofs.lemmas.List.{get_or_read}
use Rattle.sqz_changes.specs.declared.change.Change.{Change}
use Rattle.sqz_changes.specs.Tally.{counted, row_of}
use Rattle.sqz_changes.proofs.TallyLemmas.{IsTally-set, count-counted, counted-with, no_change, no_other, one_more, with_difference-set}
use Rattle.sqz_changes.proofs.tally.Tally.add.Goals as goal

pub index-change-requires : goal.index-change-requires
index-change-requires c =
    let self = c.args.self.now in
    let none : Option ℕ = None in
    let e : row_of self.rows.items c.args.owner ≡ Some c.in-Some.row =
    sym (get_or_read self.rows.items _ _ c.requires.owner c.index.ensures none) ∙ c.in-Some.is in
    omega (arith, (c.requires.tally.by_owner c.args.owner c.in-Some.row e).0, self.changes.ok.0)

pub overflow_add-change : goal.overflow_add-change
overflow_add-change c =
    let self = c.args.self.now in
    let none : Option ℕ = None in
    let e : row_of self.rows.items c.args.owner ≡ Some c.in-Some.row =
    sym (get_or_read self.rows.items _ _ c.requires.owner c.index.ensures none) ∙ c.in-Some.is in
    let inside = (c.requires.tally.by_owner c.args.owner c.in-Some.row e).0 in
    let read : c.index-change.result.now.count ≡ _ =
    ap (λ (change : Change). change.count) (get_or_read self.changes.items _ _ inside c.index-change.ensures no_change) in
    omega (arith, read, count-counted self.changes.items c.in-Some.row inside, c.requires.room)

pub returns-in-Some-clause-changes : goal.returns-in-Some-clause-changes
returns-in-Some-clause-changes c =
    let self = c.args.self.now in
    let owners : ℕ = length self.rows.items in
    let none : Option ℕ = None in
    let e : row_of self.rows.items c.args.owner ≡ Some c.in-Some.row =
    sym (get_or_read self.rows.items _ _ c.requires.owner c.index.ensures none) ∙ c.in-Some.is in
    let found = c.requires.tally.by_owner c.args.owner c.in-Some.row e in
    ap (λ (change : Change). set self.changes.items c.in-Some.row (one_more change)) (get_or_read self.changes.items _ _ found.0 c.index-change.ensures no_change)
    ∙ sym (with_difference-set self.changes.items c.args.owner c.args.difference c.in-Some.row found.0 found.1
    (no_other owners self.changes.items self.rows.items c.requires.tally c.args.owner c.in-Some.row e))

pub returns-in-Some-clause-tally : goal.returns-in-Some-clause-tally
returns-in-Some-clause-tally c =
    let self = c.args.self.now in
    let owners : ℕ = length self.rows.items in
    let none : Option ℕ = None in
    let e : row_of self.rows.items c.args.owner ≡ Some c.in-Some.row =
    sym (get_or_read self.rows.items _ _ c.requires.owner c.index.ensures none) ∙ c.in-Some.is in
    let found = c.requires.tally.by_owner c.args.owner c.in-Some.row e in
    IsTally-set owners self.changes.items self.rows.items c.requires.tally c.in-Some.row _ found.0
    (ap (λ (change : Change). change.owner) (get_or_read self.changes.items _ _ found.0 c.index-change.ensures no_change))

pub returns-in-Some-clause-counted : goal.returns-in-Some-clause-counted
returns-in-Some-clause-counted c =
    let self = c.args.self.now in
    let owners : ℕ = length self.rows.items in
    let none : Option ℕ = None in
    let e : row_of self.rows.items c.args.owner ≡ Some c.in-Some.row =
    sym (get_or_read self.rows.items _ _ c.requires.owner c.index.ensures none) ∙ c.in-Some.is in
    let found = c.requires.tally.by_owner c.args.owner c.in-Some.row e in
    ap counted (ap (λ (change : Change). set self.changes.items c.in-Some.row (one_more change)) (get_or_read self.changes.items _ _ found.0 c.index-change.ensures no_change)
    ∙ sym (with_difference-set self.changes.items c.args.owner c.args.difference c.in-Some.row found.0 found.1
    (no_other owners self.changes.items self.rows.items c.requires.tally c.args.owner c.in-Some.row e)))
    ∙ counted-with c.args.owner c.args.difference self.changes.items
