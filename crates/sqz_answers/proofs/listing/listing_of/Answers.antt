use Rattle.std.proofs.Common.{◌<◌, map, ap, ◌∙◌}
use Rattle.std.proofs.lemmas.List.{get_or_default}
use Rattle.std.proofs.lemmas.List.Elements.{All-map}
use Rattle.sqz_image.specs.Objects.{object_count}
use Rattle.sqz_facts.specs.Members.{no_member}
use Rattle.sqz_answers.specs.declared.listing.Listed.{Listed}
use Rattle.sqz_answers.specs.Listings.{listed_by}
use Rattle.sqz_answers.proofs.listing.listing_of.Goals as goal

pub returns-clause-listing : goal.returns-clause-listing
returns-clause-listing c =
    record {
      members = c.in_ok-members.members.items;
      are = c.in_ok-members.ensures;
      tree = c.in_ok-dominators.dominators;
      dominators = c.in_ok-dominators.ensures;
      rows = c.in_ok-rows_of.ensures ∙ ap (map (listed_by c.in_ok-dominators.dominators)) c.deref-2.ensures.value;
      set = c.in_ok-set.set;
      listed = rw c.deref.ensures.value at c.in_ok-set.ensures;
      bytes = c.marked_bytes.ensures;
      together = c.in_ok-retained_by.ensures;
    }

pub returns-clause-inside : goal.returns-clause-inside
returns-clause-inside c =
    let members = c.in_ok-members.members.items in
    let IsInside : Listed → Type 0 = λ row. row.object < object_count c.args.live.now.graph.heap.now in
    rw (c.in_ok-rows_of.ensures, c.deref-2.ensures.value)
    (All-map IsInside (listed_by c.in_ok-dominators.dominators) members
    (λ k d lt. rw (get_or_default members k d no_member lt) (c.in_ok-members.ensures.each k lt).is.inside))
