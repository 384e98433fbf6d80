use Rattle.std.proofs.lemmas.List.{get_or_default}
use Rattle.sqz_facts.specs.Members.{no_member}
use Rattle.sqz_answers.proofs.listing.dead_listing_of.Goals as goal

pub returns-clause-listing : goal.returns-clause-listing
returns-clause-listing c =
    record {
      dead = c.in_ok-dead.dead;
      complement = c.in_ok-dead.ensures.complement;
      are = c.in_ok-rows.ensures;
      set = c.in_ok-set.set;
      listed = rw c.deref.ensures.value at c.in_ok-set.ensures;
      bytes = c.marked_bytes-bytes.ensures;
    }

pub returns-clause-inside : goal.returns-clause-inside
returns-clause-inside c k d lt =
    let members = c.in_ok-rows.rows.items in
    rw (get_or_default members k d no_member lt) (c.in_ok-rows.ensures.each k lt).is.inside
