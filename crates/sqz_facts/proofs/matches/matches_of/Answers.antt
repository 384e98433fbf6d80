use Rattle.std.proofs.Common.{◌≡◌, ◌∙◌, ap, arith, cond, sym, true, false, Some, None}
use Rattle.std.proofs.lemmas.List.Elements.{All-push}
use Rattle.regex.specs.Bytes.{regex_pattern}
use Rattle.sqz_facts.proofs.RangeLemmas.{filter_map-none, filter_map-some}
use Rattle.sqz_image.specs.Objects.{object_count}
use Rattle.sqz_facts.specs.Matches.{IsText, if_match, is_match}
use Rattle.sqz_facts.proofs.MatchLemmas.{IsText-match}
use Rattle.sqz_facts.proofs.matches.matches_of.Goals as goal
use Rattle.sqz_facts.proofs.matches.matches_of.Goals.{then-branch+in_ok-push, else-branch}

pub loop-object-preserved : goal.loop-object-preserved
loop-object-preserved c =
    let live = c.args.live.now in
    let memory = live.graph.heap.now in
    let weak = live.graph.weak in
    let object = c.loop-object.object in
    let pattern = regex_pattern c.args.pattern.now in
    let before = c.loop-object.invariant in
    let match = if_match memory weak live.marks pattern in
    let same = c.in_ok-is_match.ensures.same ∙ before.pattern in
    let found = rw before.pattern at c.in_ok-is_match.ensures.found in
    elim c.if-branch.branch [
      | then-branch+in_ok-push w ↦
          let is : is_match memory weak live.marks pattern object ≡ true = sym found ∙ w.if-branch.true in
          rw (w.found-is, w.in_ok-push.ensures.items)
          record {
            pattern = same;
            matches = rw before.matches (sym (filter_map-some match object object (ap (λ b. cond b (Some object) None) is)));
            texts = All-push (IsText memory weak) c.loop-object.found.items object before.texts
                (IsText-match memory weak live.marks pattern object
                (omega (arith, c.loop-object-test.true, c.loop-object.auto.object-end, c.len-object-end.ensures.objects)) is);
          }
      | else-branch w ↦
          let isnt : is_match memory weak live.marks pattern object ≡ false = sym found ∙ w.if-branch.false in
          rw w.found-is
          record {
            pattern = same;
            matches = rw before.matches (sym (filter_map-none match object (ap (λ b. cond b (Some object) None) isnt)));
            texts = before.texts;
          }
    ]

pub returns-clause-matches : goal.returns-clause-matches
returns-clause-matches c =
    let live = c.args.live.now in
    let whole : c.loop-object.object ≡ object_count live.graph.heap.now =
    omega (arith, c.loop-object-test.false, c.loop-object.auto.object-end, c.len-object-end.ensures.objects) in
    rw whole at c.loop-object.invariant.matches
