use Rattle.std.proofs.Common.{◌≡◌, ◌∙◌, ℕ, Option, ap, get_or, arith}
use Rattle.std.specs.Prelude.{unwrap_or}
use Rattle.std.specs.BTreeMap as tree
use Rattle.std.specs.Ordering.{nat_cmp}
use Rattle.sqz_image.specs.Objects.{object_count, chunk_words}
use Rattle.sqz_histogram.specs.Keys.{key_of}
use Rattle.sqz_histogram.proofs.GroupLemmas.{group_of-inside}
use Rattle.sqz_answers.specs.GroupCounts.{key_at}
use Rattle.sqz_answers.proofs.GroupCountLemmas.{AreTallies-more, sum-raised}
use Rattle.sqz_answers.proofs.group_counts.tallies_of.Goals as goal

pub key_of-key-requires-clause-inside : goal.key_of-key-requires-clause-inside
key_of-key-requires-clause-inside c =
    let its_group = rw c.in_ok-classes.ensures at c.group_of.ensures in
    rw (c.len-count.ensures.objects, its_group)
    (group_of-inside c.args.graph.heap.now c.args.graph.weak (chunk_words c.args.graph.heap.now _))

pub loop-object-preserved : goal.loop-object-preserved
loop-object-preserved c =
    let memory = c.args.graph.heap.now in
    let weak = c.args.graph.weak in
    let objects = c.args.objects.now in
    let i = c.loop-object.object-index in
    let old = c.loop-object.tallies in
    let key = c.key_of-key.result in
    let before = c.unwrap_or-before.result in
    let its_group = rw c.in_ok-classes.ensures at c.group_of.ensures in
    let is_key : key ≡ key_at memory weak (get_or objects i 0) =
    c.key_of-key.ensures ∙ ap (λ (count : ℕ). key_of count c.group_of.result) c.len-count.ensures.objects
    ∙ ap (key_of (object_count memory)) its_group in
    let is_before : before ≡ unwrap_or (tree.get nat_cmp old key) 0 =
    c.unwrap_or-before.ensures ∙ ap (λ (number : Option ℕ). unwrap_or number 0) (c.copied.ensures ∙ c.get.ensures.value) in
    let total = sum-raised old c.insert.new.self key before c.in_ok-insert.ensures.was_ordered is_before c.in_ok-insert.ensures.entries in
    record {
      tallies = AreTallies-more memory weak objects i 0 c.loop-object-test.true old c.insert.new.self c.loop-object.invariant.tallies key before
          is_key is_before c.in_ok-insert.ensures.updates;
      total = omega (arith, total, c.loop-object.invariant.total);
    }
