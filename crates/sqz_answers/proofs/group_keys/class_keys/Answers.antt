use Rattle.std.proofs.Common.{◌≡◌, ◌<◌, ◌∙◌, ℕ, ◌∷◌, [], ap, sym, arith, inl, inr}
use Rattle.std.proofs.lemmas.Bool.{cases_lt}
use Rattle.std.proofs.lemmas.List.{get_or_append_left, get_or_push, length_push}
use Rattle.std.proofs.lemmas.List.Elements.{All-append, All-cons, All-nil}
use Rattle.sqz_image.specs.Objects.{object_count, chunk_words}
use Rattle.sqz_histogram.specs.Groups.{group_of}
use Rattle.sqz_histogram.specs.Keys.{key_of, key_count}
use Rattle.sqz_histogram.proofs.GroupLemmas.{group_of-inside, key_of-lt}
use Rattle.sqz_answers.proofs.group_keys.class_keys.Goals as goal

pub key_of-requires-clause-inside : goal.key_of-requires-clause-inside
key_of-requires-clause-inside c =
    let its_group = rw c.in_ok-classes.ensures at c.group_of.ensures in
    rw (c.len-count.ensures.objects, its_group)
    (group_of-inside c.args.graph.heap.now c.args.graph.weak (chunk_words c.args.graph.heap.now c.loop-object.object))

pub loop-object-preserved : goal.loop-object-preserved
loop-object-preserved c =
    let memory = c.args.graph.heap.now in
    let count = object_count memory in
    let keys = c.loop-object.keys.items in
    let so_far = c.loop-object.invariant in
    let key = c.key_of.result in
    let group = group_of memory c.args.graph.weak (chunk_words memory c.loop-object.object) in
    let long = length_push keys key in
    let its_group = rw c.in_ok-classes.ensures at c.group_of.ensures in
    let is : c.key_of.result ≡ key_of (object_count c.args.graph.heap.now) (group_of c.args.graph.heap.now c.args.graph.weak (chunk_words c.args.graph.heap.now c.loop-object.object)) =
    rw (sym c.len-count.ensures.objects, sym its_group) c.key_of.ensures
    in
    let low = key_of-lt count group (group_of-inside memory c.args.graph.weak (chunk_words memory c.loop-object.object)) in
    rw c.in_ok-push.ensures.items
    (record {
      sized = omega (arith, long, so_far.sized);
      each = λ object lt. elim (cases_lt object c.loop-object.object) [
        | inl before ↦
            get_or_append_left keys (key ∷ []) 0 object (omega (arith, before, so_far.sized)) ∙ so_far.each object before
        | inr past ↦
            let last : object ≡ c.loop-object.object = omega arith in
            get_or_push keys key 0 object (omega (arith, last, so_far.sized))
            ∙ is
            ∙ ap (λ (n : ℕ). key_of (object_count c.args.graph.heap.now) (group_of c.args.graph.heap.now c.args.graph.weak (chunk_words c.args.graph.heap.now n))) (sym last)
      ];
      inside = All-append (λ n. n < key_count memory) keys (key ∷ []) so_far.inside
          (All-cons (λ n. n < key_count memory) key [] (omega (arith, is, low)) (All-nil (λ n. n < key_count memory)));
    })
