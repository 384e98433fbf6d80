use Rattle.std.proofs.Math.Logic.{∥∥₁_elim, ∥∥₁_map, ∥∥₁_prop}
use Rattle.sqz_alike.proofs.AlikeLemmas.{written-same, written-set}
use Rattle.sqz_alike.proofs.ConverseLemmas.{chunks-small, written-alike}
use Rattle.sqz_alike.proofs.laws.alike_images_have_one_digest.Goals as goal

pub returns : goal.returns
returns c =
    let one = c.args.one.now in
    let other = c.args.other.now in
    let bounds = c.word_bounds.ensures in
    let other_bounds = c.word_bounds-2.ensures in (
      (λ alike. ∥∥₁_elim alike (written-set _ _) (written-same one other)),
      (λ same. ∥∥₁_elim one.reachable ∥∥₁_prop (λ is. ∥∥₁_map other.reachable (λ other_is.
          written-alike one other (chunks-small one.graph.heap.now bounds.few bounds.words)
          (chunks-small other.graph.heap.now other_bounds.few other_bounds.words) bounds.objects other_bounds.objects same is other_is))),
    )
