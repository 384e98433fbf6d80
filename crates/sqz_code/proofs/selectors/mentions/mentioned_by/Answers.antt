use Rattle.std.proofs.Common.{◌++◌, ◌∷◌, [], List, ℕ, ap, sym, ◌∙◌}
use Rattle.sqz_trace.specs.Targets.{named_by}
use Rattle.sqz_code.proofs.JoinLemmas.{filter_map-some, filter_map-none}
use Rattle.sqz_code.proofs.selectors.mentions.mentioned_by.Goals as goal

pub loop-word-preserved-in_ok-push : goal.loop-word-preserved-in_ok-push
loop-word-preserved-in_ok-push c =
    let found = filter_map-some (named_by c.args.heap.now) c.loop-word.yielded c.in-Some.word c.in-Some-named_by.object
    (sym c.in-Some-named_by.ensures.named) in
    c.in_ok-push.ensures.items ∙ ap (λ (l : List ℕ). l ++ c.in-Some-named_by.object ∷ []) c.loop-word.invariant ∙ sym found

pub loop-word-preserved : goal.loop-word-preserved
loop-word-preserved c =
    c.loop-word.invariant ∙ sym (filter_map-none (named_by c.args.heap.now) c.loop-word.yielded c.in-Some.word (sym c.named_by.ensures.named ∙ c.in_default.is))
