use Rattle.std.proofs.Common.{◌≡◌, ◌<◌, ℕ, length, true}
use Rattle.sqz_image.specs.Objects.{object_count}
use Rattle.sqz_trace.specs.Graph.{is_marked}
use Rattle.sqz_names.specs.Names.{IsMethodNamed}
use Rattle.sqz_names.specs.Texts.{HasOnlyLabel}
use Rattle.sqz_names.specs.Words.{IsClassCalled, IsNamed}
use Rattle.sqz_names.proofs.words.named.objects_named.Given as goal

pub record IsSoFar (l : goal.Live-loop-object) : Type 0 where
  pub sized : length l.named ≡ object_count l.fn.names.graph.heap.now
  pub sound : (object : ℕ) → is_marked l.named object ≡ true
      → IsNamed l.fn.names.graph.heap.now l.fn.names.graph.weak l.fn.words object
  pub methods : (object : ℕ) → IsMethodNamed l.fn.names.graph.heap.now l.fn.names.graph.weak l.fn.words object
      → is_marked l.named object ≡ true
  pub classes : (object : ℕ) → object < l.object → IsClassCalled l.fn.names.graph.heap.now l.fn.names.graph.weak l.fn.words object
      → is_marked l.named object ≡ true
  pub labelled : (object : ℕ) → object < l.object → HasOnlyLabel l.fn.names.graph.heap.now l.fn.names.graph.weak object l.fn.words
      → is_marked l.named object ≡ true

abbrev pub invariant-loop-object : goal.invariant-loop-object
invariant-loop-object l = IsSoFar l
