-- The unimplemented selectors of one more method.
-- Serves `unimplemented_of`.
use Rattle.std.proofs.Common.{ℕ, ◌+◌, ◌<◌, Bool, not, List, ◌++◌, length, take, get_or, refl}
use Rattle.std.specs.Prelude.{All, filter}
use Rattle.std.proofs.lemmas.List.Elements.{All-append, All-map, All-filter}
use Rattle.sqz_image.specs.Objects.{Memory, object_count}
use Rattle.sqz_trace.specs.declared.weak.Weak.{Weak}
use Rattle.sqz_trace.specs.Graph.{is_marked}
use Rattle.sqz_names.specs.declared.method_name.MethodName.{MethodName}
use Rattle.sqz_names.specs.Names.{IsMethodName}
use Rattle.sqz_code.specs.declared.selectors.unimplemented.Unimplemented.{Unimplemented}
use Rattle.sqz_code.specs.Mentions.{AreSent}
use Rattle.sqz_code.specs.Unimplemented.{AreUnimplementedIn, AreUnimplemented, unimplemented_in}
use Rattle.sqz_code.proofs.JoinLemmas.{AreJoined-take-push}

-- what was found in some methods
pub record AreFound (memory : Memory) (weak : Weak) (implemented : List Bool) (names : List MethodName) (found : List Unimplemented) : Type 0 where
  pub are : AreUnimplemented memory implemented names found
  pub inside : All (λ it. it.selector < object_count memory) found
  pub senders : All (λ it. IsMethodName memory weak it.sender) found

pub AreFound-more : (memory : Memory) (weak : Weak) (implemented : List Bool) (names : List MethodName) (i : ℕ) (d : MethodName)
    → i < length names → (sent : List ℕ) (found : List Unimplemented)
    → AreSent memory (get_or names i d).method sent → All (λ selector. selector < object_count memory) sent
    → IsMethodName memory weak (get_or names i d)
    → AreFound memory weak implemented (take i names) found
    → AreFound memory weak implemented (take (i + 1) names) (found ++ unimplemented_in implemented (get_or names i d) sent)
AreFound-more memory weak implemented names i d lt sent found are_sent inside is_name so_far =
    let name : MethodName = get_or names i d in
    let its : List Unimplemented = unimplemented_in implemented name sent in
    let made : ℕ → Unimplemented = λ selector. record { selector = selector; sender = name } in
    let left : List ℕ = filter (λ selector. not (is_marked implemented selector)) sent in
    record {
      are = AreJoined-take-push (AreUnimplementedIn memory implemented) names i d lt its found
          (record { sent = sent; are_sent = are_sent; are = refl }) so_far.are;
      inside = All-append (λ it. it.selector < object_count memory) found its so_far.inside
          (All-map (λ it. it.selector < object_count memory) made left
          (All-filter (λ selector. not (is_marked implemented selector)) (λ selector. selector < object_count memory) sent inside));
      senders = All-append (λ it. IsMethodName memory weak it.sender) found its so_far.senders
          (All-map (λ it. IsMethodName memory weak it.sender) made left (λ k d lt. is_name));
    }
