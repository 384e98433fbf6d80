-- What a method mentions is determined.
-- Serves `picking::mentions_one`.
use Rattle.std.proofs.Common.{◌≡◌, ℕ, ◌+◌, List, [], ◌∷◌, ◌++◌, length, drop, refl, sym, ap, subst, ◌∙◌, arith}
use Rattle.sqz_image.specs.Objects.{Memory, chunk_words}
use Rattle.sqz_code.specs.declared.instruction.Instruction.{Instruction}
use Rattle.sqz_code.specs.Instructions.{IsDecodingOf}
use Rattle.sqz_code.specs.Parts.{bytecodes_in}
use Rattle.sqz_code.specs.Mentions.{sent_by, literal_objects, AreSent, AreMentioned}

-- bytes are decoded in one way
one_decoding : (bytes : List ℕ) (start : ℕ) (some others : List Instruction)
    → IsDecodingOf bytes start some → IsDecodingOf bytes start others → some ≡ others
one_decoding bytes start [] [] e f = refl
one_decoding bytes start [] (other ∷ others) e (more, is, rest) = absurd (omega (arith, ap length e))
one_decoding bytes start (one ∷ some) [] (more, is, rest) f = absurd (omega (arith, ap length f))
one_decoding bytes start (one ∷ some) (other ∷ others) (more, is, rest) (more', is', rest') =
    let same : other ≡ one = is' ∙ sym is in
    let its : IsDecodingOf (drop one.length bytes) (start + one.length) others =
    subst (λ (it : Instruction). IsDecodingOf (drop it.length bytes) (start + it.length) others) same rest' in
    let tails : some ≡ others = one_decoding (drop one.length bytes) (start + one.length) some others rest its in
    ap (λ (it : Instruction). it ∷ some) (sym same) ∙ ap (λ (l : List Instruction). other ∷ l) tails

one_sent : (memory : Memory) (method : ℕ) (some others : List ℕ)
    → AreSent memory method some → AreSent memory method others → some ≡ others
one_sent memory method some others are are' =
    are.are
    ∙ ap (sent_by memory method)
    (one_decoding (bytecodes_in memory.order (chunk_words memory method)) 0 are.instructions are'.instructions are.decoded are'.decoded)
    ∙ sym are'.are

pub one_mentioned : (memory : Memory) (method : ℕ) (some others : List ℕ)
    → AreMentioned memory method some → AreMentioned memory method others → some ≡ others
one_mentioned memory method some others are are' =
    are.are
    ∙ ap (λ (sent : List ℕ). literal_objects memory method ++ sent) (one_sent memory method are.sent are'.sent are.are_sent are'.are_sent)
    ∙ sym are'.are
