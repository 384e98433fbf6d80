use Rattle.std.proofs.Common.{◌∙◌, ◌++◌, ℕ, List, get_or, sym, ap, arith}
use Rattle.sqz_names.specs.ByteTexts.{escaped_byte}
use Rattle.sqz_names.proofs.TextLemmas.{concat_map-more}
use Rattle.sqz_names.proofs.escape.escaped.Goals as goal

pub loop-byte-preserved : goal.loop-byte-preserved
loop-byte-preserved c =
    let next : List ℕ = escaped_byte (get_or c.args.bytes.now c.loop-byte.byte-index 0) in
    c.in_ok-push_escaped.ensures ∙ ap (λ (l : List ℕ). l ++ next) c.loop-byte.invariant
    ∙ sym (concat_map-more escaped_byte c.args.bytes.now c.loop-byte.byte-index 0
    (omega (arith, c.loop-byte-test.true, c.loop-byte.auto.byte-index-end)))
