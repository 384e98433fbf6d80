use Rattle.std.proofs.Common.{◌∙◌, ◌++◌, ℕ, List, map, take, get_or, sym, ap, arith}
use Rattle.std.specs.List.{concat}
use Rattle.std.specs.String.{string_bytes}
use mathlib.Core.List.{append_assoc}
use Rattle.sqz_names.specs.ByteTexts.{byte_text}
use Rattle.sqz_names.proofs.TextLemmas.{concat_map-more}
use Rattle.sqz_names.proofs.byte_texts.push_bytes.Goals as goal

pub loop-byte-preserved : goal.loop-byte-preserved
loop-byte-preserved c =
    let f : ℕ → List ℕ = byte_text c.args.doubles_quotes in
    let bytes : List ℕ = c.args.bytes.now in
    let at : ℕ = c.loop-byte.byte-index in
    let start : List ℕ = string_bytes c.args.text.now in
    let shown : List ℕ = concat (map f (take at bytes)) in
    let next : List ℕ = f (get_or bytes at 0) in
    let more = concat_map-more f bytes at 0 (omega (arith, c.loop-byte-test.true, c.loop-byte.auto.byte-index-end)) in
    c.in_ok-push_byte.ensures ∙ ap (λ (l : List ℕ). l ++ next) c.loop-byte.invariant ∙ append_assoc start shown next
    ∙ ap (λ (l : List ℕ). start ++ l) (sym more)
