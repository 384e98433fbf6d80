use Rattle.std.proofs.Common.{sym, arith}
use Rattle.std.proofs.lemmas.List.{length-take-le, take_all}
use Rattle.sqz_names.proofs.byte_texts.first.Goals as goal

pub slice_bounds-result-end : goal.slice_bounds-result-end
slice_bounds-result-end c = sym (length-take-le 40 c.args.bytes.now (omega (arith, c.if-bytes-gt-MOST_BYTES.true)))

pub returns-else-bytes-gt-MOST_BYTES : goal.returns-else-bytes-gt-MOST_BYTES
returns-else-bytes-gt-MOST_BYTES c = sym (take_all 40 c.args.bytes.now (omega (arith, c.if-bytes-gt-MOST_BYTES.false)))
