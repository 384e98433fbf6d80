use Rattle.std.proofs.Common.{sym, ap, ◌∙◌, arith}
use Rattle.sqz_object.specs.Chunk.{fields}
use Rattle.sqz_histogram.specs.Bytes.{first_bytes_by}
use Rattle.sqz_histogram.proofs.BytesLemmas.{first_bytes_by-bytes}
use Rattle.sqz_histogram.proofs.bytes.first_bytes.Goals as goal

pub returns : goal.returns
returns c =
    first_bytes_by-bytes c.args.order c.in-Bytes.unused c.args.most c.min.result c.fields-fields.result (fields c.args.object.now)
    c.in_ok-bytes.bytes.items c.fields-fields.ensures.fields
    (omega (arith, c.min.ensures, c.saturating_sub-count.ensures)) c.in_ok-bytes.ensures
    ∙ ap (λ laid. first_bytes_by c.args.order c.args.most laid (fields c.args.object.now)) (sym c.in-Bytes.is ∙ c.layout.ensures)
