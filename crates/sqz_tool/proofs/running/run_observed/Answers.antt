use Rattle.std.proofs.Common.{refl, inl, inr}
use Rattle.std.proofs.lemmas.Result.{err_from_is_err_and}
use Rattle.sqz_tool.proofs.RunLemmas.{refuses_file, refuses_image, refuses_writing, refuses_report, compacts}
use Rattle.sqz_tool.proofs.running.run_observed.Goals as goal

pub returns-in_err-image-clause-refuses : goal.returns-in_err-image-clause-refuses
returns-in_err-image-clause-refuses g c =
    let p = err_from_is_err_and c.from_residual-in_err-image.result c.from_residual-in_err-image.ensures.1 in
    rw (p.1, p.2) (refuses_file _ _ _ _ _ _ _ _ c.in_ok-bytes.bytes.items refl c.in_ok-bytes.ensures.whole
    c.in_err-image.ensures.refused)

pub returns-in_err-compaction-clause-refuses : goal.returns-in_err-compaction-clause-refuses
returns-in_err-compaction-clause-refuses g c =
    let p = err_from_is_err_and c.from_residual-in_err-compaction.result c.from_residual-in_err-compaction.ensures.1 in
    rw (p.1, p.2) (refuses_image _ _ _ _ _ _ _ _ c.in_ok-bytes.bytes.items c.in_ok-image.image refl
    c.in_ok-bytes.ensures.whole c.in_ok-image.ensures.image c.in_err-compaction.ensures.refused)

pub returns-in_err-write_compaction-clause-refuses : goal.returns-in_err-write_compaction-clause-refuses
returns-in_err-write_compaction-clause-refuses g c =
    let p = err_from_is_err_and c.from_residual-in_err-write_compaction.result c.from_residual-in_err-write_compaction.ensures.1 in
    rw (p.1, p.2) (elim c.in_err-write_compaction.ensures.stopped [
      | inl (stops, untouched) ↦
          refuses_writing _ _ _ _ _ _ _ c.in_ok-bytes.bytes.items c.in_ok-image.image _ _ _ (λ text. text.items) _
          c.in_ok-bytes.ensures.whole c.in_ok-image.ensures.image c.in_ok-compaction.ensures.compaction _ untouched stops
      | inr (written, stops) ↦
          refuses_report _ _ _ _ _ _ _ c.in_ok-bytes.bytes.items c.in_ok-image.image _ _ _ (λ text. text.items) _
          c.in_ok-bytes.ensures.whole c.in_ok-image.ensures.image c.in_ok-compaction.ensures.compaction written _ stops
    ])

pub returns-clause-compacts : goal.returns-clause-compacts
returns-clause-compacts g c =
    let written = c.in_ok-write_compaction.ensures in
    let are = rw c.deref.ensures.value at c.byte_bounds.ensures in
    compacts _ _ _ _ _ _ _ c.in_ok-bytes.bytes.items c.in_ok-image.image _ _ _ (λ text. text.items) _
    c.in_ok-bytes.ensures.whole c.in_ok-image.ensures.image c.in_ok-compaction.ensures.compaction written.image are written.census
