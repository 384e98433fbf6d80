use Rattle.std.proofs.Common.{ℕ, List, subst, inl, inr}
use Rattle.sqz_image.specs.Devices.{WritesWhole}
use Rattle.sqz_look_files.proofs.DamageLemmas.{ReadsSome-mended}
use Rattle.sqz_look_files.proofs.WarningLemmas.{IsSilent-then}
use Rattle.sqz_look_files.proofs.mending.mend.Goals as goal
use Rattle.sqz_look_files.proofs.mending.mend.Goals.{then-not-is_none+in_ok-text, else-not-is_none}

pub returns-in-Ok-clause-silent : goal.returns-in-Ok-clause-silent
returns-in-Ok-clause-silent g c =
    let reads = c.in_ok-mended.ensures in
    IsSilent-then _ _ _ _ _ _
    (elim c.if-not-is_none.branch [
      | then-not-is_none+in_ok-text w ↦
          inr (inl (inr (
            c.requires,
            ReadsSome-mended _ _ _ c.in_ok-mended.mended reads.read reads.is_mended
                (λ none. let yes = c.is_none.ensures.1 none in let no = w.if-not-is_none.true in cc),
          )))
      | else-not-is_none w ↦ inl w.err-is
    ])
    (elim c.in_ok-bytes.ensures.silent [
      | inl same ↦ inl same
      | inr dangling ↦ inr (inr (inl (record { mended = c.in_ok-mended.mended; reads = reads; dangling = dangling })))
    ])

pub returns-in-Ok-clause-written : goal.returns-in-Ok-clause-written
returns-in-Ok-clause-written g c =
    record {
      mended = c.in_ok-mended.mended;
      reads = c.in_ok-mended.ensures;
      bytes = c.in_ok-bytes.bytes.items;
      asked = c.in_ok-bytes.ensures.asked;
      written = subst (λ (bytes : List ℕ). WritesWhole (g.C.Sink.state c.args.out.now) (g.C.Sink.state c.write_all.new.sink) bytes)
          c.deref.ensures.value c.in-Ok.ensures.whole;
    }
