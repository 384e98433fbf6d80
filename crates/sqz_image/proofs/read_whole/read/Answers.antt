use Rattle.std.proofs.Common.{◌≡◌, ◌+◌, ◌-◌, ◌^◌, ◌++◌, take, refl, sym, subst, inr, arith}
use Rattle.sqz_image.specs.Fronts.{BeginsNoImage, ReadsFront}
use Rattle.std.proofs.lemmas.Grind.{common_steps}
use Rattle.std.proofs.lemmas.Result.{err_from_is_err_and}
use Rattle.sqz_image.proofs.ReadingLoop.{ReadStops-failed, ReadStops-memory, ReadStops-limit, ReadsFront-read}
use Rattle.sqz_image.proofs.read_whole.read.Goals as goal

pub returns-in_err-append-clause-stopped : goal.returns-in_err-append-clause-stopped
returns-in_err-append-clause-stopped g c =
    let p = err_from_is_err_and c.from_residual.result c.from_residual.ensures.1 in
    rw (p.1, p.2, c.in_err-append.ensures.stopped) (ReadStops-memory _ _ _ _ _ _ _ c.loop.invariant.has_read
    c.in-Ok.count c.in-Ok.ensures.read (omega (arith, c.if-count-eq0.false)) (omega arith))

pub returns-clause-stopped : goal.returns-clause-stopped
returns-clause-stopped g c =
    let last : c.loop.counter - 1 + 1 ≡ 2 ^ 32 = omega arith in
    ReadStops-limit _ _ _ _ _ _ _ c.loop.invariant.has_read _ c.read-2.ensures.read last

pub returns-in_default-clause-stopped : goal.returns-in_default-clause-stopped
returns-in_default-clause-stopped g c =
    ReadStops-failed g.R.Source.gives_all _ _ _ _ c.read.new.into _ c.loop.invariant.has_read c.in_default.field-0
    c.in_default.ensures.read (omega arith)

pub loop-preserved : goal.loop-preserved
loop-preserved g c = grind (arith, common_steps)

pub returns-in-loop-clause-asked : goal.returns-in-loop-clause-asked
returns-in-loop-clause-asked g c =
    let appended : c.append.new.file.items ≡ c.loop.file.items ++ take c.in-Ok.count c.read.new.into = c.in_ok-append.ensures.whole in
    let none : BeginsNoImage c.append.new.file.items = subst BeginsNoImage c.deref.ensures.value (c.if-is_refused.ensures refl) in
    rw c.in-Image.is (inr (subst (ReadsFront _ _) (sym appended)
    (ReadsFront-read _ _ _ _ _ _ _ c.loop.invariant.has_read c.in-Ok.count c.in-Ok.ensures.read
    (omega (arith, c.if-count-eq0.false)) (omega arith) (subst BeginsNoImage appended none))))
