use Rattle.std.proofs.Common.{◌≡◌, length, sym, ◌∙◌, arith}
use Rattle.sqz_alike.proofs.NumberingLemmas.{AreSomeOf-length, IsNumbering-push, placed-none}
use Rattle.sqz_alike.proofs.PlaceLemmas.{with_object-new}
use Rattle.sqz_alike.proofs.hashing.walk.Walk.place.Goals as goal

pub overflow_cast-place : goal.overflow_cast-place
overflow_cast-place c =
    let self = c.args.self.now in
    omega (
      arith,
      c.len-place.ensures,
      self.found.ok.0,
      AreSomeOf-length (length self.places.items) self.found.items c.requires.numbering.once,
      c.requires.numbering.few,
    )

pub returns-in_ok-push-in-None-clause-place : goal.returns-in_ok-push-in-None-clause-place
returns-in_ok-push-in-None-clause-place c =
    let self = c.args.self.now in
    let next =
    placed-none self.found.items self.places.items c.args.object c.requires.numbering c.requires.inside c.index.result.now c.index.ensures c.in-None.is in
    omega (arith, c.len-place.ensures, self.found.ok.0, next)

pub returns-in_ok-push-in-None-clause-found : goal.returns-in_ok-push-in-None-clause-found
returns-in_ok-push-in-None-clause-found c =
    let self = c.args.self.now in
    let next =
    placed-none self.found.items self.places.items c.args.object c.requires.numbering c.requires.inside c.index.result.now c.index.ensures c.in-None.is in
    c.in_ok-push-in-None.ensures.items ∙ sym (with_object-new self.found.items c.args.object next)

pub returns-in_ok-push-in-None-clause-numbering : goal.returns-in_ok-push-in-None-clause-numbering
returns-in_ok-push-in-None-clause-numbering c =
    let self = c.args.self.now in
    let next =
    placed-none self.found.items self.places.items c.args.object c.requires.numbering c.requires.inside c.index.result.now c.index.ensures c.in-None.is in
    let count : c.len-place.result ≡ length self.found.items = omega (arith, c.len-place.ensures, self.found.ok.0) in
    rw (c.in_ok-push-in-None.ensures.items, count)
    (IsNumbering-push self.found.items self.places.items c.args.object c.requires.numbering c.requires.inside next)
