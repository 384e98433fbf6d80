use Rattle.std.proofs.Common.{sym, refl}
use Rattle.std.specs.List.{drop-map, take-map}
use Rattle.sqz_object.proofs.words.Words.part.Goals as goal

pub returns : goal.returns
returns c = rw (sym c.self.view_is, drop-map, take-map) refl
