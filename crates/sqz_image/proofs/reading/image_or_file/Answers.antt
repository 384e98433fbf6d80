use Rattle.std.proofs.Common.{refl}
use Rattle.sqz_image.proofs.reading.image_or_file.Goals as goal

pub returns-in-Err-parts_of-clause-refused : goal.returns-in-Err-parts_of-clause-refused
returns-in-Err-parts_of-clause-refused c =
    record {
      bytes = refl;
      header = rw c.deref.ensures.value at c.in-Ok.ensures.header;
      no_header = tt;
      refused = rw c.deref-2.ensures.value at c.in-Err-parts_of.ensures.refused;
    }
