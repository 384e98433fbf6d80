use Rattle.std.proofs.Common.{◌≡◌, ◌*◌, ◌/◌, length, take, drop}
use Rattle.sqz_object.specs.Bytes.{words_of}
use Rattle.sqz_damage.specs.Filled.{filled}
use Rattle.sqz_damage.proofs.filling.fill_gaps.Given as goal

abbrev pub invariant-loop-gap : goal.invariant-loop-gap
invariant-loop-gap l =
    record {
      words : words_of l.order l.bytes ≡ filled (words_of l.order l.initial.bytes) (take l.gap-index l.gaps);
      rest : drop (length l.initial.bytes / 4 * 4) l.bytes ≡ drop (length l.initial.bytes / 4 * 4) l.initial.bytes;
    }
