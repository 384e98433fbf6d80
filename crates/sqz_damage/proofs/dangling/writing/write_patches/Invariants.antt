use Rattle.std.proofs.Common.{◌≡◌, ◌*◌, ◌/◌, length, take, drop}
use Rattle.sqz_object.specs.Bytes.{words_of}
use Rattle.sqz_damage.specs.Patches.{patched}
use Rattle.sqz_damage.proofs.dangling.writing.write_patches.Given as goal

abbrev pub invariant-loop-patch : goal.invariant-loop-patch
invariant-loop-patch l =
    record {
      words : words_of l.order l.bytes ≡ patched (words_of l.order l.initial.bytes) (take l.patch-index l.patches);
      rest : drop (length l.initial.bytes / 4 * 4) l.bytes ≡ drop (length l.initial.bytes / 4 * 4) l.initial.bytes;
    }
