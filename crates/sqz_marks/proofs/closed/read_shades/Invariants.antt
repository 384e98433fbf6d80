use Rattle.std.proofs.Common.{◌≡◌, ℕ, ◌<◌, length, get_or}
use Rattle.std.specs.Slots.{slots_items}
use Rattle.sqz_trace.specs.declared.shades.Shade.TheVariants.{White}
use Rattle.sqz_marks.specs.Table.{shade_of}
use Rattle.sqz_marks.proofs.closed.read_shades.Given as goal

abbrev pub invariant-loop-object : goal.invariant-loop-object
invariant-loop-object l =
    record {
      sized : length l.shades ≡ length l.fn.shades;
      read : (object : ℕ) → object < l.object → get_or l.shades object White ≡ shade_of (get_or (slots_items l.closed.words) object 0);
    }
