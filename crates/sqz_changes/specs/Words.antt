-- How the words of two objects after their traced fields differ, by the byte orders of their files.
use Rattle.std.specs.Prelude.{ℕ, Bool, not, ◌&&◌, ◌||◌, if◌then◌else◌, nat_eq, List}
use Rattle.std.specs.Cmp.Lexicographic.{pointwise}
use Rattle.sqz_object.specs.declared.order.Order.{Order}
use Rattle.sqz_object.specs.Layout.{layout}
use Rattle.sqz_alike.specs.Alike.{untraced}
use Rattle.sqz_alike.specs.Untraced.{same_bytes, same_untraced}
use Rattle.sqz_code.specs.Parts.{bytecodes_in}
use Rattle.sqz_changes.specs.Headers.{are_methods, shape_differs}

abbrev pub bytecodes_differ : Order → Order → List ℕ → List ℕ → Bool
bytecodes_differ order other_order one other = not (pointwise nat_eq (bytecodes_in order one) (bytecodes_in other_order other))

-- methods differ by their bytecodes, other objects by the words after their traced fields
abbrev pub words_differ : Order → Order → List ℕ → List ℕ → Bool
words_differ order other_order one other =
    if are_methods one other
    then bytecodes_differ order other_order one other
    else not (same_untraced (layout one) order other_order (untraced one) (untraced other))

-- the rest of two methods: shapes, or the bytes after the traced fields, trailers included
abbrev pub trailer_differs : Order → Order → List ℕ → List ℕ → Bool
trailer_differs order other_order one other =
    are_methods one other
    && (shape_differs one other || not (same_bytes order other_order (untraced one) (untraced other)))
