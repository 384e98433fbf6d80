-- The bytes of byte objects.
use Rattle.std.specs.Prelude.{ℕ, ◌-◌, ◌*◌, Bool, true, false, List, length, take, Option, Some, None}
use Rattle.sqz_object.specs.declared.order.Order.{Order}
use Rattle.sqz_object.specs.declared.layout.Layout.{Layout}
use Rattle.sqz_object.specs.declared.layout.Layout.TheVariants.{Bytes}
use Rattle.sqz_object.specs.Bytes.{spelling_of}
use Rattle.sqz_object.specs.Chunk.{fields}
use Rattle.sqz_object.specs.Layout.{layout}

-- whether the fields of an object with this layout are bytes
abbrev pub is_byte_layout : Layout → Bool
is_byte_layout (Bytes unused) = true
is_byte_layout _ = false

-- the bytes in these fields, as the file has them, without the unused ones at the end of the last
-- word
abbrev pub bytes_in : Order → ℕ → List ℕ → List ℕ
bytes_in order unused fields = take (4 * length fields - unused) (spelling_of order fields)

-- the first of these bytes; None unless the layout is one of bytes
abbrev pub first_bytes_by : Order → ℕ → Layout → List ℕ → Option (List ℕ)
first_bytes_by order most (Bytes unused) fields = Some (take most (bytes_in order unused fields))
first_bytes_by order most _ fields = None

-- the first bytes of the object with these words
abbrev pub first_bytes : Order → ℕ → List ℕ → Option (List ℕ)
first_bytes order most chunk = first_bytes_by order most (layout chunk) (fields chunk)
