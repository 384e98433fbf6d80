-- What a pass knows after the calls that mark the dead cycle's image, one step for each call.
use Rattle.std.specs.Prelude.{◌≡◌, ℕ, None}
use Rattle.sqz_image.specs.declared.slot.Slot.TheVariants.{ClassWord}
use Rattle.sqz_image.specs.Objects.{Memory, object_count}
use Rattle.sqz_trace.specs.declared.weak.Weak.{Weak}
use Rattle.sqz_trace.specs.declared.shades.Shade.TheVariants.{White, Grey, Black}
use Rattle.sqz_trace.specs.Edges.{out_edges, strong_target}
use Rattle.sqz_marks.specs.declared.view.View.{View}
use Rattle.sqz_marks.specs.Core.{first_view, looked, seen_by, won_by, counted, blackened}

-- an object has this many strong fields, and its class word points to no object
pub record HasFields (memory : Memory) (weak : Weak) (object fields : ℕ) : Type 0 where
  pub strong : (out_edges memory weak object).strong ≡ fields
  pub class : strong_target memory weak object ClassWord ≡ None

-- the fields of the live objects of the dead cycle's image
pub record HasDeadCycle (memory : Memory) (weak : Weak) : Type 0 where
  pub count : object_count memory ≡ 6
  pub special : HasFields memory weak 5 2
  pub nil : HasFields memory weak 0 0
  pub first : HasFields memory weak 1 1
  pub second : HasFields memory weak 3 1

-- the special objects array is grey, and object 0 is won and seen once more
abbrev pub nil_seen : View
nil_seen = seen_by 0 (won_by 0 (looked 5 Grey (first_view 2 5)))

-- objects 0 and 1 are counted, and object 1 is won
abbrev pub first_counted : View
first_counted = counted 1 (won_by 1 (counted 0 nil_seen))

-- the special objects array is black
abbrev pub special_black : View
special_black = looked 2 White (looked 5 Black (blackened 5 first_counted))

-- all live objects are black
abbrev pub all_black : View
all_black = blackened 3 (blackened 1 (blackened 0 (seen_by 1 (counted 3 (won_by 3 special_black)))))
