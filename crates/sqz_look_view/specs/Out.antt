-- What contracts see of an output, and how many rows of a list it prints.
use Rattle.std.specs.Prelude.{ℕ, min, Bool, false, not, if◌then◌else◌, List}
use Rattle.sqz_look_view.specs.declared.out.Format.{Format}
use Rattle.sqz_look_view.specs.declared.out.Format.TheVariants.{Text, Json}
use Rattle.sqz_look_view.specs.declared.out.Out.{Out}

-- the form in which an output prints
abbrev pub format_of : {C : Type 0} → Out C → Format
format_of out = out.format

-- the sink that an output writes to
abbrev pub sink_of : {C : Type 0} → Out C → C
sink_of out = out.sink.now

-- what was printed and is not yet written to the sink
abbrev pub unwritten : {C : Type 0} → Out C → List ℕ
unwritten out = out.text.items

-- whether long lists are cut
abbrev pub is_cut : Format → Bool
is_cut (Text all human) = not all
is_cut Json = false

-- how many of `count` rows are printed: the first 20 of a list that is cut
abbrev pub shown_rows : Format → ℕ → ℕ
shown_rows format count = if is_cut format then min count 20 else count
