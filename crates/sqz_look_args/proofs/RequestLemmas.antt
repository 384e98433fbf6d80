-- What is read of the matches of a subcommand.
-- Serves the functions of `requests`, `questions` and `values`.
use Rattle.std.proofs.Common.{◌≡◌, ◌∙◌, Bool, true, false, List, [], ◌∷◌, Option, Some, None, codes, is_some, refl, sym, ap}
use Rattle.std.specs.Prelude.{Box, bytes_eq, map, option_and_then, option_map, slice_get, unwrap_or}
use Rattle.std.specs.Borrow.{Bor}
use Rattle.std.specs.Box.{box_value}
use Rattle.std.specs.Option.{option_map_or}
use Rattle.std.specs.Str.Parse.{ParsesBool}
use Rattle.std.proofs.lemmas.Option.{same_Some}
use Rattle.std.proofs.lemmas.Slice.Eq.{bytes_eq-Decides}
use Rattle.clap.specs.Walk.{texts}
use Rattle.clap.specs.Words.{ReadsOne, Row, Text, first_value, matched_of, one_text, raw_values, read_as, rows_of}
use Rattle.clap.specs.Words.{subcommand_name_of, subcommand_rows, subcommand_rows_of}
use Rattle.clap.specs.declared.parser.matches.ArgMatches.{ArgMatches}
use Rattle.clap.specs.declared.parser.matches.ArgMatches.TheViews.{out-ArgMatches, out-SubCommand}
use Rattle.clap.specs.declared.parser.matches.Found.{Found}
use Rattle.clap.specs.declared.parser.matches.MatchedArg.{MatchedArg}
use Rattle.clap.specs.declared.parser.matches.SubCommand.{SubCommand}
use Rattle.clap.proofs.WalkLemmas.{one_text-rows, raw_values-rows}
use Rattle.sqz_look_args.specs.declared.subcommands.Name.{Name}
use Rattle.sqz_look_args.specs.declared.subcommands.Name.TheVariants as names
use Rattle.sqz_look_args.specs.declared.question.Question.{Question}
use Rattle.sqz_look_args.specs.declared.question.Question.TheVariants.{Check}
use Rattle.sqz_look_args.specs.CommandLine.{name_of}
use Rattle.sqz_look_args.specs.Requests.{IsCheckOf, first_given, given, has_flag, is_json}

pub is_some-option_map : {X Y : Type 0} (f : X → Y) (o : Option X) → is_some (option_map f o) ≡ is_some o
is_some-option_map f None = refl
is_some-option_map f (Some x) = refl

bytes_eq-apart : (a b : Text) → (a ≡ b → ⊥) → bytes_eq a b ≡ false
bytes_eq-apart a b apart = at (bytes_eq a b) refl
  where
    at : (test : Bool) → bytes_eq a b ≡ test → bytes_eq a b ≡ false
    at true same = absurd (apart ((bytes_eq-Decides a b).0 same))
    at false same = same

-- a text that `bool` reads
flag_read : (E : Type 0) (text : Option Text) (read : Option Bool) → (text ≡ None → read ≡ None)
    → ((t : Text) → text ≡ Some t → ReadsOne {T = Bool} {E = E} ParsesBool t read)
    → unwrap_or read false ≡ option_map_or (λ t. bytes_eq t (codes "true")) text false
flag_read E None read none value = ap (λ (r : Option Bool). unwrap_or r false) (none refl)
flag_read E (Some t) (Some true) none value = sym ((bytes_eq-Decides t (codes "true")).1 (value t refl))
flag_read E (Some t) (Some false) none value = sym (ap (λ (s : Text). bytes_eq s (codes "true")) (value t refl))
flag_read E (Some t) None none value = sym (bytes_eq-apart t (codes "true") (value t refl).1.0)

-- an option without a value is on if its text is `true`
pub flag_given : (E : Type 0) (f : Found) (id : Text) (read : Option Bool) → (one_text f id ≡ None → read ≡ None)
    → ((t : Text) → one_text f id ≡ Some t → ReadsOne {T = Bool} {E = E} ParsesBool t read)
    → unwrap_or read false ≡ has_flag id (rows_of f)
flag_given E f id read none value =
    flag_read E (one_text f id) read none value
    ∙ ap (λ (o : Option Text). option_map_or (λ t. bytes_eq t (codes "true")) o false) (one_text-rows f id)

read_of_matched : (o : Option MatchedArg)
    → is_some (option_and_then (λ (a : MatchedArg). option_map (λ s. s.now) (slice_get a.vals.items 0)) o)
    ≡ is_some (option_and_then (λ (a : MatchedArg). option_map (λ s. read_as a.reading s.now) (slice_get a.vals.items 0)) o)
read_of_matched None = refl
read_of_matched (Some a) =
    is_some-option_map (λ s. s.now) (slice_get a.vals.items 0)
    ∙ sym (is_some-option_map (λ s. read_as a.reading s.now) (slice_get a.vals.items 0))

-- an argument that does not read as a value has one as text
pub first_value-read : (f : Found) (id : Text) (read : Option (Bor Text)) → option_map (λ s. s.now) read ≡ first_value f id
    → (one_text f id ≡ None → ⊥) → is_some read ≡ true
first_value-read f id read is has = at (one_text f id) refl
  where
    at : (o : Option Text) → one_text f id ≡ o → is_some read ≡ true
    at None none = absurd (has none)
    at (Some text) some =
        sym (is_some-option_map (λ s. s.now) read) ∙ (ap is_some is ∙ (read_of_matched (matched_of f id) ∙ ap is_some some))

-- the values of an argument are those of its rows
pub values_given : (f : Found) (id : Text) (read : Option (Bor (List (Bor Text))))
    → option_map (λ s. map (λ v. v.now) s.now) read ≡ option_map raw_values (matched_of f id)
    → unwrap_or (option_map (λ s. texts s.now) read) [] ≡ given id (rows_of f)
values_given f id read is = ap (λ (o : Option (List Text)). unwrap_or o []) (is ∙ raw_values-rows f id)

first_of_matched : (o : Option MatchedArg)
    → option_and_then (λ (a : MatchedArg). option_map (λ s. s.now) (slice_get a.vals.items 0)) o
    ≡ slice_get (unwrap_or (option_map raw_values o) []) 0
first_of_matched None = refl
first_of_matched (Some a) = at a.vals.items
  where
    at : (xs : List (Bor Text)) → option_map (λ s. s.now) (slice_get xs 0) ≡ slice_get (map (λ v. v.now) xs) 0
    at [] = refl
    at (x ∷ xs) = refl

-- the value of an argument is the first one of its rows
pub value_given : (f : Found) (id : Text) (read : Option (Bor Text)) → option_map (λ s. s.now) read ≡ first_value f id
    → first_given id (rows_of f) ≡ option_map (λ s. s.now) read
value_given f id read is =
    ap (λ (o : Option (List Text)). slice_get (unwrap_or o []) 0) (sym (raw_values-rows f id))
    ∙ (sym (first_of_matched (matched_of f id)) ∙ sym is)

name_of_entered : {Z : Type 0} (entered : Option (Box SubCommand Z))
    → option_map (λ b. (out-SubCommand (box_value b)).name.now) entered ≡ option_map (λ p. p.0) (subcommand_rows entered)
name_of_entered None = refl
name_of_entered (Some b) = refl

-- the name of a subcommand is that of its rows
pub subcommand_name_of-rows : (m : ArgMatches) → subcommand_name_of m ≡ option_map (λ p. p.0) (subcommand_rows_of m)
subcommand_name_of-rows m = name_of_entered (out-ArgMatches m).subcommand

module _ (m : ArgMatches) (rows : List Row) (word : Text) (name : Name) (entered : Some word ≡ subcommand_name_of m)
    (named : Some name ≡ name_of word) where
  word_is : (asked : Text) → subcommand_rows_of m ≡ Some (asked, rows) → word ≡ asked
  word_is asked is = same_Some _ _ (entered ∙ (subcommand_name_of-rows m ∙ ap (option_map (λ p. p.0)) is))

  -- the word `check` stands for the subcommand of this name
  pub name_is_check : subcommand_rows_of m ≡ Some (codes "check", rows) → name ≡ names.Check
  name_is_check asked = same_Some _ _ (named ∙ ap name_of (word_is (codes "check") asked))

  -- so does the word `diff`
  pub name_is_diff : subcommand_rows_of m ≡ Some (codes "diff", rows) → name ≡ names.Diff
  name_is_diff asked = same_Some _ _ (named ∙ ap name_of (word_is (codes "diff") asked))

-- to check an image is not to write a dump or a page
pub is_json-check : (rows : List Row) (question : Question) (asked : Bool) → IsCheckOf rows question → is_json question asked ≡ asked
is_json-check rows (Check images all strict) asked is = refl
is_json-check rows _ asked is = absurd is
