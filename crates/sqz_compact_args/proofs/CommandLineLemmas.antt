-- What holds of the program's command, and of the result of parsing it.
-- Serves `arguments::command` and `arguments::read_arguments`.
use Rattle.std.proofs.Common.{◌≡◌, ◌⊎◌, ◌<◌, ◌∙◌, ℕ, ap, refl, sym, arith, inl, inr, zero, suc, Bool, true, false}
use Rattle.std.proofs.Common.{◌==◌, ◌&&◌, ◌||◌, not, length, Option, Some, None, IsTrue, ◌↔◌, ap₂, subst, List, []}
use Rattle.std.proofs.Common.{◌∷◌, slice_index, slice_index_or, codes, is_some}
use Rattle.std.specs.List.{All, position_or_len}
use Rattle.std.specs.Prelude.{Result}
use Rattle.std.specs.Str.{bytes_eq}
use Rattle.std.specs.Str.Parse.{ExplainsUnsignedError, HasUnsignedDigitsIfOk, IsNumeral, ParsesUnsigned}
use Rattle.std.specs.Str.Parse.{digits_value, without_leading_plus}
use Rattle.std.specs.declared.num.ParseIntError.{ParseIntError}
use Rattle.std.proofs.lemmas.Slice.Eq.{bytes_eq-Decides}
use Rattle.clap.specs.Words.{AddsArg, App, FailsBy, HasMatchesOf, IsParsedFrom, Text, app_of, args_of, fault_of, first_of}
use Rattle.clap.specs.Words.{first_value, found_of, groups_of, is_simple, is_simple_and_free, matches_of, ReadsOne}
use Rattle.clap.specs.Words.{new_app, one_of, one_text, with_rule, without_minus, IsPlainArg}
use Rattle.clap.specs.Built.{AddsInTurn, FitsChain, HasDistinctIds}
use Rattle.clap.specs.declared.builder.arg.Arg.{Arg}
use Rattle.clap.specs.declared.builder.command.Command.{Command}
use Rattle.clap.specs.declared.builder.command.Command.TheViews.{out-Command}
use Rattle.clap.specs.declared.error.Error.{Error}
use Rattle.clap.specs.declared.parser.matches.ArgMatches.{ArgMatches}
use Rattle.clap.proofs.CallerLemmas.{required_in_chain}
use Rattle.clap.proofs.CallerReads.{signed_reads}
use Rattle.clap.proofs.WalkLemmas.{first_value-rows, one_text-rows}
use Rattle.clap.proofs.OnLiterals.{clap_on_literals}
use Rattle.sqz_compact_args.specs.CommandLine.{with_version, GivesAll, HasNumber, IsFlag, IsFlagText, IsNumber, IsRequired}
use Rattle.sqz_compact_args.specs.CommandLine.{command_line, number_parser}
use Rattle.clap.specs.declared.builder.value_parser.ValueParser.TheVariants as vp
use Rattle.sqz_compact_args.proofs.ArgumentLemmas.{default_in_chain, distinct_by_names, read_in_chain}

-- the matches of the command line can be computed
pub command_line_simple : is_simple command_line ≡ true
unfolding clap_on_literals
command_line_simple = refl

-- and so can its refusals
pub command_line_free : is_simple_and_free command_line ≡ true
unfolding clap_on_literals
command_line_free = refl

-- the words of the command line say what its matches hold
pub first_is : (command : Command) (words : List Text) (m : ArgMatches) (id : Text) → app_of command ≡ command_line
    → HasMatchesOf (app_of command) words m → first_of id (matches_of command_line words) ≡ first_value (found_of m) id
first_is command words m id shape holds =
    let rows = (holds (ap is_simple shape ∙ command_line_simple)).0 in
    ap (λ (a : App). first_of id (matches_of a words)) (sym shape) ∙ (ap (first_of id) (sym rows) ∙ sym (first_value-rows (found_of m) id))

-- and what the typed getters read
pub one_is : (command : Command) (words : List Text) (m : ArgMatches) (id : Text) → app_of command ≡ command_line
    → HasMatchesOf (app_of command) words m → one_of id (matches_of command_line words) ≡ one_text (found_of m) id
one_is command words m id shape holds =
    let rows = (holds (ap is_simple shape ∙ command_line_simple)).0 in
    ap (λ (a : App). one_of id (matches_of a words)) (sym shape) ∙ (ap (one_of id) (sym rows) ∙ sym (one_text-rows (found_of m) id))

-- what is answered by the refusals of the program's command is answered by those of the command line
pub refusals_are : {T : Type 0} → (command : Command) (words : List Text) (r : Result T Error) → app_of command ≡ command_line
    → (is_simple_and_free (app_of command) ≡ true → FailsBy (fault_of (app_of command) words) r)
    → FailsBy (fault_of command_line words) r
refusals_are command words r shape holds =
    subst (λ (a : App). FailsBy (fault_of a words) r) shape (holds (ap is_simple_and_free shape ∙ command_line_free))

-- the names that building adds begin with an h and a v
abbrev is_free_letter : ℕ → Bool
is_free_letter letter = not (letter == 0) && (not (letter == 104) && not (letter == 118))

begins_otherwise : (name other : Text) → is_free_letter (slice_index name 0) ≡ true → is_free_letter (slice_index other 0) ≡ false
    → name ≡ other → ⊥
begins_otherwise name other free taken same = let begin = ap (λ (text : Text). is_free_letter (slice_index text 0)) same in cc

-- an argument whose id is another name fits into a chain
fits_by_name : (name : Text) (a : Arg) → is_free_letter (slice_index name 0) ≡ true → a.id.now ≡ name → IsPlainArg a → a.global ≡ false
    → FitsChain a
fits_by_name name a free id simple local = (
  simple,
  local,
  λ empty. begins_otherwise name [] free refl (sym id ∙ empty),
  λ auto. elim auto [
    | inl h ↦ begins_otherwise name (codes "help") free refl (sym id ∙ h)
    | inr v ↦ begins_otherwise name (codes "version") free refl (sym id ∙ v)
  ],
)

abbrev names : List Text
names = codes "IN" ∷ codes "OUT" ∷ codes "workers" ∷ codes "region-words" ∷ codes "census" ∷ codes "clear-weak" ∷ []

-- each name stands at one place
place_is : (i : ℕ) → i < length names → position_or_len (bytes_eq (slice_index_or names i [])) names ≡ i
place_is zero inside = refl
place_is (suc zero) inside = refl
place_is (suc (suc zero)) inside = refl
place_is (suc (suc (suc zero))) inside = refl
place_is (suc (suc (suc (suc zero)))) inside = refl
place_is (suc (suc (suc (suc (suc zero))))) inside = refl
place_is (suc (suc (suc (suc (suc (suc i)))))) inside = absurd (omega arith)

names_apart : (i j : ℕ) → i < length names → j < length names → slice_index_or names i [] ≡ slice_index_or names j [] → i ≡ j
names_apart i j inside within same =
    sym (place_is i inside) ∙ ap (λ (name : Text). position_or_len (bytes_eq name) names) same ∙ place_is j within

-- a text that is one of two
one_of_two : (text one other : Text) → (bytes_eq text one || bytes_eq text other) ≡ true → (text ≡ one) ⊎ (text ≡ other)
one_of_two text one other test = at (bytes_eq text one) refl
  where
    at : (b : Bool) → bytes_eq text one ≡ b → (text ≡ one) ⊎ (text ≡ other)
    at true same = inl ((bytes_eq-Decides text one).0 same)
    at false apart = inr ((bytes_eq-Decides text other).0 (rw apart at test))

-- a command that is made of another by adding the arguments of the program in turn
pub record IsMade (start cmd : Command) : Type 0 where
  pub one : Command
  pub two : Command
  pub three : Command
  pub four : Command
  pub five : Command
  pub input : Arg
  pub output : Arg
  pub workers : Arg
  pub region_words : Arg
  pub census : Arg
  pub clear_weak : Arg
  pub first : AddsArg start input one
  pub second : AddsArg one output two
  pub third : AddsArg two workers three
  pub fourth : AddsArg three region_words four
  pub fifth : AddsArg four census five
  pub sixth : AddsArg five clear_weak cmd
  pub for_input : IsRequired (codes "IN") input
  pub for_output : IsRequired (codes "OUT") output
  pub for_workers : IsNumber (codes "workers") (codes "4") workers
  pub for_regions : IsNumber (codes "region-words") (codes "65536") region_words
  pub for_census : IsFlag (codes "census") census
  pub for_weak : IsFlag (codes "clear-weak") clear_weak

module _ (start cmd : Command) (made : IsMade start cmd) where
  open made use {one, two, three, four, five, input, output, workers, region_words, census, clear_weak}
  open made use {first, second, third, fourth, fifth, sixth}
  open made use {for_input, for_output, for_workers, for_regions, for_census, for_weak}

  -- the command's arguments are those of the command line
  pub shape_is : app_of start ≡ with_version (new_app (codes "sqzcompact")) → app_of cmd ≡ command_line
  shape_is new =
      sixth.shape for_weak.local
      ∙ ap₂ with_rule (fifth.shape for_census.local
      ∙ ap₂ with_rule (fourth.shape for_regions.local
      ∙ ap₂ with_rule (third.shape for_workers.local
      ∙ ap₂ with_rule (second.shape for_output.local
      ∙ ap₂ with_rule (first.shape for_input.local
      ∙ ap₂ with_rule new for_input.rule) for_output.rule) for_workers.rule) for_regions.rule) for_census.rule) for_weak.rule

  abbrev arguments : List Arg
  arguments = input ∷ output ∷ workers ∷ region_words ∷ census ∷ clear_weak ∷ []

  chain : AddsInTurn AddsArg start arguments cmd
  chain = (one, first, (two, second, (three, third, (four, fourth, (five, fifth, (cmd, sixth, refl))))))

  fits : All FitsChain arguments
  fits zero d inside = fits_by_name (codes "IN") input refl for_input.id for_input.simple for_input.local
  fits (suc zero) d inside = fits_by_name (codes "OUT") output refl for_output.id for_output.simple for_output.local
  fits (suc (suc zero)) d inside = fits_by_name (codes "workers") workers refl for_workers.id for_workers.simple for_workers.local
  fits (suc (suc (suc zero))) d inside =
      fits_by_name (codes "region-words") region_words refl for_regions.id for_regions.simple for_regions.local
  fits (suc (suc (suc (suc zero)))) d inside = fits_by_name (codes "census") census refl for_census.id for_census.simple for_census.local
  fits (suc (suc (suc (suc (suc zero))))) d inside =
      fits_by_name (codes "clear-weak") clear_weak refl for_weak.id for_weak.simple for_weak.local
  fits (suc (suc (suc (suc (suc (suc k)))))) d inside = absurd (omega arith)

  distinct : HasDistinctIds arguments
  distinct =
      distinct_by_names arguments names
      (rw (for_input.id, for_output.id, for_workers.id, for_regions.id, for_census.id, for_weak.id)) names_apart

  module _ (args : args_of start ≡ []) (groups : groups_of start ≡ []) (globals : (out-Command start).has_globals ≡ false)
      (negates : (out-Command start).subcommand_negates_reqs ≡ false) (m : ArgMatches) (parsed : IsParsedFrom cmd m) where
    -- a word that has to be there is there
    word_at : (k : ℕ) (name : Text) (a : Arg) → k < length arguments → slice_index_or arguments k a ≡ a → IsRequired name a
        → is_some (first_value (found_of m) name) ≡ true
    word_at k name a inside is word =
        let at = subst (IsRequired name) (sym is) word in
        let got = required_in_chain start cmd arguments k a m chain args groups globals negates fits distinct inside at.value parsed in
        subst (λ (id : Text). is_some (first_value (found_of m) id) ≡ true) at.id got

    -- an option with a number has one
    number_at : (k : ℕ) (name initial : Text) (a : Arg) → k < length arguments → slice_index_or arguments k a ≡ a → IsNumber name initial a
        → HasNumber m name
    number_at k name initial a inside is option =
        let at = subst (IsNumber name initial) (sym is) option in
        let got =
        default_in_chain start cmd arguments m chain args groups globals fits distinct parsed k a inside
        number_parser at.parser at.default at.action at.whole at.least
        in
        (got.0, subst (λ (id : Text). one_text (found_of m) id ≡ Some (without_minus got.0)) at.id got.1, got.2)

    -- a flag has a word of two
    flag_at : (k : ℕ) (name : Text) (a : Arg) → k < length arguments → slice_index_or arguments k a ≡ a → IsFlag name a
        → IsFlagText m name
    flag_at k name a inside is flag text read =
        let at = subst (IsFlag name) (sym is) flag in
        let got =
        read_in_chain start cmd arguments m chain args groups globals fits distinct parsed k a inside
        vp.Bool at.parser text (rw at.id read)
        in
        let word = one_of_two got.0 (codes "true") (codes "false") got.2 in
        elim word [ inl on ↦ inl (got.1 ∙ on) | inr off ↦ inr (got.1 ∙ off) ]

    -- a parse gives each argument what its reader counts on
    pub all_given : GivesAll m
    all_given = record {
      input = word_at 0 (codes "IN") input (omega arith) refl for_input;
      output = word_at 1 (codes "OUT") output (omega arith) refl for_output;
      workers = number_at 2 (codes "workers") (codes "4") workers (omega arith) refl for_workers;
      region_words = number_at 3 (codes "region-words") (codes "65536") region_words (omega arith) refl for_regions;
      census = flag_at 4 (codes "census") census (omega arith) refl for_census;
      clear_weak = flag_at 5 (codes "clear-weak") clear_weak (omega arith) refl for_weak;
    }

-- how `u32` reads a text
abbrev pub ReadsText : Text → Result ℕ ParseIntError → Type 0
ReadsText text r = ParsesUnsigned 32 10 text r × ExplainsUnsignedError 10 text r × HasUnsignedDigitsIfOk text r

-- a number that was read of an option: the option's text has it
pub record IsRead (m : ArgMatches) (name : Text) (r : Option ℕ) : Type 0 where
  pub number : ℕ
  pub found : r ≡ Some number
  pub text : Text
  pub given : one_text (found_of m) name ≡ Some text
  pub numeral : IsNumeral 10 (without_leading_plus text)
  pub value : digits_value 10 (without_leading_plus text) ≡ number

-- so `get_one` makes a number of such an option, and its text has that
pub number_read : (m : ArgMatches) (name : Text) (r : Option ℕ) → HasNumber m name
    → ((t : Text) → one_text (found_of m) name ≡ Some t → ReadsOne ReadsText t r) → IsRead m name r
number_read m name r has reads =
    let text = without_minus has.0 in
    let read = reads text has.1 in
    let got = signed_reads ParseIntError ReadsText 32 0 4294967295 has.0 r read (λ u x reads. reads.0) (omega arith) has.2 in
    let (((numeral, fits), value), explains, digits) = subst (ReadsOne ReadsText text) got.1 read in
    record {
      number = got.0;
      found = got.1;
      text = text;
      given = has.1;
      numeral = numeral;
      value = sym value;
    }

-- a flag is on where its text says so
flag_read : (m : ArgMatches) (name : Text) (flag : Bool) → IsFlagText m name
    → (one_text (found_of m) name ≡ None → flag ≡ false) → (one_text (found_of m) name ≡ Some (codes "true") → flag ≡ true)
    → (one_text (found_of m) name ≡ Some (codes "false") → flag ≡ false)
    → IsTrue flag ↔ (one_text (found_of m) name ≡ Some (codes "true"))
flag_read m name flag words none on off = (λ set. text_of (one_text (found_of m) name) refl set, on)
  where
    text_of : (o : Option Text) → one_text (found_of m) name ≡ o → flag ≡ true → one_text (found_of m) name ≡ Some (codes "true")
    text_of None is set = let unset = none is in cc
    text_of (Some text) is set = elim (words text is) [
      | inl yes_text ↦ is ∙ ap (λ (t : Text). Some t) yes_text
      | inr no_text ↦ let unset = off (is ∙ ap (λ (t : Text). Some t) no_text) in cc
    ]

-- so it is on where the words of the command line say so
pub flag_is : (command : Command) (words : List Text) (m : ArgMatches) (name : Text) (flag : Bool) → app_of command ≡ command_line
    → HasMatchesOf (app_of command) words m → IsFlagText m name
    → (one_text (found_of m) name ≡ None → flag ≡ false) → (one_text (found_of m) name ≡ Some (codes "true") → flag ≡ true)
    → (one_text (found_of m) name ≡ Some (codes "false") → flag ≡ false)
    → IsTrue flag ↔ (one_of name (matches_of command_line words) ≡ Some (codes "true"))
flag_is command words m name flag shape holds given none on off =
    let is = one_is command words m name shape holds in
    let read = flag_read m name flag given none on off in
    (λ set. is ∙ read.0 set, λ text. read.1 (sym is ∙ text))
