-- What a command line asks for, by the values that its subcommand has.
use Rattle.std.specs.Prelude.{◌≡◌, Bool, true, false, List, [], Some, codes, bytes_eq, unwrap_or}
use Rattle.std.specs.Prelude.{IsSome, IsSomeAnd, Option, slice_get}
use Rattle.std.specs.Option.{option_map_or}
use Rattle.clap.specs.Walk.{texts}
use Rattle.clap.specs.Words.{Row, Text, all_of, one_of, subcommand_name_of, subcommand_of, takes}
use Rattle.clap.specs.declared.parser.matches.ArgMatches.{ArgMatches}
use Rattle.sqz_look_args.specs.declared.question.Question.{Question}
use Rattle.sqz_look_args.specs.declared.question.Question.TheVariants.{Check, Diff, Dump, Explore}
use Rattle.sqz_look_args.specs.declared.requests.Request.{Request}
use Rattle.sqz_look_args.specs.CommandLine.{look_line, name_of}

-- the matches have a subcommand, which is one of the command line's
abbrev pub HasCommand : ArgMatches → Type 0
HasCommand m = IsSomeAnd (subcommand_name_of m) (λ word. IsSome (name_of word))

-- the values of an argument in order
abbrev pub given : Text → List Row → List Text
given id rows = unwrap_or (all_of id rows) []

-- the first value of an argument
abbrev pub first_given : Text → List Row → Option Text
first_given id rows = slice_get (given id rows) 0

-- whether an option without a value is given
abbrev pub has_flag : Text → List Row → Bool
has_flag id rows = option_map_or (λ text. bytes_eq text (codes "true")) (one_of id rows) false

-- the question is whether the images at these paths are sound, with all their faults or the first,
-- and with warnings or without
abbrev pub IsCheckOf : List Row → Question → Type 0
IsCheckOf rows (Check images all strict) =
    (texts images.items ≡ given (codes "IMAGE") rows) × (all ≡ has_flag (codes "all") rows)
    × (strict ≡ has_flag (codes "strict") rows)
IsCheckOf rows _ = ⊥

-- whether the answer is lines of JSON: if that is asked for; a dump always is, and a page never
abbrev pub is_json : Question → Bool → Bool
is_json (Dump image) asked = true
is_json (Explore image min) asked = false
is_json _ asked = asked

-- the request is what the values of `check` ask for
pub record AsksSoundness (rows : List Row) (request : Request) : Type 0 where
  pub question : IsCheckOf rows request.question
  pub clear_weak : request.clear_weak ≡ has_flag (codes "clear-weak") rows
  pub past_damage : request.past_damage ≡ has_flag (codes "past-damage") rows
  pub json : request.json ≡ has_flag (codes "json") rows
  pub all : request.all ≡ has_flag (codes "all") rows
  pub human : request.human ≡ has_flag (codes "human") rows

-- the words are accepted, and their subcommand is `check` with these values
pub record AsksCheck (words : List Text) (rows : List Row) : Type 0 where
  pub accepted : takes look_line words ≡ true
  pub subcommand : subcommand_of look_line words ≡ Some (codes "check", rows)

-- the question is what changed from the image at the one of these paths to that at the other
abbrev pub IsDiffOf : List Row → Question → Type 0
IsDiffOf rows (Diff old new) = (first_given (codes "OLD") rows ≡ Some old.now) × (first_given (codes "NEW") rows ≡ Some new.now)
IsDiffOf rows _ = ⊥

-- the request asks what changed, as the values of `diff` say
pub record AsksChanges (rows : List Row) (request : Request) : Type 0 where
  pub question : IsDiffOf rows request.question
  pub clear_weak : request.clear_weak ≡ has_flag (codes "clear-weak") rows
  pub past_damage : request.past_damage ≡ has_flag (codes "past-damage") rows

-- the words are accepted, and their subcommand is `diff` with these values
pub record AsksDiff (words : List Text) (rows : List Row) : Type 0 where
  pub accepted : takes look_line words ≡ true
  pub subcommand : subcommand_of look_line words ≡ Some (codes "diff", rows)
