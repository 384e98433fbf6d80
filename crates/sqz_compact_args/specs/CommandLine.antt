-- The command line.
use Rattle.std.specs.Prelude.{◌≡◌, ◌⊎◌, ◌≤◌, ℕ, List, [], ◌∷◌, Some, None, is_some, pos, true, false, codes}
use Rattle.std.specs.Str.Parse.{IsNumeral, digits_value, without_leading_plus}
use Rattle.clap.specs.Words.{App, IsPlainArg, IsSignedIn, Row, Rule, Text, first_value, found_of, one_of, one_text}
use Rattle.clap.specs.Words.{new_app, new_rule, rule_of, with_rule, without_minus}
use Rattle.clap.specs.Built.{TakesValue}
use Rattle.clap.specs.Facts.{WantsDefault, least_values}
use Rattle.clap.specs.declared.builder.action.ArgAction.TheVariants.{Set, SetTrue}
use Rattle.clap.specs.declared.builder.arg.Arg.{Arg}
use Rattle.clap.specs.declared.builder.value_parser.ValueParser.{ValueParser}
use Rattle.clap.specs.declared.builder.value_parser.ValueParser.TheVariants as vp
use Rattle.clap.specs.declared.parser.matches.ArgMatches.{ArgMatches}

-- a required positional argument
abbrev pub required_word : Text → Rule
required_word name = record (new_rule name) { required = true; action = Some Set }

-- 32-bit numbers
abbrev pub number_parser : ValueParser
number_parser = vp.Signed (pos 0) (pos 4294967295)

-- `--NAME N`, with a default
abbrev pub number_option : Text → Text → Rule
number_option name initial = record (new_rule name) {
  long = Some name;
  action = Some Set;
  value_names = 1;
  defaults = initial ∷ [];
  parser = Some number_parser;
}

-- `--NAME`
abbrev pub flag_option : Text → Rule
flag_option name = record (new_rule name) { long = Some name; action = Some SetTrue; parser = Some vp.Bool }

-- the same command with a version, which `--version` prints
abbrev pub with_version : App → App
with_version app = record { top = record app.top { has_version = true }; subs = app.subs }

-- the path of the image that is read, the path of the image that is written, and the options
abbrev pub command_line : App
command_line =
    with_rule (with_rule (with_rule (with_rule (with_rule (with_rule (with_version (new_app (codes "sqzcompact")))
    (required_word (codes "IN"))) (required_word (codes "OUT")))
    (number_option (codes "workers") (codes "4"))) (number_option (codes "region-words") (codes "65536")))
    (flag_option (codes "census"))) (flag_option (codes "clear-weak"))

-- the option has this number: its text is the number in decimal digits, perhaps after a plus sign
abbrev pub ReadsNumber : List Row → Text → ℕ → Type 0
ReadsNumber rows name number = (text : Text) × (one_of name rows ≡ Some text)
    × IsNumeral 10 (without_leading_plus text) × (digits_value 10 (without_leading_plus text) ≡ number)

-- the argument is a required word, and excludes no other
pub record IsRequired (name : Text) (a : Arg) : Type 0 where
  pub id : a.id.now ≡ name
  pub rule : rule_of a ≡ required_word name
  pub simple : IsPlainArg a
  pub local : a.global ≡ false
  pub value : TakesValue a

-- the argument is an option with a number, and excludes no other
pub record IsNumber (name initial : Text) (a : Arg) : Type 0 where
  pub id : a.id.now ≡ name
  pub rule : rule_of a ≡ number_option name initial
  pub simple : IsPlainArg a
  pub local : a.global ≡ false
  pub default : WantsDefault a
  pub parser : a.value_parser ≡ Some number_parser
  pub action : a.action ≡ Some Set
  pub whole : a.val_delim ≡ None
  pub least : 1 ≤ least_values a

-- the argument is an option without a value, and excludes no other
pub record IsFlag (name : Text) (a : Arg) : Type 0 where
  pub id : a.id.now ≡ name
  pub rule : rule_of a ≡ flag_option name
  pub simple : IsPlainArg a
  pub local : a.global ≡ false
  pub parser : a.value_parser ≡ Some vp.Bool

-- the option's value is the text of a 32-bit number
abbrev pub HasNumber : ArgMatches → Text → Type 0
HasNumber m name = (text : Text) × (one_text (found_of m) name ≡ Some (without_minus text))
    × IsSignedIn (pos 0) (pos 4294967295) text

-- the option's value, if it has one, is `true` or `false`
abbrev pub IsFlagText : ArgMatches → Text → Type 0
IsFlagText m name = (text : Text) → one_text (found_of m) name ≡ Some text → (text ≡ codes "true") ⊎ (text ≡ codes "false")

-- if the words are accepted, both paths are among them, each option with a number has one, and
-- each option without a value is `true` or `false`
pub record GivesAll (m : ArgMatches) : Type 0 where
  pub input : is_some (first_value (found_of m) (codes "IN")) ≡ true
  pub output : is_some (first_value (found_of m) (codes "OUT")) ≡ true
  pub workers : HasNumber m (codes "workers")
  pub region_words : HasNumber m (codes "region-words")
  pub census : IsFlagText m (codes "census")
  pub clear_weak : IsFlagText m (codes "clear-weak")
