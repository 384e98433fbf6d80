-- The command line.
use Rattle.std.specs.Prelude.{◌≡◌, ◌++◌, ℕ, List, [], ◌∷◌, Some, true, false, bytes_eq, codes, find, fold, map, Option, option_map}
use Rattle.clap.specs.Lexer.{usize_max}
use Rattle.clap.specs.Simple.{new_shape}
use Rattle.clap.specs.Words.{App, Rule, Shape, Text, new_rule, rule_of, shape_of, with_subcommand}
use Rattle.clap.specs.declared.builder.action.ArgAction.TheVariants.{Set, SetTrue}
use Rattle.clap.specs.declared.builder.arg.Arg.{Arg}
use Rattle.clap.specs.declared.builder.command.Command.{Command}
use Rattle.clap.specs.declared.builder.command.Command.TheViews.{out-Command as fields_of}
use Rattle.clap.specs.declared.builder.value_parser.ValueParser.TheVariants as vp
use Rattle.sqz_look_args.specs.declared.subcommands.Name.{Name}
use Rattle.sqz_look_args.specs.declared.subcommands.Name.TheVariants.{Check, Mend, Info, Census, Digest, List as ListName, Show, Why, Refs, Top, Diff}
use Rattle.sqz_look_args.specs.declared.subcommands.Name.TheVariants.{Code, Senders, Implementors, Stacks, Find, Dump, Explore}
use Rattle.sqz_look_args.specs.declared.subcommands.Subcommand.{Subcommand}
use Rattle.sqz_look_args.specs.declared.arguments.Argument.{Argument}
use Rattle.sqz_look_args.specs.declared.arguments.Argument.TheVariants.{Image, Images, Old, New, Object, Root, Class, AllFaults, All}
use Rattle.sqz_look_args.specs.declared.arguments.Argument.TheVariants.{ClassOrMethod, Selector, Pattern, Nil, Strict}
use Rattle.sqz_look_args.specs.declared.arguments.Argument.TheVariants.{Classes, Unsent, Unimplemented}
use Rattle.sqz_look_args.specs.declared.arguments.Argument.TheVariants.{Dead, Retained, DeadInstances, By, GroupBy, Raw, Depth, Min, MinBytes, Folded}

-- a required word
abbrev pub required_word : Text → Rule
required_word name = record (new_rule name) { required = true; action = Some Set }

-- one word or more
abbrev pub required_words : Text → Rule
required_words name =
    record (required_word name) { range = Some (record { start_inclusive = 1; end_inclusive = usize_max }) }

-- no word, or one or more
abbrev pub optional_words : Text → Rule
optional_words name = record (required_words name) { required = false }

-- `--NAME`
abbrev pub flag_option : Text → Rule
flag_option name = record (new_rule name) { long = Some name; action = Some SetTrue; parser = Some vp.Bool }

-- `--NAME`, which may not stand beside some other options
abbrev pub exclusive_flag : Text → Rule
exclusive_flag name = record (flag_option name) { is_free = false }

-- `--NAME VALUE`
abbrev pub value_option : Text → Rule
value_option name = record (new_rule name) { long = Some name; action = Some Set; value_names = 1 }

-- `--NAME N`, with a number from 0 to a greatest one
abbrev pub number_option : Text → ℕ → Rule
number_option name most = record (value_option name) { parser = Some (vp.Unsigned 0 most) }

-- the arguments of subcommands
abbrev pub argument_rule : Argument → Rule
argument_rule Image = required_word (codes "IMAGE")
argument_rule Images = required_words (codes "IMAGE")
argument_rule Old = required_word (codes "OLD")
argument_rule New = required_word (codes "NEW")
argument_rule Object = required_words (codes "OBJECT")
argument_rule Root = optional_words (codes "OBJECT")
argument_rule Class = required_words (codes "CLASS")
argument_rule ClassOrMethod = optional_words (codes "CODE")
argument_rule Selector = required_word (codes "SELECTOR")
argument_rule Pattern = required_word (codes "REGEX")
argument_rule Nil = flag_option (codes "nil")
argument_rule Strict = flag_option (codes "strict")
argument_rule Classes = exclusive_flag (codes "classes")
argument_rule Unsent = exclusive_flag (codes "unsent")
argument_rule Unimplemented = exclusive_flag (codes "unimplemented")
argument_rule AllFaults = flag_option (codes "all")
argument_rule All = flag_option (codes "all")
argument_rule Dead = flag_option (codes "dead")
argument_rule Retained = exclusive_flag (codes "retained")
argument_rule DeadInstances = flag_option (codes "dead")
argument_rule By = value_option (codes "by")
argument_rule GroupBy = value_option (codes "by")
argument_rule Raw = flag_option (codes "raw")
argument_rule Depth = number_option (codes "depth") 100
argument_rule Min = value_option (codes "min")
argument_rule MinBytes = number_option (codes "min") 4294967295
argument_rule Folded = exclusive_flag (codes "folded")

-- a subcommand: its name, the word that stands for it, and its own arguments
pub record Listed : Type 0 where
  pub name : Name
  pub word : Text
  pub arguments : List Argument

abbrev pub listed : Name → Text → List Argument → Listed
listed name word arguments = record { name = name; word = word; arguments = arguments }

-- the subcommands, in the order of the help
abbrev pub subcommands : List Listed
subcommands =
    listed Check (codes "check") (Images ∷ AllFaults ∷ Strict ∷ [])
    ∷ listed Mend (codes "mend") (Image ∷ Nil ∷ [])
    ∷ listed Info (codes "info") (Images ∷ [])
    ∷ listed Census (codes "census") (Images ∷ Dead ∷ Retained ∷ GroupBy ∷ All ∷ [])
    ∷ listed Digest (codes "digest") (Images ∷ [])
    ∷ listed ListName (codes "list") (Image ∷ Class ∷ By ∷ DeadInstances ∷ All ∷ [])
    ∷ listed Show (codes "show") (Image ∷ Object ∷ All ∷ [])
    ∷ listed Why (codes "why") (Image ∷ Object ∷ Raw ∷ All ∷ [])
    ∷ listed Refs (codes "refs") (Image ∷ Object ∷ All ∷ [])
    ∷ listed Top (codes "top") (Image ∷ Root ∷ Depth ∷ Min ∷ Folded ∷ [])
    ∷ listed Diff (codes "diff") (Old ∷ New ∷ All ∷ [])
    ∷ listed Code (codes "code") (Image ∷ ClassOrMethod ∷ Classes ∷ Unsent ∷ Unimplemented ∷ All ∷ [])
    ∷ listed Senders (codes "senders") (Image ∷ Selector ∷ All ∷ [])
    ∷ listed Implementors (codes "implementors") (Image ∷ Selector ∷ All ∷ [])
    ∷ listed Stacks (codes "stacks") (Image ∷ All ∷ [])
    ∷ listed Find (codes "find") (Image ∷ Pattern ∷ All ∷ [])
    ∷ listed Dump (codes "dump") (Image ∷ [])
    ∷ listed Explore (codes "explore") (Image ∷ MinBytes ∷ [])
    ∷ []

-- the subcommand that a word stands for
abbrev pub name_of : Text → Option Name
name_of word = option_map (λ s. s.name) (find (λ s. bytes_eq s.word word) subcommands)

-- a subcommand has its own arguments, `--clear-weak`, `--human`, `--json` and `--past-damage`
abbrev pub shape_of_listed : Listed → Shape
shape_of_listed s = record (new_shape s.word) {
  rules = map argument_rule s.arguments ++ flag_option (codes "clear-weak") ∷ flag_option (codes "human")
      ∷ flag_option (codes "json") ∷ flag_option (codes "past-damage") ∷ [];
}

-- the program without its subcommands: it requires one of them, has no subcommand `help`, prints
-- its help if there is no word, and has a version, which each subcommand prints too
abbrev pub bare_line : App
bare_line = record {
  top = record (new_shape (codes "sqzlook")) {
    has_version = true;
    subcommand_required = true;
    arg_required_else_help = true;
    propagate_version = true;
    disable_help_subcommand = true;
  };
  subs = [];
}

-- the program with its subcommands
abbrev pub look_line : App
look_line = fold with_subcommand bare_line (map shape_of_listed subcommands)

-- a subcommand of the code is this one
abbrev pub listed_of : Subcommand → Listed
listed_of s = listed s.name s.word.now s.arguments.now

-- the argument has this rule, and subcommands do not have it too
pub record HasRule (wanted : Rule) (argument : Arg) : Type 0 where
  pub rule : rule_of argument ≡ wanted
  pub local : argument.global ≡ false

-- the command has this shape, and no argument that subcommands have too
pub record HasShape (wanted : Shape) (command : Command) : Type 0 where
  pub shape : shape_of command ≡ wanted
  pub local : (fields_of command).has_globals ≡ false
