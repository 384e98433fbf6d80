-- What holds of the matches of words that the command line accepts.
-- Serves those who call `command`.
use Rattle.std.proofs.Common.{◌≡◌, ◌∙◌, Bool, true, false, List, [], ◌∷◌, Option, Some, None, is_some, refl, sym, ap, subst}
use Rattle.std.specs.Prelude.{IsSome, IsSomeAnd, find, option_map}
use Rattle.std.specs.List.{list_all}
use Rattle.std.proofs.lemmas.Option.{same_Some}
use Rattle.clap.specs.Simple.{argument_words, built, entered, label_of, names_of}
use Rattle.clap.specs.Walk.{answers_to, stop_after}
use Rattle.clap.specs.Words.{App, HasMatchesOf, IsParsedFrom, Shape, Text, app_of, has_subcommand, is_simple, subcommand_name_of}
use Rattle.clap.specs.Words.{subcommand_of, subcommand_rows_of}
use Rattle.clap.specs.declared.builder.command.Command.{Command}
use Rattle.clap.specs.declared.parser.matches.ArgMatches.{ArgMatches}
use Rattle.clap.specs.declared.parser.matches.ArgMatches.TheViews.{out-ArgMatches}
use Rattle.clap.proofs.OnLiterals.{clap_on_literals}
use Rattle.clap.proofs.SimpleLemmas.{plain_fields}
use Rattle.clap.proofs.WalkLemmas.{both}
use Rattle.sqz_look_args.specs.CommandLine.{look_line, name_of}
use Rattle.sqz_look_args.specs.Requests.{HasCommand}
use Rattle.sqz_look_args.proofs.RequestLemmas.{is_some-option_map, subcommand_name_of-rows}

-- the matches of the command line can be computed
pub look_line-is_simple : is_simple look_line ≡ true
unfolding clap_on_literals
look_line-is_simple = refl

-- each of its subcommands has a name
look_line-named : list_all (λ s. is_some (name_of s.name)) (built look_line).subs ≡ true
unfolding clap_on_literals
look_line-named = refl

-- what is found has what all have
find-all : {X : Type 0} (p q : X → Bool) (xs : List X) (x : X) → list_all q xs ≡ true → find p xs ≡ Some x → q x ≡ true
find-all p q [] x all found = cc
find-all p q (y ∷ ys) x all found = at (p y) refl (find-all p q ys x (both (q y) _ all).1)
  where
    at : (test : Bool) → p y ≡ test → (find p ys ≡ Some x → q x ≡ true) → q x ≡ true
    at true here later =
        let same : Some y ≡ Some x = rw here at found in subst (λ z. q z ≡ true) (same_Some _ _ same) (both (q y) _ all).0
    at false apart later = later (rw apart at found)

entered-all : (q : Text → Bool) (a : App) (stop : Option (Text × List Text)) (name : Text) → list_all (λ s. q s.name) a.subs ≡ true
    → option_map (λ p. p.0) (entered a stop) ≡ Some name → q name ≡ true
entered-all q a None name all is = cc
entered-all q a (Some p) name all is = at (find (λ s. answers_to p.0 (label_of s)) a.subs) refl
  where
    at : (o : Option Shape) → find (λ s. answers_to p.0 (label_of s)) a.subs ≡ o → q name ≡ true
    at None none = let bad : None ≡ Some name = rw none at is in cc
    at (Some s) some =
        let same : Some s.name ≡ Some name = rw some at is in
        subst (λ (text : Text). q text ≡ true) (same_Some _ _ same)
        (find-all (λ s. answers_to p.0 (label_of s)) (λ s. q s.name) a.subs s all some)

-- so has the subcommand that words name
subcommand_of-all : (q : Text → Bool) (a : App) (words : List Text) (name : Text) → list_all (λ s. q s.name) (built a).subs ≡ true
    → option_map (λ p. p.0) (subcommand_of a words) ≡ Some name → q name ≡ true
subcommand_of-all q a words =
    entered-all q (built a) (stop_after (built a).top.rules (names_of (built a)) (argument_words a words))

module _ (command : Command) (words : List Text) (m : ArgMatches) (shape : app_of command ≡ look_line)
    (parsed : IsParsedFrom command m) (has : HasMatchesOf (app_of command) words m) where
  pub subcommand_rows_of-line : subcommand_rows_of m ≡ subcommand_of look_line words
  subcommand_rows_of-line = (subst (λ (a : App). HasMatchesOf a words m) shape has look_line-is_simple).1

  line-has_subcommand : has_subcommand m ≡ true
  line-has_subcommand =
      let local = (plain_fields command (ap (λ (a : App). a.top.is_plain) shape)).globals in
      (parsed.parsed (parsed.from.globals ∙ local)).checked.subcommand
      (parsed.from.needs_subcommand ∙ ap (λ (a : App). a.top.subcommand_required) shape)

  -- the matches of accepted words have a subcommand of the command line
  pub HasCommand-line : HasCommand m
  HasCommand-line = at (subcommand_name_of m) refl
    where
      at : (o : Option Text) → subcommand_name_of m ≡ o → IsSomeAnd o (λ word. IsSome (name_of word))
      at None none =
          let bad : false ≡ true = ap is_some (sym none) ∙ (is_some-option_map _ (out-ArgMatches m).subcommand ∙ line-has_subcommand) in cc
      at (Some name) some =
          subcommand_of-all (λ word. is_some (name_of word)) look_line words name look_line-named
          (ap (option_map (λ p. p.0)) (sym subcommand_rows_of-line) ∙ (sym (subcommand_name_of-rows m) ∙ some))
