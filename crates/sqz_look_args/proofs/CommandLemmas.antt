-- How arguments and subcommands are added to a command.
-- Serves the functions of `commands`.
use Rattle.std.proofs.Common.{◌≡◌, ◌∙◌, ◌++◌, ◌&&◌, ◌||◌, ◌<◌, ◌≤◌, ◌+◌, ℕ, Bool, true, false, not, List, [], ◌∷◌, length}
use Rattle.std.proofs.Common.{codes, get_or, take, refl, sym, ap, ap₂, subst}
use Rattle.std.specs.Prelude.{fold, map}
use Rattle.std.specs.Borrow.{Bor}
use Rattle.std.proofs.lemmas.List.{append_assoc, map-append, take_all, take_more}
use Rattle.std.proofs.lemmas.List.Sums.{fold-append}
use Rattle.clap.specs.Simple.{new_shape}
use Rattle.clap.specs.Walk.{is_empty, is_free_arg}
use Rattle.clap.specs.Words.{AddsArg, AddsConflicts, AddsSubcommand, App, Rule, Shape, Text, app_of, rule_of, with_subcommand}
use Rattle.clap.specs.declared.builder.arg.Arg.{Arg}
use Rattle.clap.specs.declared.builder.command.Command.{Command}
use Rattle.clap.proofs.SimpleLemmas.{not_empty}
use Rattle.sqz_look_args.specs.declared.arguments.Argument.{Argument}
use Rattle.sqz_look_args.specs.declared.subcommands.Subcommand.{Subcommand}
use Rattle.sqz_look_args.specs.CommandLine.{HasRule, HasShape, Listed, argument_rule, bare_line, flag_option, listed_of}
use Rattle.sqz_look_args.specs.CommandLine.{look_line, shape_of_listed, subcommands}

-- the shape with one more argument
abbrev pub with_argument : Shape → Rule → Shape
with_argument shape rule = record shape { rules = shape.rules ++ rule ∷ [] }

pub HasShape-arg : (old new : Command) (argument : Arg) (shape : Shape) (rule : Rule) → AddsArg old argument new
    → HasShape shape old → HasRule rule argument → HasShape (with_argument shape rule) new
HasShape-arg old new argument shape rule added is has = record {
  shape = ap (λ (app : App). app.top) (added.shape has.local) ∙ ap₂ with_argument is.shape has.rule;
  local = added.globals ∙ ap₂ (λ (a b : Bool). a || b) is.local has.local;
}

-- an argument that may not stand beside another one
pub HasRule-exclusive : (old new : Arg) (rule : Rule) (id : Bor Text) → AddsConflicts old new (id ∷ []) → HasRule rule old
    → HasRule (record rule { is_free = false }) new
HasRule-exclusive old new rule id added has =
    let free : is_free_arg (record old { conflicts = new.conflicts }) ≡ false =
    not_free (not old.exclusive) (is_empty new.conflicts.items) _ (ap is_empty added.1 ∙ not_empty old.conflicts.items id) in
    record {
      rule = ap rule_of added.0 ∙ ap₂ (λ (r : Rule) (b : Bool). record r { is_free = b }) has.rule free;
      local = ap (λ (a : Arg). a.global) added.0 ∙ has.local;
    }
  where
    not_free : (a b c : Bool) → b ≡ false → (a && (b && c)) ≡ false
    not_free true b c none = ap (λ (x : Bool). x && c) none
    not_free false b c none = refl

-- a list up to the next place
map-take_more : {X Y : Type 0} (f : X → Y) (xs : List X) (i : ℕ) (d : X) → i < length xs
    → map f (take (i + 1) xs) ≡ map f (take i xs) ++ f (get_or xs i d) ∷ []
map-take_more f xs i d inside = ap (map f) (take_more xs i d inside) ∙ map-append f (take i xs) (get_or xs i d ∷ [])

-- the first arguments of a subcommand, and no others
abbrev pub HasFirst : Listed → ℕ → Command → Type 0
HasFirst s i = HasShape (record (new_shape s.word) { rules = map argument_rule (take i s.arguments) })

pub HasFirst-more : (old new : Command) (argument : Arg) (s : Listed) (i : ℕ) (d : Argument) → i < length s.arguments
    → AddsArg old argument new → HasFirst s i old → HasRule (argument_rule (get_or s.arguments i d)) argument → HasFirst s (i + 1) new
HasFirst-more old new argument s i d inside added is has =
    subst (λ (rules : List Rule). HasShape (record (new_shape s.word) { rules = rules }) new)
    (sym (map-take_more argument_rule s.arguments i d inside)) (HasShape-arg old new argument _ _ added is has)

-- all of them, and then the options of each subcommand
pub HasShape-whole : (old one two three four : Command) (weak human json damage : Arg) (s : Listed) (i : ℕ)
    → length s.arguments ≤ i → HasFirst s i old
    → AddsArg old weak one → HasRule (flag_option (codes "clear-weak")) weak
    → AddsArg one human two → HasRule (flag_option (codes "human")) human
    → AddsArg two json three → HasRule (flag_option (codes "json")) json
    → AddsArg three damage four → HasRule (flag_option (codes "past-damage")) damage → HasShape (shape_of_listed s) four
HasShape-whole old one two three four weak human json damage s i all is added_weak has_weak added_human has_human added_json has_json added_damage has_damage =
    let own = map argument_rule s.arguments in
    let first = flag_option (codes "clear-weak") in
    let second = flag_option (codes "human") in
    let third = flag_option (codes "json") in
    let fourth = flag_option (codes "past-damage") in
    let start = subst (λ (xs : List Argument). HasShape (record (new_shape s.word) { rules = map argument_rule xs }) old)
    (take_all i s.arguments all) is in
    let same : (((own ++ first ∷ []) ++ second ∷ []) ++ third ∷ []) ++ fourth ∷ [] ≡ own ++ first ∷ second ∷ third ∷ fourth ∷ [] =
    append_assoc ((own ++ first ∷ []) ++ second ∷ []) (third ∷ []) (fourth ∷ [])
    ∙ append_assoc (own ++ first ∷ []) (second ∷ []) (third ∷ fourth ∷ [])
    ∙ append_assoc own (first ∷ []) (second ∷ third ∷ fourth ∷ [])
    in
    subst (λ (rules : List Rule). HasShape (record (new_shape s.word) { rules = rules }) four) same
    (HasShape-arg three four damage _ _ added_damage
    (HasShape-arg two three json _ _ added_json
    (HasShape-arg one two human _ _ added_human (HasShape-arg old one weak _ _ added_weak start has_weak) has_human) has_json) has_damage)

-- the program with the first of some subcommands
abbrev pub line_of_first : List Subcommand → ℕ → App
line_of_first xs i = fold with_subcommand bare_line (map shape_of_listed (map listed_of (take i xs)))

pub line_of_first-more : (old sub new : Command) (xs : List Subcommand) (i : ℕ) (d : Subcommand) → i < length xs
    → AddsSubcommand old sub new → app_of old ≡ line_of_first xs i → HasShape (shape_of_listed (listed_of (get_or xs i d))) sub
    → app_of new ≡ line_of_first xs (i + 1)
line_of_first-more old sub new xs i d inside added is has =
    let first = map listed_of (take i xs) in
    let next = listed_of (get_or xs i d) in
    added.shape has.local
    ∙ (ap₂ with_subcommand is has.shape
    ∙ sym (ap (λ (l : List Listed). fold with_subcommand bare_line (map shape_of_listed l)) (map-take_more listed_of xs i d inside)
    ∙ (ap (fold with_subcommand bare_line) (map-append shape_of_listed first (next ∷ []))
    ∙ fold-append with_subcommand bare_line (map shape_of_listed first) (shape_of_listed next ∷ []))))

-- with all of them it is the command line
pub line_of_first-whole : (xs : List Subcommand) (i : ℕ) → length xs ≤ i → map listed_of xs ≡ subcommands → line_of_first xs i ≡ look_line
line_of_first-whole xs i all are =
    ap (λ (l : List Subcommand). fold with_subcommand bare_line (map shape_of_listed (map listed_of l))) (take_all i xs all)
    ∙ ap (λ (l : List Listed). fold with_subcommand bare_line (map shape_of_listed l)) are
