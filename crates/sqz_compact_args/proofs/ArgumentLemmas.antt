-- What a parse gives for an argument with a parser, in a command whose arguments exclude no
-- others.
-- Serves `CommandLineLemmas`.
use Rattle.std.proofs.Common.{◌≡◌, ◌∙◌, ◌++◌, ◌||◌, ◌<◌, ◌≤◌, ℕ, zero, suc, Bool, true, false, List, [], ◌∷◌}
use Rattle.std.proofs.Common.{length, Option, Some, None, is_some, refl, sym, ap, subst, inl, inr, arith}
use Rattle.std.specs.Prelude.{find, map, option_map, slice_get, unwrap_or}
use Rattle.std.specs.List.{All, Any, slice_index_or}
use Rattle.std.specs.Str.{bytes_eq}
use Rattle.std.specs.Borrow.{Bor}
use Rattle.std.proofs.lemmas.List.{append-nil, append_assoc, get_or-map, length-map}
use Rattle.std.proofs.lemmas.List.Elements.{All-get_or, All-nil}
use Rattle.std.proofs.lemmas.Option.{same_Some}
use Rattle.std.proofs.lemmas.Slice.Eq.{bytes_eq-Decides}
use Rattle.clap.specs.Words.{Accepts, AddsArg, AddsInTurn, IsParsed, IsParsedFrom, IsPlain, IsPlainArg, SameRules}
use Rattle.clap.specs.Words.{Text, args_of, found_of, groups_of, has_subcommand, matched_of, one_text, parser_of}
use Rattle.clap.specs.Words.{read_as, reading_of}
use Rattle.clap.specs.Built.{FitsChain, HasDistinctIds, IsAuto, KeepsList}
use Rattle.clap.specs.Facts.{Entry, EntryPasses, HasIn, HasReading, MayBeEmpty, PassesArg, WantsDefault, least_values, parser_of_value}
use Rattle.clap.specs.declared.builder.action.ArgAction.TheVariants.{Count, Set}
use Rattle.clap.specs.declared.builder.arg.Arg.{Arg}
use Rattle.clap.specs.declared.builder.command.Command.{Command}
use Rattle.clap.specs.declared.builder.command.Command.TheViews.{out-Command}
use Rattle.clap.specs.declared.builder.value_parser.ValueParser.{ValueParser}
use Rattle.clap.specs.declared.builder.value_parser.Reading.{Reading}
use Rattle.clap.specs.declared.parser.matches.ArgMatches.{ArgMatches}
use Rattle.clap.specs.declared.parser.matches.MatchedArg.{MatchedArg}
use Rattle.clap.proofs.CallerLemmas.{added_plain, default_present, entry_by_id, same_rules_by_id}

-- an id that some entry has is found
found_in : (entries : List Entry) (id : Text) → HasIn entries id
    → is_some (option_map (λ e. e.1) (find (λ e. bytes_eq e.0.now id) entries)) ≡ true
found_in [] id (i, within, is) = absurd (omega arith)
found_in (e ∷ entries) id (i, within, is) = at i (bytes_eq e.0.now id) refl within is (found_in entries id)
  where
    at : (i : ℕ) (test : Bool) → bytes_eq e.0.now id ≡ test → i < length (e ∷ entries)
        → ((d : Entry) → bytes_eq (slice_index_or (e ∷ entries) i d).0.now id ≡ true)
        → (HasIn entries id → is_some (option_map (λ e. e.1) (find (λ e. bytes_eq e.0.now id) entries)) ≡ true)
        → is_some (option_map (λ e. e.1) (find (λ e. bytes_eq e.0.now id) (e ∷ entries))) ≡ true
    at i true same within is behind = rw same refl
    at zero false same within is behind = let there = is e in cc
    at (suc i) false same within is behind = rw same (behind (i, omega arith, is))

module _ (old : Command) (m : ArgMatches) (p : IsParsedFrom old m) (plain : IsPlain old) (local : (out-Command old).has_globals ≡ false)
    (k : ℕ) (d : Arg) (inside : k < length (args_of old))
    (unique : (j : ℕ) (e : Arg) → j < length (args_of old)
    → bytes_eq (slice_index_or (args_of old) j e).id.now (slice_index_or (args_of old) k d).id.now ≡ true → j ≡ k)
    (named : (slice_index_or (args_of old) k d).id.now ≡ [] → ⊥) (own : IsAuto (slice_index_or (args_of old) k d) → ⊥) where
  abbrev argument : Arg
  argument = slice_index_or (args_of old) k d

  parsed : IsParsed p.built (found_of m) (has_subcommand m)
  parsed = p.parsed (p.from.globals ∙ local)

  -- what holds of the entry of its id
  entry_of : (x : MatchedArg) → matched_of (found_of m) argument.id.now ≡ Some x
      → (e : Entry) × (e.1 ≡ x) × (e.0.now ≡ argument.id.now) × EntryPasses p.built e
  entry_of x is =
      let (e, is_value, same, passes) =
      entry_by_id (EntryPasses p.built) (found_of m).entries.items argument.id.now x parsed.values is in
      (e, is_value, (bytes_eq-Decides e.0.now argument.id.now).0 same, passes)

  -- an argument of the command as it was built that has this id and this property has its rules
  same_rules : (Holds : Arg → Type 0) (id : Text) → id ≡ argument.id.now
      → Any (λ a. (bytes_eq a.id.now id ≡ true) × Holds a) (args_of p.built)
      → (its : Arg) × SameRules argument its × Holds its
  same_rules Holds id key (j, its, within, there, (same, holds)) =
      let same_id = subst (λ (i : Text). bytes_eq its.id.now i ≡ true) key same in
      (its, same_rules_by_id old m p k d inside unique own j its within there same_id, holds)

  -- it is no group's
  no_group : (e : Entry) → e.0.now ≡ argument.id.now → EntryPasses p.built e → e.1.is_group ≡ true → ⊥
  no_group e key pass group = elim (pass.3 group) [
    | inl empty ↦ named (sym key ∙ empty)
    | inr some ↦ let bad : 0 < 0 = rw (p.from.plain plain).1 at some in absurd (omega arith)
  ]

  module _ (q : ValueParser) (parser : argument.value_parser ≡ Some q) where
    abbrev IsRead : Text → Type 0
    IsRead text = (given : Text) × (text ≡ read_as (reading_of q) given) × Accepts argument.ignore_case q given

    -- a value passes its parser
    passes : (value : Text) → PassesArg p.built argument.id.now value → Accepts argument.ignore_case q value
    passes value pass =
        let (its, same, accepts) = same_rules (λ a. Accepts a.ignore_case (parser_of a) value) argument.id.now refl pass in
        let is_q : parser_of its ≡ q = ap parser_of_value (same.parser q parser) in
        subst (λ (b : Bool). Accepts b q value) same.ignore_case
        (subst (λ (w : ValueParser). Accepts its.ignore_case w value) is_q accepts)

    -- and is read as that says
    reads : (r : Reading) → HasReading p.built argument.id.now r → r ≡ reading_of q
    reads r any =
        let (its, same, reading) = same_rules (λ a. reading_of (parser_of a) ≡ r) argument.id.now refl any in
        sym reading ∙ ap reading_of (ap parser_of_value (same.parser q parser))

    of_entry : (text : Text) (x : MatchedArg) (e : Entry) → e.1 ≡ x → e.0.now ≡ argument.id.now → EntryPasses p.built e
        → (values : List (Bor Text)) → x.vals.items ≡ values
        → option_map (λ s. read_as x.reading s.now) (slice_get values 0) ≡ Some text → IsRead text
    of_entry text x e same key pass [] are read = cc
    of_entry text x e same key pass (v ∷ values) are read =
        let all : All (λ v. PassesArg p.built argument.id.now v.now) (v ∷ values) = elim pass.0 [
          | inl group ↦ absurd (no_group e key pass group)
          | inr each ↦
              let those = subst (λ (id : Text). All (λ v. PassesArg p.built id v.now) e.1.vals.items) key each in
              subst (All (λ v. PassesArg p.built argument.id.now v.now)) (ap (λ (y : MatchedArg). y.vals.items) same ∙ are) those
        ] in
        let how : x.reading ≡ reading_of q = elim pass.4 [
          | inl group ↦ absurd (no_group e key pass group)
          | inr has ↦ ap (λ (y : MatchedArg). y.reading) (sym same)
              ∙ reads e.1.reading (subst (λ (id : Text). HasReading p.built id e.1.reading) key has)
        ] in (
          v.now,
          sym (same_Some _ _ read) ∙ ap (λ (h : Reading). read_as h v.now) how,
          passes v.now (All-get_or (λ v. PassesArg p.built argument.id.now v.now) (v ∷ values) 0 v (omega arith) all),
        )

    -- each text that is read of it passed its parser, and is read as that says
    text_read : (text : Text) → one_text (found_of m) argument.id.now ≡ Some text → IsRead text
    text_read text is = at (matched_of (found_of m) argument.id.now) refl
      where
        at : (o : Option MatchedArg) → matched_of (found_of m) argument.id.now ≡ o → IsRead text
        at None none = let bad : None ≡ Some text = rw none at is in cc
        at (Some x) some =
            let got = entry_of x some in
            of_entry text x got.0 got.1 got.2 got.3 x.vals.items refl (rw some at is)

  -- an option with a value has one in its entry
  entry_filled : argument.action ≡ Some Set → argument.val_delim ≡ None → 1 ≤ least_values argument
      → (e : Entry) → e.0.now ≡ argument.id.now → EntryPasses p.built e → 0 < length e.1.vals.items
  entry_filled action whole least e key pass = elim pass.1 [
    | inl group ↦ absurd (no_group e key pass group.0)
    | inr (inl some) ↦ some
    | inr (inr (inl (some, counts))) ↦
        let (its, same, is_count) = same_rules (λ a. unwrap_or a.action Set ≡ Count) e.0.now key counts in
        let bad : Set ≡ Count = rw (same.action Set action) at is_count in
        cc
    | inr (inr (inr any)) ↦
        let (its, same, may_be_empty) = same_rules MayBeEmpty e.0.now key any in
        elim may_be_empty [
          | inl none ↦ let some = same.least action least in absurd (omega arith)
          | inr splits ↦ let bad : false ≡ true = rw (same.val_delim, whole) at splits in cc
        ]
  ]

  -- so an option with a default has a text
  default_text : WantsDefault argument → argument.action ≡ Some Set → argument.val_delim ≡ None → 1 ≤ least_values argument
      → (text : Text) × (one_text (found_of m) argument.id.now ≡ Some text)
  default_text wants action whole least =
      at (matched_of (found_of m) argument.id.now) refl
      (found_in (found_of m).entries.items argument.id.now (default_present old m p local k d inside wants))
    where
      first : (x : MatchedArg) → matched_of (found_of m) argument.id.now ≡ Some x → (values : List (Bor Text)) → x.vals.items ≡ values
          → 0 < length values → (text : Text) × (one_text (found_of m) argument.id.now ≡ Some text)
      first x some [] are long = absurd (omega arith)
      first x some (v ∷ values) are long = (read_as x.reading v.now, rw (some, are) refl)

      at : (o : Option MatchedArg) → matched_of (found_of m) argument.id.now ≡ o → is_some (matched_of (found_of m) argument.id.now) ≡ true
          → (text : Text) × (one_text (found_of m) argument.id.now ≡ Some text)
      at None none has = let bad : false ≡ true = rw none at has in cc
      at (Some x) some has =
          let got = entry_of x some in
          let long = entry_filled action whole least got.0 got.2 got.3 in
          first x some x.vals.items refl (subst (λ (y : MatchedArg). 0 < length y.vals.items) got.1 long)

-- what a chain of `.arg(..)` calls keeps: the arguments, place by place, in a command of the same kind
record IsChained (start cmd : Command) (xs : List Arg) : Type 0 where
  added : List Arg
  args : args_of cmd ≡ args_of start ++ added
  kept : KeepsList xs added
  plain : IsPlain cmd
  local : (out-Command cmd).has_globals ≡ false

kept_before : (x y : Arg) (xs ys : List Arg) → SameRules x y → KeepsList xs ys → KeepsList (x ∷ xs) (y ∷ ys)
kept_before x y xs ys rules kept = (ap suc kept.0, by)
  where
    by : (k : ℕ) (d e : Arg) → k < length (x ∷ xs) → SameRules (slice_index_or (x ∷ xs) k d) (slice_index_or (y ∷ ys) k e)
    by zero d e inside = rules
    by (suc k) d e inside = kept.1 k d e (omega arith)

chained : (start cmd : Command) (xs : List Arg) → AddsInTurn AddsArg start xs cmd → All FitsChain xs → IsPlain start
    → (out-Command start).has_globals ≡ false → IsChained start cmd xs
chained start cmd [] same fits plain local = record {
  added = [];
  args = rw same (sym (append-nil _));
  kept = (refl, λ k d e inside. absurd (omega arith));
  plain = rw (← same) plain;
  local = rw (← same) local;
}
chained start cmd (x ∷ xs) chain fits plain local =
    let more = chain.1 in
    let fit = fits 0 x (omega arith) in
    let next =
    chained chain.0 cmd xs chain.2 (λ k d inside. fits (suc k) d (omega arith)) (added_plain start chain.0 x more plain fit.0)
    (more.globals ∙ (ap (λ (b : Bool). b || x.global) local ∙ ap (λ (b : Bool). false || b) fit.1))
    in
    record {
      added = more.arg ∷ next.added;
      args = next.args ∙ (ap (λ (l : List Arg). l ++ next.added) more.args ∙ append_assoc (args_of start) (more.arg ∷ []) next.added);
      kept = kept_before x more.arg xs next.added more.rules next.kept;
      plain = next.plain;
      local = next.local;
    }

module _ (start cmd : Command) (xs : List Arg) (m : ArgMatches) (chain : AddsInTurn AddsArg start xs cmd) (none : args_of start ≡ [])
    (groups : groups_of start ≡ []) (local : (out-Command start).has_globals ≡ false) (fits : All FitsChain xs)
    (distinct : HasDistinctIds xs) (p : IsParsedFrom cmd m) (k : ℕ) (d : Arg) (inside : k < length xs)
    (q : ValueParser) (parser : (slice_index_or xs k d).value_parser ≡ Some q) where
  abbrev given_argument : Arg
  given_argument = slice_index_or xs k d

  chain_is : IsChained start cmd xs
  chain_is = chained start cmd xs chain fits (subst (All IsPlainArg) (sym none) (All-nil IsPlainArg), groups) local

  args_are : args_of cmd ≡ chain_is.added
  args_are = chain_is.args ∙ ap (λ (l : List Arg). l ++ chain_is.added) none

  rules_at : (j : ℕ) (e : Arg) → j < length xs → SameRules (slice_index_or xs j e) (slice_index_or (args_of cmd) j e)
  rules_at j e below =
      subst (λ (l : List Arg). SameRules (slice_index_or xs j e) (slice_index_or l j e)) (sym args_are) (chain_is.kept.1 j e e below)

  length_is : length (args_of cmd) ≡ length xs
  length_is = ap length args_are ∙ chain_is.kept.0

  same_id : (slice_index_or (args_of cmd) k d).id.now ≡ given_argument.id.now
  same_id = ap (λ x. x.now) (rules_at k d inside).id

  only : (j : ℕ) (e : Arg) → j < length (args_of cmd)
      → bytes_eq (slice_index_or (args_of cmd) j e).id.now (slice_index_or (args_of cmd) k d).id.now ≡ true → j ≡ k
  only j e below same =
      let there : j < length xs = omega (arith, length_is) in
      distinct j k d e there inside (rw (← ap (λ x. x.now) (rules_at j e there).id, ← same_id) same)

  -- each text that is read of the argument of a chain passed its parser
  pub read_in_chain : (text : Text) → one_text (found_of m) given_argument.id.now ≡ Some text
      → (given : Text) × (text ≡ read_as (reading_of q) given) × Accepts given_argument.ignore_case q given
  read_in_chain text is =
      let rules = rules_at k d inside in
      let fit = fits k d inside in
      let got =
      text_read cmd m p chain_is.plain chain_is.local k d (omega (arith, length_is)) only
      (λ empty. fit.2 (sym same_id ∙ empty)) (λ auto. fit.3 (elim auto [ inl h ↦ inl (sym same_id ∙ h) | inr h ↦ inr (sym same_id ∙ h) ]))
      q (rules.parser q parser) text (rw same_id is)
      in
      (got.0, got.1, subst (λ (b : Bool). Accepts b q got.0) rules.ignore_case got.2)

  -- and where it has a default there is one
  pub default_in_chain : WantsDefault given_argument → given_argument.action ≡ Some Set → given_argument.val_delim ≡ None
      → 1 ≤ least_values given_argument
      → (given : Text) × (one_text (found_of m) given_argument.id.now ≡ Some (read_as (reading_of q) given))
      × Accepts given_argument.ignore_case q given
  default_in_chain wants action whole least =
      let rules = rules_at k d inside in
      let fit = fits k d inside in
      let wants_there : WantsDefault (slice_index_or (args_of cmd) k d) = (rules.ifs ∙ wants.0, rw (rules.defaults wants.1) wants.1) in
      let text =
      default_text cmd m p chain_is.plain chain_is.local k d (omega (arith, length_is)) only
      (λ empty. fit.2 (sym same_id ∙ empty)) (λ auto. fit.3 (elim auto [ inl h ↦ inl (sym same_id ∙ h) | inr h ↦ inr (sym same_id ∙ h) ]))
      wants_there (rules.action Set action) (rules.val_delim ∙ whole) (rules.least action least)
      in
      let is : one_text (found_of m) given_argument.id.now ≡ Some text.0 =
      subst (λ (id : Text). one_text (found_of m) id ≡ Some text.0) same_id text.1
      in
      let read = read_in_chain text.0 is in
      (read.0, is ∙ ap (λ (t : Text). Some t) read.1, read.2)

-- no two of the names are one, so no two arguments with them are
pub distinct_by_names : (xs : List Arg) (names : List Text) → map (λ a. a.id.now) xs ≡ names
    → ((i j : ℕ) → i < length names → j < length names → slice_index_or names i [] ≡ slice_index_or names j [] → i ≡ j)
    → HasDistinctIds xs
distinct_by_names xs names are apart j k d e below within same =
    let long : length names ≡ length xs = ap length (sym are) ∙ length-map xs (λ (a : Arg). a.id.now) in
    let one : slice_index_or names j [] ≡ (slice_index_or xs j e).id.now =
    ap (λ (l : List Text). slice_index_or l j []) (sym are) ∙ get_or-map (λ (a : Arg). a.id.now) xs j e [] below
    in
    let other : slice_index_or names k [] ≡ (slice_index_or xs k d).id.now =
    ap (λ (l : List Text). slice_index_or l k []) (sym are) ∙ get_or-map (λ (a : Arg). a.id.now) xs k d [] within
    in
    let ids : (slice_index_or xs j e).id.now ≡ (slice_index_or xs k d).id.now = (bytes_eq-Decides _ _).0 same in
    apart j k (omega (arith, long)) (omega (arith, long)) (one ∙ ids ∙ sym other)
