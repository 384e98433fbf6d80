-- Facts about the words that objects are asked for by.
-- Serves `answer_about_each`, `answer_about_objects` and `the_object`.
use Rattle.std.proofs.Common.{◌≡◌, ◌∙◌, ◌+◌, ◌<◌, ◌≤◌, ◌++◌, ℕ, List, [], ◌∷◌, All, length, map, take, get_or, sym, ap, subst, inl, arith}
use Rattle.std.proofs.Common.{Bool, Option, Result, Ok, Err, IfOk}
use Rattle.std.specs.Prelude.{Contains, IfErr}
use Rattle.std.proofs.lemmas.List.{get_or-map, length-map, map-append, take_all, take_more}
use Rattle.std.proofs.lemmas.List.Elements.{All-push}
use Rattle.sqz_look_files.specs.declared.failure.Failure.{Failure}
use Rattle.sqz_look_files.specs.declared.failure.Failure.TheVariants.{OutOfMemory, NotPrinted, NotRead, NotReadAt, NotThere}
use Rattle.sqz_trace.specs.declared.weak.Weak.{Weak}
use Rattle.sqz_alike.specs.Seen.{Seen}
use Rattle.sqz_look_cli.specs.Comparison.{IfNotThere, ReadsNone, ReadsSeen}
use Rattle.sqz_look_cli.specs.Objects.{EndsObjects, HasAbsent, StandsFor}

-- one more of the first items
pub All-map-more : {X Y : Type 0} (P : Y → Type 0) (f : X → Y) (xs : List X) (i : ℕ) (d : X) → i < length xs
    → All P (map f (take i xs)) → P (f (get_or xs i d)) → All P (map f (take (i + 1) xs))
All-map-more {X} {Y} P f xs i d inside all is =
    let more : map f (take (i + 1) xs) ≡ map f (take i xs) ++ f (get_or xs i d) ∷ [] =
    ap (map f) (take_more xs i d inside) ∙ map-append f (take i xs) (get_or xs i d ∷ []) in
    subst (All P) (sym more) (All-push P (map f (take i xs)) (f (get_or xs i d)) all is)

-- all items
pub All-map-all : {X Y : Type 0} (P : Y → Type 0) (f : X → Y) (xs : List X) (i : ℕ) → length xs ≤ i
    → All P (map f (take i xs)) → All P (map f xs)
All-map-all {X} {Y} P f xs i end all = subst (λ (l : List X). All P (map f l)) (take_all i xs end) all

-- one of the items
pub Contains-at : {X Y : Type 0} (f : X → Y) (xs : List X) (i : ℕ) (d : X) → i < length xs → Contains (map f xs) (f (get_or xs i d))
Contains-at f xs i d inside =
    let long = length-map xs f in (i, omega (arith, inside, long), get_or-map f xs i d (f (get_or xs i d)) inside)

-- what is true is so if something is not there
pub IfNotThere-any : (P : Type 0) (failure : Failure) → P → IfNotThere failure P
IfNotThere-any P OutOfMemory holds = tt
IfNotThere-any P NotPrinted holds = tt
IfNotThere-any P (NotRead why) holds = tt
IfNotThere-any P (NotReadAt path why) holds = tt
IfNotThere-any P (NotThere message) holds = holds

-- nothing is missing if nothing can be
pub IfNotThere-never : (P : Type 0) (failure : Failure) → IfNotThere failure ⊥ → IfNotThere failure P
IfNotThere-never P OutOfMemory never = tt
IfNotThere-never P NotPrinted never = tt
IfNotThere-never P (NotRead why) never = tt
IfNotThere-never P (NotReadAt path why) never = tt
IfNotThere-never P (NotThere message) never = absurd never

-- an answer about each of the words
pub EndsObjects-each : {F : Type 0} (left : F → Option (List ℕ)) (weak : Weak) (past : Bool) (seen : Seen) (words : List (List ℕ))
    → ReadsSeen left weak past seen → (outcome : Result ℕ Failure)
    → IfOk outcome (λ exit. exit ≡ 0 → All (StandsFor seen) words) → IfOk outcome (λ exit. exit ≡ 1 → HasAbsent seen words)
    → IfErr outcome (λ failure. IfNotThere failure ⊥) → EndsObjects left weak past words outcome
EndsObjects-each left weak past seen words read (Ok exit) there absent failed =
    record {
      there = λ zero. record { seen = seen; read = read; there = there zero };
      absent = λ one. inl (record { seen = seen; read = read; absent = absent one });
    }
EndsObjects-each left weak past seen words read (Err failure) there absent failed =
    IfNotThere-never (ReadsNone left weak past) failure failed
