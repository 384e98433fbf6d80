-- Each event leaves a lawful state lawful. The rule of the mark table and the law of legal runs
-- both follow from these lemmas.
-- Serves `RunLemmas` and `StepLemmas`.
use Rattle.std.proofs.Common.{◌≡◌, ◌≢◌, ◌⊎◌, ℕ, ◌+◌, ◌<◌, ◌≤◌, true, List, [], ◌∷◌, ◌++◌, length, set, get_or, refl}
use Rattle.std.proofs.Common.{sym, ap, subst, ◌∙◌, if◌then◌else◌, eq-eqb, ne_eqb, arith, inl, inr}
use Rattle.std.proofs.lemmas.Bool.{cases_eq, cases_lt}
use Rattle.std.proofs.lemmas.List.{length-set, get_or-set_same, get_or-set_other, get_or_append_left, get_or_push}
use Rattle.std.proofs.lemmas.List.{get_or_past, length_push}
use Rattle.std.proofs.lemmas.List.Sums.{sum_by-set, sum_by_push, sum_by-cons, sum_by-append, get_or-le-sum_by}
use Rattle.std.specs.List.{sum_by}
use Rattle.sqz_trace.specs.declared.shades.Shade.{Shade}
use Rattle.sqz_trace.specs.declared.shades.Shade.TheVariants.{White, Grey, Black}
use Rattle.sqz_trace.specs.Graph.{is_marked}
use Rattle.sqz_trace.specs.Shades.{shade_at, has_mark, marks_of, AreLawful}
use Rattle.sqz_trace.proofs.ReachabilityLemmas.{IsReachable-next}
use Rattle.sqz_trace.proofs.ShadeLemmas.{grey-black, marked-by, marked-same, is_marked-shade}
use Rattle.sqz_trace.proofs.LawLemmas.{AreLawful-set}
use Rattle.sqz_marks.specs.declared.view.View.{View}
use Rattle.sqz_marks.specs.Core.{Marking, State, HasWon, HasSeen, HasBlackened, times, spent, pass_at, looked, claimed}
use Rattle.sqz_marks.specs.Core.{greyed, grown}
use Rattle.sqz_marks.specs.Core.{seen_by, won_by, counted, blackened, kept_of, part_of, joined}
use Rattle.sqz_marks.specs.Core.{Look, Claim, Count, Blacken, Split, Join, after}
use Rattle.sqz_marks.specs.Lawful.{KnowsTruth, AreCounted, IsLawful, wins, words_at, words_listed, total_counted}
use Rattle.sqz_marks.proofs.TimesLemmas.{times-same, times-other, times-more, times-append}
use Rattle.sqz_marks.proofs.ViewLemmas.{AreDarker, AreDarker-same, weight-seen, KnowsTruth-darker, KnowsTruth-spent}
use Rattle.sqz_marks.proofs.ViewLemmas.{KnowsTruth-part}
use Rattle.sqz_marks.proofs.ViewLemmas.{KnowsTruth-seen, KnowsTruth-won, KnowsTruth-counted, KnowsTruth-blackened}
use Rattle.sqz_marks.proofs.ViewLemmas.{KnowsTruth-kept, KnowsTruth-joined}

-- shades after one object got another shade
module _ (shades : List Shade) (object : ℕ) (shade : Shade) (inside : object < length shades) where
  shade-same : shade_at (set shades object shade) object ≡ shade
  shade-same = get_or-set_same shades object shade White inside

  shade-other : (other : ℕ) → other ≢ object → shade_at (set shades object shade) other ≡ shade_at shades other
  shade-other other differs = get_or-set_other shades object other shade White differs

  -- they are darker where the shade is
  AreDarker-set : has_mark shade ≡ true → (shade_at shades object ≡ Black → shade ≡ Black)
      → AreDarker shades (set shades object shade)
  AreDarker-set marked black =
      record {
        marked = λ other was. elim (cases_eq other object) [
          | inl same ↦ marked-by (set shades object shade) other shade (ap (shade_at (set shades object shade)) same ∙ shade-same) marked
          | inr differs ↦ marked-same shades (set shades object shade) other (shade-other other differs) was
        ];
        black = λ other was. elim (cases_eq other object) [
          | inl same ↦ ap (shade_at (set shades object shade)) same ∙ shade-same ∙ black (sym (ap (shade_at shades) same) ∙ was)
          | inr differs ↦ shade-other other differs ∙ was
        ];
      }

module _ (marking : Marking) (state : State) (pass : ℕ) (inside : pass < length state.passes) (lawful : IsLawful marking state) where
  abbrev pub passes : List View
  passes = state.passes

  abbrev pub view : View
  view = pass_at state.passes pass

  -- the state with these shades and regions' numbers, where the pass knows this
  abbrev pub changed : List Shade → List ℕ → View → State
  changed shades sums now = record { shades = shades; sums = sums; passes = set passes pass now }

  its : KnowsTruth state.shades view
  its = lawful.truth pass

  -- one pass knows of other words counted in a region
  total-changed : (now : View) (region : ℕ)
      → total_counted marking (set passes pass now) region + words_listed marking region view.counted
      ≡ total_counted marking passes region + words_listed marking region now.counted
  total-changed now region = sum_by-set (λ v. words_listed marking region v.counted) passes pass now spent inside

  -- or of the same
  AreCounted-same : (shades : List Shade) (now : View) → now.counted ≡ view.counted
      → AreCounted marking (changed shades state.sums now)
  AreCounted-same shades now same =
      record {
        sized = lawful.sums.sized;
        each = λ region lt.
            let words : words_listed marking region now.counted ≡ words_listed marking region view.counted =
            ap (words_listed marking region) same in
            omega (arith, lawful.sums.each region lt, total-changed now region, words);
      }

  -- one pass learned something, and objects got darker
  pub IsLawful-changed : (shades : List Shade) (sums : List ℕ) (now : View)
      → AreLawful marking.graph shades → AreDarker state.shades shades → KnowsTruth shades now → now.weight ≡ view.weight
      → ((object : ℕ)
      → times object now.won + wins (shade_at state.shades object) ≡ times object view.won + wins (shade_at shades object))
      → ((object : ℕ) → times object view.blackened ≤ times object now.blackened)
      → ((object : ℕ) → shade_at shades object ≡ Black → (shade_at state.shades object ≡ Black) ⊎ HasBlackened now object)
      → AreCounted marking (changed shades sums now)
      → IsLawful marking (changed shades sums now)
  IsLawful-changed shades sums now law darker truth weight won grows black are_sums =
      record {
        shades = law;
        won = λ object.
            let was = lawful.won object in let change = won object in
            let total = sum_by-set (λ v. times object v.won) passes pass now spent inside in omega (arith, was, change, total);
        black = λ object is.
            let total = sum_by-set (λ v. times object v.blackened) passes pass now spent inside in
            let part = get_or-le-sum_by (λ v. times object v.blackened) passes pass spent inside in
            elim (black object is) [
              | inl was ↦ omega (arith, lawful.black object was, grows object, total, part)
              | inr known ↦ omega (arith, known, total, part)
            ];
        truth = λ other. elim (cases_eq other pass) [
          | inl same ↦ subst (KnowsTruth shades)
              (sym (ap (pass_at (set passes pass now)) same ∙ get_or-set_same passes pass now spent inside)) truth
          | inr differs ↦ subst (KnowsTruth shades) (sym (get_or-set_other passes pass other now spent differs))
              (KnowsTruth-darker state.shades shades (pass_at passes other) darker (lawful.truth other))
        ];
        sums = are_sums;
        weights =
            let total = sum_by-set (λ v. v.weight) passes pass now spent inside in omega (arith, lawful.weights, total, weight);
      }

  -- a look at an object
  pub IsLawful-look : (object : ℕ) → 1 ≤ view.weight → IsLawful marking (after marking state pass (Look object))
  IsLawful-look object weight = by_shade (shade_at state.shades object) refl
    where
      same : (object : ℕ) (shade : Shade) → shade_at state.shades object ≡ shade → has_mark shade ≡ true
          → is_marked (marks_of state.shades) object ≡ true
      same object shade is marked = marked-by state.shades object shade is marked

      known : (now : View) → KnowsTruth state.shades now → now.weight ≡ view.weight → now.won ≡ view.won → now.counted ≡ view.counted
          → ((object : ℕ) → times object view.blackened ≤ times object now.blackened)
          → IsLawful marking (changed state.shades state.sums now)
      known now truth weight won counted grows =
          IsLawful-changed state.shades state.sums now lawful.shades (AreDarker-same state.shades) truth weight
          (λ other. ap (λ list. times other list + wins (shade_at state.shades other)) won) grows (λ other black. inl black)
          (AreCounted-same state.shades now counted)

      by_shade : (shade : Shade) → shade_at state.shades object ≡ shade
          → IsLawful marking (changed state.shades state.sums (looked object shade view))
      by_shade White is = known view its refl refl refl (λ other. omega arith)
      by_shade Grey is =
          known (seen_by object view) (KnowsTruth-seen state.shades view its object weight (same object Grey is refl)) refl refl refl
          (λ other. omega arith)
      by_shade Black is =
          known (looked object Black view)
          (KnowsTruth-blackened state.shades (seen_by object view)
          (KnowsTruth-seen state.shades view its object weight (same object Black is refl)) object weight is)
          refl refl refl (λ other. times-more other object view.blackened)

  -- a claim of an object
  pub IsLawful-claim : (parent object : ℕ) → HasSeen view parent → object < marking.graph.count → marking.graph.Edge parent object
      → IsLawful marking (after marking state pass (Claim parent object))
  IsLawful-claim parent object seen lt edge = by_shade (shade_at state.shades object) refl
    where
      old : List Shade
      old = state.shades

      within : object < length old
      within = subst (λ n. object < n) (sym lawful.shades.sized) lt

      weight : 1 ≤ view.weight
      weight = weight-seen old view parent its seen

      is_grey : (shade : Shade) → has_mark (greyed shade) ≡ true
      is_grey White = refl
      is_grey Grey = refl
      is_grey Black = refl

      was_black : (shade : Shade) → greyed shade ≡ Black → shade ≡ Black
      was_black White e = absurd (grey-black e)
      was_black Grey e = absurd (grey-black e)
      was_black Black e = refl

      -- the shades where the object's shade is greyed
      new : Shade → List Shade
      new shade = set old object (greyed shade)

      there : (shade : Shade) → shade_at (new shade) object ≡ greyed shade
      there shade = shade-same old object (greyed shade) within

      elsewhere : (shade : Shade) (other : ℕ) → other ≢ object → shade_at (new shade) other ≡ shade_at old other
      elsewhere shade other differs = shade-other old object (greyed shade) within other differs

      law : (shade : Shade) → shade_at old object ≡ shade → AreLawful marking.graph (new shade)
      law shade is =
          AreLawful-set marking.graph object (greyed shade) old lawful.shades within (is_grey shade)
          (IsReachable-next marking.graph parent object (lawful.shades.sound parent (its.seen parent seen)) edge)
          (λ black to edge. lawful.shades.along object to (is ∙ was_black shade black) edge)

      darker : (shade : Shade) → shade_at old object ≡ shade → AreDarker old (new shade)
      darker shade is =
          AreDarker-set old object (greyed shade) within (is_grey shade)
          (λ black. subst (λ (s : Shade). greyed s ≡ Black) (sym black ∙ is) refl)

      marked : (shade : Shade) → shade_at old object ≡ shade → is_marked (marks_of (new shade)) object ≡ true
      marked shade is = marked-by (new shade) object (greyed shade) (there shade) (is_grey shade)

      stays_black : (shade : Shade) → shade_at old object ≡ shade → (other : ℕ) → shade_at (new shade) other ≡ Black
          → shade_at old other ≡ Black
      stays_black shade is other now =
          elim (cases_eq other object) [
            | inl same ↦
                (let black : greyed shade ≡ Black = sym (there shade) ∙ sym (ap (shade_at (new shade)) same) ∙ now in
                ap (shade_at old) same ∙ is ∙ was_black shade black)
            | inr differs ↦ sym (elsewhere shade other differs) ∙ now
          ]

      found : (shade : Shade) → shade_at old object ≡ shade → greyed shade ≡ shade
          → IsLawful marking (changed (new shade) state.sums (seen_by object view))
      found shade is stays =
          IsLawful-changed (new shade) state.sums (seen_by object view) (law shade is) (darker shade is)
          (KnowsTruth-seen (new shade) view (KnowsTruth-darker old (new shade) view (darker shade is) its) object weight
          (marked shade is))
          refl
          (λ other. ap (λ s. times other view.won + wins s) (sym (elim (cases_eq other object) [
            | inl same ↦ ap (shade_at (new shade)) same ∙ there shade ∙ stays ∙ sym is ∙ sym (ap (shade_at old) same)
            | inr differs ↦ elsewhere shade other differs
          ])))
          (λ other. omega arith)
          (λ other is_black. inl (stays_black shade is other is_black))
          (AreCounted-same (new shade) (seen_by object view) refl)

      -- the shades where the object was white and became grey
      now_grey : List Shade
      now_grey = set old object Grey

      won_here : shade_at old object ≡ White
          → times object (object ∷ view.won) + wins (shade_at old object) ≡ times object view.won + wins (shade_at now_grey object)
      won_here is =
          let was : wins (shade_at old object) ≡ 0 = ap wins is in
          let now : wins (shade_at now_grey object) ≡ 1 = ap wins (there White) in
          omega (arith, was, now, times-same object view.won)

      by_shade : (shade : Shade) → shade_at old object ≡ shade
          → IsLawful marking (changed (new shade) state.sums (claimed object shade view))
      by_shade White is =
          IsLawful-changed now_grey state.sums (won_by object view) (law White is) (darker White is)
          (KnowsTruth-won now_grey view (KnowsTruth-darker old now_grey view (darker White is) its) object weight
          (marked White is))
          refl
          (λ other. elim (cases_eq other object) [
            | inl same ↦
                subst
                (λ (o : ℕ).
                times o (object ∷ view.won) + wins (shade_at old o) ≡ times o view.won + wins (shade_at now_grey o))
                (sym same) (won_here is)
            | inr differs ↦
                (let same : wins (shade_at now_grey other) ≡ wins (shade_at old other) = ap wins (elsewhere White other differs) in
                omega (arith, same, times-other other object view.won differs))
          ])
          (λ other. omega arith)
          (λ other is_black. inl (stays_black White is other is_black))
          (AreCounted-same now_grey (won_by object view) refl)
      by_shade Grey is = found Grey is refl
      by_shade Black is = found Black is refl

  -- an object that the pass won is counted
  pub IsLawful-count : (object : ℕ) → HasWon view object → times object view.counted ≡ 0
      → IsLawful marking (after marking state pass (Count object))
  IsLawful-count object won new =
      IsLawful-changed state.shades sums (counted object view) lawful.shades (AreDarker-same state.shades)
      (KnowsTruth-counted state.shades view its object won new (weight-seen state.shades view object its (its.won object won)))
      refl (λ other. refl) (λ other. omega arith) (λ other black. inl black)
      record {
        sized = length-set state.sums at more_there ∙ lawful.sums.sized;
        each = λ region lt. elim (cases_eq region at) [
          | inl same ↦
              subst (λ (r : ℕ). get_or sums r 0 ≡ total_counted marking (set passes pass (counted object view)) r) (sym same)
              (here (subst (λ (r : ℕ). r < marking.regions) same lt))
          | inr differs ↦
              (let none = words_at-other region differs in
              let other = get_or-set_other state.sums at region more_there 0 differs in
              omega (arith, lawful.sums.each region lt, total-changed (counted object view) region, more region, none, other))
        ];
      }
    where
      at : ℕ
      at = marking.region object

      sums : List ℕ
      sums = grown state.sums at (marking.words object)

      -- the new number of its region
      more_there : ℕ
      more_there = get_or state.sums at 0 + marking.words object

      more : (region : ℕ) → words_listed marking region (object ∷ view.counted)
          ≡ words_at marking region object + words_listed marking region view.counted
      more region = sum_by-cons (words_at marking region) object view.counted

      words_at-same : words_at marking at object ≡ marking.words object
      words_at-same = ap (λ b. if b then marking.words object else 0) (eq-eqb at at refl)

      words_at-other : (region : ℕ) → region ≢ at → words_at marking region object ≡ 0
      words_at-other region differs = ap (λ b. if b then marking.words object else 0) (ne_eqb at region (λ same. differs (sym same)))

      here : at < marking.regions → get_or sums at 0 ≡ total_counted marking (set passes pass (counted object view)) at
      here lt =
          let set = get_or-set_same state.sums at more_there 0 (omega (arith, lt, lawful.sums.sized)) in
          omega (arith, set, lawful.sums.each at lt, total-changed (counted object view) at, more at, words_at-same)

  -- an object becomes black
  pub IsLawful-blacken : (object : ℕ) → HasSeen view object → object < marking.graph.count
      → ((target : ℕ) → marking.graph.Edge object target → HasSeen view target)
      → IsLawful marking (after marking state pass (Blacken object))
  IsLawful-blacken object seen lt targets =
      IsLawful-changed new state.sums (blackened object view)
      (AreLawful-set marking.graph object Black old lawful.shades within refl (lawful.shades.sound object marked)
      (λ e to edge. its.seen to (targets to edge)))
      darker
      (KnowsTruth-blackened new view (KnowsTruth-darker old new view darker its) object (weight-seen old view object its seen) there)
      refl
      (λ other. ap (λ n. times other view.won + n) (same_wins other))
      (λ other. times-more other object view.blackened)
      (λ other black. elim (cases_eq other object) [
        | inl same ↦ inr (subst (λ (o : ℕ). 0 < times o (object ∷ view.blackened)) (sym same) known_here)
        | inr differs ↦ inl (sym (elsewhere other differs) ∙ black)
      ])
      (AreCounted-same new (blackened object view) refl)
    where
      old : List Shade
      old = state.shades

      new : List Shade
      new = set old object Black

      within : object < length old
      within = subst (λ n. object < n) (sym lawful.shades.sized) lt

      there : shade_at new object ≡ Black
      there = shade-same old object Black within

      elsewhere : (other : ℕ) → other ≢ object → shade_at new other ≡ shade_at old other
      elsewhere = shade-other old object Black within

      marked : is_marked (marks_of old) object ≡ true
      marked = its.seen object seen

      darker : AreDarker old new
      darker = AreDarker-set old object Black within refl (λ black. refl)

      won_once : (shade : Shade) → has_mark shade ≡ true → wins shade ≡ 1
      won_once White e = absurd cc
      won_once Grey e = refl
      won_once Black e = refl

      same_wins : (other : ℕ) → wins (shade_at old other) ≡ wins (shade_at new other)
      same_wins other =
          elim (cases_eq other object) [
            | inl same ↦
                subst (λ (o : ℕ). wins (shade_at old o) ≡ wins (shade_at new o)) (sym same)
                (won_once (shade_at old object) (sym (is_marked-shade old object) ∙ marked) ∙ sym (ap wins there))
            | inr differs ↦ ap wins (sym (elsewhere other differs))
          ]

      known_here : 0 < times object (object ∷ view.blackened)
      known_here = omega (arith, times-same object view.blackened)

  -- a pass gives a part of its weight to a new one
  pub IsLawful-split : (weight : ℕ) → 1 ≤ weight → weight < view.weight → IsLawful marking (after marking state pass (Split weight))
  IsLawful-split weight some below =
      record {
        shades = lawful.shades;
        won = λ object.
            let push = sum_by_push (λ v. times object v.won) rest (part_of weight) in
            let total = sum_by-set (λ v. times object v.won) passes pass (kept_of weight view) spent inside in
            omega (arith, push, total, lawful.won object);
        black = λ object is.
            let push = sum_by_push (λ v. times object v.blackened) rest (part_of weight) in
            let total = sum_by-set (λ v. times object v.blackened) passes pass (kept_of weight view) spent inside in
            omega (arith, push, total, lawful.black object is);
        truth = λ other. elim (cases_lt other (length rest)) [
          | inl lt ↦ knows other (get_or_append_left rest (part_of weight ∷ []) spent other lt) (of_rest other)
          | inr ge ↦ elim (cases_eq other (length rest)) [
            | inl same ↦
                knows other (get_or_push rest (part_of weight) spent other (sym same)) (KnowsTruth-part state.shades weight some)
            | inr differs ↦
                knows other (get_or_past (rest ++ part_of weight ∷ []) other spent (past other ge differs))
                (KnowsTruth-spent state.shades)
          ]
        ];
        sums =
            record {
              sized = lawful.sums.sized;
              each = λ region lt.
                  let push = sum_by_push (λ v. words_listed marking region v.counted) rest (part_of weight) in
                  omega (arith, push, total-changed (kept_of weight view) region, lawful.sums.each region lt);
            };
        weights =
            let push = sum_by_push (λ v. v.weight) rest (part_of weight) in
            let total = sum_by-set (λ v. v.weight) passes pass (kept_of weight view) spent inside in
            omega (arith, push, total, lawful.weights, below);
      } where
        rest : List View
        rest = set passes pass (kept_of weight view)

        knows : (other : ℕ) {now : View} → pass_at (rest ++ part_of weight ∷ []) other ≡ now → KnowsTruth state.shades now
            → KnowsTruth state.shades (pass_at (rest ++ part_of weight ∷ []) other)
        knows other is truth = subst (KnowsTruth state.shades) (sym is) truth

        past : (other : ℕ) → length rest ≤ other → other ≢ length rest → length (rest ++ part_of weight ∷ []) ≤ other
        past other ge differs = cases_past (cases_lt (length rest) other)
          where
            cases_past : (length rest < other) ⊎ (other ≤ length rest) → length (rest ++ part_of weight ∷ []) ≤ other
            cases_past (inl lt) = omega (arith, length_push rest (part_of weight), lt)
            cases_past (inr le) = absurd (differs (omega arith))

        of_rest : (other : ℕ) → KnowsTruth state.shades (pass_at rest other)
        of_rest other =
            elim (cases_eq other pass) [
              | inl same ↦ subst (KnowsTruth state.shades)
                  (sym (ap (pass_at rest) same ∙ get_or-set_same passes pass (kept_of weight view) spent inside))
                  (KnowsTruth-kept state.shades view its weight below)
              | inr differs ↦
                  subst (KnowsTruth state.shades)
                  (sym (get_or-set_other passes pass other (kept_of weight view) spent differs)) (lawful.truth other)
            ]

  -- a pass takes in another
  pub IsLawful-join : (other : ℕ) → other ≢ pass → other < length passes → 1 ≤ (pass_at passes other).weight
      → IsLawful marking (after marking state pass (Join other))
  IsLawful-join other differs lt weight =
      record {
        shades = lawful.shades;
        won = λ object. of_total (λ v. times object v.won) refl (times-append object view.won theirs.won) ∙ lawful.won object;
        black = λ object is.
            let both = times-append object view.blackened theirs.blackened in
            subst (λ n. 0 < n) (sym (of_total (λ v. times object v.blackened) refl both)) (lawful.black object is);
        truth = λ third. elim (cases_eq third other) [
          | inl same ↦
              subst (KnowsTruth state.shades)
              (sym (ap (pass_at (set one other spent)) same ∙ get_or-set_same one other spent spent in_one))
              (KnowsTruth-spent state.shades)
          | inr third_differs ↦
              subst (KnowsTruth state.shades) (sym (get_or-set_other one other third spent spent third_differs)) (of_one third)
        ];
        sums =
            record {
              sized = lawful.sums.sized;
              each = λ region lt.
                  lawful.sums.each region lt
                  ∙ sym (of_total (λ v. words_listed marking region v.counted) refl
                  (sum_by-append (words_at marking region) view.counted theirs.counted));
            };
        weights = of_total (λ v. v.weight) refl refl ∙ lawful.weights;
      } where
        theirs : View
        theirs = pass_at passes other

        one : List View
        one = set passes pass (joined view theirs)

        in_one : other < length one
        in_one = omega (arith, lt, length-set passes pass (joined view theirs))

        of_total : (f : View → ℕ) → f spent ≡ 0 → f (joined view theirs) ≡ f view + f theirs
            → sum_by f (set one other spent) ≡ sum_by f passes
        of_total f none both =
            let first = sum_by-set f passes pass (joined view theirs) spent inside in
            let second = sum_by-set f one other spent spent in_one in
            let same : f (get_or one other spent) ≡ f theirs =
            ap f (get_or-set_other passes pass other (joined view theirs) spent differs) in
            omega (arith, first, second, same, none, both)

        of_one : (third : ℕ) → KnowsTruth state.shades (pass_at one third)
        of_one third =
            elim (cases_eq third pass) [
              | inl same ↦ subst (KnowsTruth state.shades)
                  (sym (ap (pass_at one) same ∙ get_or-set_same passes pass (joined view theirs) spent inside))
                  (KnowsTruth-joined state.shades view its theirs (lawful.truth other) weight)
              | inr differs ↦
                  subst (KnowsTruth state.shades)
                  (sym (get_or-set_other passes pass third (joined view theirs) spent differs)) (lawful.truth third)
            ]
