-- The number of objects that were won, if each marked object was won once.
-- Serves `KeptLemmas`; `marked::Marked::of_closed` of `sqz_workers`.
use Rattle.std.proofs.Common.{◌≡◌, ℕ, Bool, true, false, zero, suc, ◌+◌, ◌≤◌, cond, List, [], ◌∷◌, length, take, refl}
use Rattle.std.proofs.Common.{sym, ap, subst, ◌∙◌, arith}
use Rattle.std.specs.Prelude.{count_by}
use Rattle.std.specs.List.{sum_by}
use Rattle.std.proofs.lemmas.List.{take_all, get_or_past}
use Rattle.std.proofs.lemmas.List.Sums.{sum_by-cons, sum_by_more, sum_by-le-sum_by}
use Rattle.std.proofs.lemmas.Option.{same_Some}
use Rattle.sqz_image.specs.Objects.{Memory}
use Rattle.sqz_trace.specs.declared.shades.Shade.{Shade}
use Rattle.sqz_trace.specs.declared.shades.Shade.TheVariants.{White, Grey, Black}
use Rattle.sqz_trace.specs.declared.weak.Weak.{Weak}
use Rattle.sqz_trace.specs.Graph.{is_marked}
use Rattle.sqz_trace.specs.Reachability.{graph_from, IsReachability}
use Rattle.sqz_trace.specs.Shades.{shade_at, has_mark, AreLawful}
use Rattle.sqz_trace.proofs.ShadeLemmas.{is_marked-shade}
use Rattle.sqz_regions.proofs.ListedLemmas.{upto, upto-same, upto-length}
use Rattle.sqz_marks.specs.declared.view.View.{View}
use Rattle.sqz_marks.specs.Core.{times}
use Rattle.sqz_marks.specs.Lawful.{wins}
use Rattle.sqz_marks.specs.Table.{AreClosed}

-- marked objects, counted by index and along the list
upto-wins : (shades : List Shade) (count : ℕ) → count ≤ length shades
    → upto (λ index. wins (shade_at shades index)) count ≡ sum_by wins (take count shades)
upto-wins shades zero le = refl
upto-wins shades (suc count) le =
    let next : count + 1 ≡ suc count = omega arith in
    let same : sum_by wins (take (count + 1) shades) ≡ sum_by wins (take (suc count) shades) =
    ap (λ n. sum_by wins (take n shades)) next in
    omega (arith, upto-wins shades count (omega arith), sum_by_more wins shades count White (omega arith), same)

pub wins-mark : (shade : Shade) → wins shade ≡ cond (has_mark shade) 1 0
wins-mark White = refl
wins-mark Grey = refl
wins-mark Black = refl

-- a list in which each marked object stands once, and no other, is as long as there are marked objects
pub length-won : (shades : List Shade) (list : List ℕ) → ((object : ℕ) → times object list ≡ wins (shade_at shades object))
    → length list ≡ count_by (λ shade. has_mark shade) shades
length-won shades list once =
    sym (upto-length (length shades) list (λ index le. once index ∙ ap wins (get_or_past shades index White le)))
    ∙ upto-same (λ index. times index list) (λ index. wins (shade_at shades index)) once (length shades)
    ∙ upto-wins shades (length shades) (omega arith)
    ∙ ap (sum_by wins) (take_all (length shades) shades (omega arith))
    ∙ both
  where
    both : sum_by wins shades ≡ count_by (λ shade. has_mark shade) shades
    both =
        omega (
          arith,
          sum_by-le-sum_by wins (λ shade. cond (has_mark shade) 1 0) shades (λ shade. omega (arith, wins-mark shade)),
          sum_by-le-sum_by (λ shade. cond (has_mark shade) 1 0) wins shades (λ shade. omega (arith, wins-mark shade)),
        )

-- where each marked object has a mark, there are as many marks at least
abbrev count_marked : List Shade → ℕ
count_marked shades = count_by (λ shade. has_mark shade) shades

abbrev count_marks : List Bool → ℕ
count_marks marks = count_by (λ mark. mark) marks

marked-cons : (shade : Shade) (shades : List Shade) → count_marked (shade ∷ shades) ≡ cond (has_mark shade) 1 0 + count_marked shades
marked-cons shade shades = sum_by-cons (λ s. cond (has_mark s) 1 0) shade shades

marks-cons : (mark : Bool) (marks : List Bool) → count_marks (mark ∷ marks) ≡ cond mark 1 0 + count_marks marks
marks-cons mark marks = sum_by-cons (λ m. cond m 1 0) mark marks

abbrev one_if : Bool → ℕ
one_if b = cond b 1 0

none_marked : (shade : Shade) → (has_mark shade ≡ true → false ≡ true) → one_if (has_mark shade) ≡ 0
none_marked White none = refl
none_marked Grey none = absurd (let no : false ≡ true = none refl in cc)
none_marked Black none = absurd (let no : false ≡ true = none refl in cc)

mark_kept : (shade : Shade) (mark : Bool) → (has_mark shade ≡ true → mark ≡ true) → one_if (has_mark shade) ≤ one_if mark
mark_kept White mark kept = omega arith
mark_kept Grey mark kept = subst (λ b. 1 ≤ one_if b) (sym (kept refl)) (omega arith)
mark_kept Black mark kept = subst (λ b. 1 ≤ one_if b) (sym (kept refl)) (omega arith)

marks-le : (shades : List Shade) (marks : List Bool)
    → ((index : ℕ) → has_mark (shade_at shades index) ≡ true → is_marked marks index ≡ true) → count_marked shades ≤ count_marks marks
marks-le [] marks kept = omega arith
marks-le (shade ∷ shades) [] kept =
    omega (arith, marked-cons shade shades, none_marked shade (kept 0), marks-le shades [] (λ index. kept (suc index)))
marks-le (shade ∷ shades) (mark ∷ marks) kept =
    omega (
      arith,
      marked-cons shade shades,
      marks-cons mark marks,
      mark_kept shade mark (kept 0),
      marks-le shades marks (λ index. kept (suc index)),
    )

-- no more objects were won than are reachable
pub length-won-le : (memory : Memory) (weak : Weak) (view : View) (shades : List Shade) (marks : List Bool)
    → AreClosed memory weak view shades
    → IsReachability memory weak marks → length view.won ≤ count_by (λ mark. mark) marks
length-won-le memory weak view shades marks closed reachable =
    let same : closed.lawful.start ≡ reachable.start = same_Some _ _ (sym closed.lawful.is_special ∙ reachable.is_special) in
    let lawful = subst (λ (start : ℕ). AreLawful (graph_from start memory weak) shades) same closed.lawful.lawful in
    omega (
      arith,
      length-won shades view.won closed.once,
      marks-le shades marks (λ index marked.
          reachable.reached.complete index (lawful.sound index (is_marked-shade shades index ∙ marked))),
    )
