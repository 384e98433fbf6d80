use Rattle.std.proofs.Common.{◌≡◌, ◌<◌, ◌∙◌, length, map, get_or, sym, ap, subst, rules, arith}
use Rattle.std.specs.Prelude.{Contains, string_bytes}
use Rattle.sqz_alike.specs.Seen.{seen}
use Rattle.sqz_look_cli.specs.Objects.{StandsFor}
use Rattle.sqz_look_cli.proofs.ObjectLemmas.{All-map-more, All-map-all, Contains-at}
use Rattle.sqz_look_cli.proofs.objects.answer_about_each.Goals as goal
use Rattle.sqz_look_cli.proofs.objects.answer_about_each.Goals.{in-Ok+in_ok-print_about-in-Ok, in-Err-NotThere}

pub loop-words-preserved : goal.loop-words-preserved
loop-words-preserved g c = record {
  exit = search rules;
  silent = search rules;
  absent = elim c.match-the_object.branch [
    | in-Ok+in_ok-print_about-in-Ok w ↦ (λ one. c.loop-words.invariant.absent (sym w.exit-is ∙ one))
    | in-Err-NotThere w ↦
        (λ one.
        let item = c.words-item.result in
        let inside : c.loop-words.words-index < length c.args.objects.now = omega (arith, c.loop-words-test.true) in
        let spelled : c.as_str.result.now ≡ string_bytes c.words-item.result = search rules in
        let at : c.words-item.result ≡ get_or c.args.objects.now c.loop-words.words-index c.words-item.result = search rules in
        record {
          word = c.as_str.result.now;
          is_one = subst (Contains (map string_bytes c.args.objects.now)) (sym (spelled ∙ ap string_bytes at))
              (Contains-at string_bytes c.args.objects.now c.loop-words.words-index item inside);
          is_absent = rw w.in-Err-NotThere.field-0-is at w.in-Err-NotThere.ensures.absent;
        })
  ];
  there = elim c.match-the_object.branch [
    | in-Ok+in_ok-print_about-in-Ok w ↦
        (λ zero.
        let now = seen c.args.inspector.now.live in
        let item = c.words-item.result in
        let inside : c.loop-words.words-index < length c.args.objects.now = omega (arith, c.loop-words-test.true) in
        let spelled : c.as_str.result.now ≡ string_bytes c.words-item.result = search rules in
        let at : c.words-item.result ≡ get_or c.args.objects.now c.loop-words.words-index c.words-item.result = search rules in
        All-map-more (StandsFor now) string_bytes c.args.objects.now c.loop-words.words-index item inside
        (c.loop-words.invariant.there (sym w.exit-is ∙ zero))
        (subst (StandsFor now) (spelled ∙ ap string_bytes at) ∣ (w.in-Ok.object, w.in-Ok.ensures.found) ∣₁))
    | in-Err-NotThere w ↦ (λ zero. let one : 1 ≡ 0 = sym w.exit-is ∙ zero in absurd (omega arith))
  ];
}

pub returns-clause-absent : goal.returns-clause-absent
returns-clause-absent g c one = c.loop-words.invariant.absent one

pub returns-clause-there : goal.returns-clause-there
returns-clause-there g c zero =
    All-map-all (StandsFor (seen c.args.inspector.now.live)) string_bytes c.args.objects.now c.loop-words.words-index
    c.loop-words-test.false (c.loop-words.invariant.there zero)
