use Rattle.std.proofs.Common.{◌≡◌, ◌++◌, ◌+◌, ◌∙◌, length, codes, rules, Some}
use Rattle.std.specs.Str.{bytes_eq}
use Rattle.sqz_histogram.specs.declared.names.ClassName.TheVariants.{Own, OfInstance}
use Rattle.sqz_histogram.specs.Names.{naming}
use Rattle.sqz_names.specs.ByteTexts.{whole_front}
use Rattle.sqz_names.proofs.TextLemmas.{whole_name-own, whole_name-instance}
use Rattle.sqz_names.proofs.class_names.is_class_named.Goals as goal

pub returns-in_ok-name-in-Some-Own : goal.returns-in_ok-name-in-Some-Own
returns-in_ok-name-in-Some-Own c =
    let memory = c.args.graph.heap.now in
    let text = c.args.text.now in
    let name = c.in-Some-Own.name in
    let same : c.eq.result ≡ bytes_eq (whole_front c.args.graph.heap.now (length c.args.text.now + 1) c.in-Some-Own.name) c.args.text.now =
    search rules in
    let named : naming c.args.graph.heap.now c.args.graph.weak c.args.class ≡ Some (Own c.in-Some-Own.name) = search rules in
    same ∙ whole_name-own memory c.args.graph.weak c.args.class name text named

pub returns-in_ok-push_str-in-Some-OfInstance : goal.returns-in_ok-push_str-in-Some-OfInstance
returns-in_ok-push_str-in-Some-OfInstance c =
    let memory = c.args.graph.heap.now in
    let text = c.args.text.now in
    let name = c.in-Some-OfInstance.name in
    let same : c.eq-in-Some-OfInstance.result
    ≡ bytes_eq (whole_front c.args.graph.heap.now (length c.args.text.now + 1) c.in-Some-OfInstance.name ++ codes " class") c.args.text.now =
    search rules in
    let named : naming c.args.graph.heap.now c.args.graph.weak c.args.class ≡ Some (OfInstance c.in-Some-OfInstance.name) = search rules in
    same ∙ whole_name-instance memory c.args.graph.weak c.args.class name text named
