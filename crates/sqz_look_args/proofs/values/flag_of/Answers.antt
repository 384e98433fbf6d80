use Rattle.std.proofs.Common.{◌≡◌, ◌∙◌, Bool, Option, Some, None, true, false, refl}
use Rattle.std.specs.Prelude.{unwrap_or}
use Rattle.std.specs.Option.{option_eq}
use mathlib.Core.Bool.{beq}
use Rattle.clap.specs.Words.{found_of}
use Rattle.sqz_look_args.proofs.RequestLemmas.{flag_given}
use Rattle.sqz_look_args.proofs.values.flag_of.Goals as goal

-- true was read exactly if what was read is true, and nothing counts as false
is_true-read : (read : Option Bool) → option_eq beq read (Some true) ≡ unwrap_or read false
is_true-read None = refl
is_true-read (Some true) = refl
is_true-read (Some false) = refl

pub returns : goal.returns
returns c =
    c.eq.ensures
    ∙ is_true-read c.get_one.result
    ∙ flag_given _ (found_of c.args.matches.now) c.args.id.now c.get_one.result c.get_one.ensures.none c.get_one.ensures.value
