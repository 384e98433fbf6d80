use Rattle.std.proofs.Common.{codes}
use Rattle.clap.specs.Words.{found_of}
use Rattle.sqz_look_args.proofs.RequestLemmas.{first_value-read}
use Rattle.sqz_look_args.proofs.questions.min_of.Goals as goal

pub unwrap-requires : goal.unwrap-requires
unwrap-requires c =
    first_value-read (found_of c.args.matches.now) (codes "min") c.get_str.result c.get_str.ensures
    (λ none. let bad = c.in-Err.ensures.none none in cc)
