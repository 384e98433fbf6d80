use Rattle.sqz_trace.specs.declared.weak.Weak.TheVariants.{Clear}
use Rattle.sqz_trace.proofs.CompactClassLemmas.{compact_class-targets, compact_class-circular}
use Rattle.sqz_trace.proofs.laws.class_by_compact_index.Goals as goal

pub returns-clause-cleared : goal.returns-clause-cleared
returns-clause-cleared c memory = compact_class-targets memory Clear

pub returns-clause-circular : goal.returns-clause-circular
returns-clause-circular c = compact_class-circular
