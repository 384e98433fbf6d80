use Rattle.std.proofs.Common.{rules}
use Rattle.sqz_cli.proofs.output_file.OutputFile.new.Goals as goal

pub invariant_of-result : goal.invariant_of-result
invariant_of-result g c = search rules
