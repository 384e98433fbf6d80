use Rattle.std.proofs.Common.{rules}
use Rattle.sqz_cli.proofs.output_file.OutputFileSink.write.Goals as goal

pub returns : goal.returns
returns g c = search rules
