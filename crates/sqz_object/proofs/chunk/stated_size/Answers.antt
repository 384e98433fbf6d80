use Rattle.std.proofs.Common.{rules}
use Rattle.sqz_object.proofs.chunk.stated_size.Goals as goal

pub returns-in-Three : goal.returns-in-Three
returns-in-Three c = search rules
