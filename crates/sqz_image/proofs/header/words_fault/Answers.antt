use Rattle.std.proofs.Common.{rules}
use Rattle.sqz_image.proofs.header.words_fault.Goals as goal

pub returns : goal.returns
returns c = search rules

pub returns-then-data_size-ne0 : goal.returns-then-data_size-ne0
returns-then-data_size-ne0 c = search rules
