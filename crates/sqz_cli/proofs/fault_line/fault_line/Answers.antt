use Rattle.sqz_cli.proofs.FaultLineLemmas.{decimal-number_of_fault}
use Rattle.sqz_cli.proofs.fault_line.fault_line.Goals as goal

pub returns : goal.returns
returns c =
    record {
      text = c.as_bytes.result.now;
      one_line = c.as_bytes.ensures.one_line;
      line_is = rw (decimal-number_of_fault c.args.fault.now) (rw c.number.ensures at c.line_of.ensures);
    }
