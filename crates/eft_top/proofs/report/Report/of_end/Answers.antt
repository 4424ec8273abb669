-- A failed read is told as that.
use Rattle.std.proofs.Common.{rules}
use Rattle.eft_top.proofs.report.Report.of_end.Goals as goal

pub returns-in-InputFault-clause-status : goal.returns-in-InputFault-clause-status
returns-in-InputFault-clause-status c = search rules
