use Rattle.map_report.proofs.Reporting.{one_report}
use Rattle.map_report.proofs.law.one_report.Goals as goal

pub returns : goal.returns
returns c = one_report
