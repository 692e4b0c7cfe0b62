use Rattle.map_report.proofs.Reporting.{with_addresses}
use Rattle.map_report.proofs.law.reports_begin_with_addresses.Goals as goal

pub returns : goal.returns
returns c = with_addresses
