use Rattle.cert_text.specs.declared.fault.CertCode.TheVariants as code
use Rattle.cert_text.specs.declared.lines.TheConstants.{MOST_BYTES}
use Rattle.cert_text.proofs.CheckLemmas.{accepts_iff, fault_iff, large_iff}
use Rattle.cert_text.proofs.check.check_cert.Goals as goal

pub returns-clause-accepts : goal.returns-clause-accepts
returns-clause-accepts c = accepts_iff c.args.circuit c.args.bytes.now MOST_BYTES c.read_text.result c.if-bytes-gt-MOST_BYTES.false c.read_text.ensures

pub returns-clause-cert_large : goal.returns-clause-cert_large
returns-clause-cert_large c = large_iff c.args.circuit c.args.bytes.now MOST_BYTES c.read_text.result c.if-bytes-gt-MOST_BYTES.false c.read_text.ensures

pub returns-clause-cert_line : goal.returns-clause-cert_line
returns-clause-cert_line c = fault_iff c.args.circuit c.args.bytes.now MOST_BYTES c.read_text.result code.CertLine c.if-bytes-gt-MOST_BYTES.false c.read_text.ensures

pub returns-clause-bad_step : goal.returns-clause-bad_step
returns-clause-bad_step c = fault_iff c.args.circuit c.args.bytes.now MOST_BYTES c.read_text.result code.BadStep c.if-bytes-gt-MOST_BYTES.false c.read_text.ensures

pub returns-clause-cert_short : goal.returns-clause-cert_short
returns-clause-cert_short c = fault_iff c.args.circuit c.args.bytes.now MOST_BYTES c.read_text.result code.CertShort c.if-bytes-gt-MOST_BYTES.false c.read_text.ensures
