use Rattle.map_report.proofs.Reporting.{one_digit}
use Rattle.map_report.proofs.digits.push_hex.Goals as goal

pub loop-at-preserved : goal.loop-at-preserved
loop-at-preserved c = one_digit c.loop-at.text.items c.push.new.self.items _ c.args.count c.loop-at.at c.args.value c.digit_of.result
    c.loop-at-test.true c.digit_of.ensures c.in_ok-push.ensures.items c.loop-at.invariant
