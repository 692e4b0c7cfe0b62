use Rattle.std.proofs.Common.{◌∙◌, sym}
use Rattle.flat_flows.proofs.Growing.{grows_row, grows_one, grows_shut}
use Rattle.flat_flows.proofs.range.add_range.Goals as goal
use Rattle.flat_flows.proofs.range.add_range.Goals.{then-not-has+in_ok-add, else-not-has}

pub loop-i-preserved : goal.loop-i-preserved
loop-i-preserved c final rest =
    c.loop-i.invariant final (grows_row c.loop-i.into c.if-not-has.into final c.args.shut.now c.loop-i.i c.args.range.end c.loop-i-test.true (
    elim c.if-not-has.branch [
      | then-not-has+in_ok-add w ↦ rw w.into-is (grows_one c.loop-i.into w.add.new.self c.args.shut.now c.loop-i.i (sym c.has.ensures ∙ w.if-not-has.true) w.in_ok-add.ensures)
      | else-not-has w ↦ rw w.into-is (grows_shut c.loop-i.into c.args.shut.now c.loop-i.i (sym c.has.ensures ∙ w.if-not-has.false))
    ]) rest)
