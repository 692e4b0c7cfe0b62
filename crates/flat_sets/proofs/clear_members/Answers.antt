use Rattle.std.proofs.Common.{◌∙◌, sym, ap, take, arith, ◌-◌}
use Rattle.std.specs.Prelude.{slice_index_or, false}
use Rattle.flat_sets.specs.Sets.{cleared}
use Rattle.flat_sets.proofs.SetLemmas.{one_back, outside}
use Rattle.flat_sets.proofs.clear_members.Goals as goal

pub loop-i-preserved-then-number-len : goal.loop-i-preserved-then-number-len
loop-i-preserved-then-number-len c = sym (one_back c.args.members.now c.loop-i.i c.loop-i.table.items (omega arith) (omega arith)) ∙ c.loop-i.invariant

pub loop-i-preserved : goal.loop-i-preserved
loop-i-preserved c =
    ap (λ t. cleared (take (c.loop-i.i - 1) c.args.members.now) t) (sym (outside c.loop-i.table.items (slice_index_or c.args.members.now (c.loop-i.i - 1) 0) false (omega arith)))
    ∙ sym (one_back c.args.members.now c.loop-i.i c.loop-i.table.items (omega arith) (omega arith)) ∙ c.loop-i.invariant
