use Rattle.std.proofs.Common.{◌∙◌, ◌+◌, sym, map, arith}
use Rattle.std.proofs.lemmas.List.{take_rest}
use Rattle.invariant_miner.specs.Samples.{in_all_rows}
use Rattle.invariant_miner.proofs.ListedLemmas.{control_more, control_all, later_greater}
use Rattle.invariant_miner.proofs.candidates.add_controls.Goals as goal

pub add_pairs-requires : goal.add_pairs-requires
add_pairs-requires c = rw (take_rest c.args.control.now (c.loop-i.i + 1)) (later_greater c.args.control.now c.loop-i.i c.requires.rising)

pub loop-i-preserved : goal.loop-i-preserved
loop-i-preserved c = rw (c.in_ok-add_pairs.ensures, take_rest c.args.control.now (c.loop-i.i + 1)) (control_more (in_all_rows (map (λ v. v.items) c.args.rows.now)) c.args.control.now c.loop-i.i 0 c.loop-i.list.items c.loop-i-test.true ∙ c.loop-i.invariant)

pub returns : goal.returns
returns c = sym (control_all (in_all_rows (map (λ v. v.items) c.args.rows.now)) c.args.control.now c.loop-i.i c.loop-i.list.items (omega arith)) ∙ c.loop-i.invariant
