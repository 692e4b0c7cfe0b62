use Rattle.std.proofs.Common.{◌∙◌, ◌||◌, sym, ap, map, drop, ◌+◌}
use Rattle.flat_design.specs.declared.expr.FlatNode.TheVariants as n
use Rattle.flat_design.specs.Bits.{net_at}
use Rattle.flat_design.specs.Reads.{read, reads, either_reads, select_bits, constant_in}
use Rattle.flat_flows.specs.Ranges.{in_range}
use Rattle.flat_flows.proofs.ReadNodes.{read_Constant, read_Net, read_Select, read_Unary, read_Binary, read_Choice, read_Join, read_Resize, rest_of}
use Rattle.flat_flows.proofs.Growing.{grows_none, grows_as, grows_both, on_ok, on_ok_after, or_assoc}
use Rattle.flat_flows.proofs.reading.+reads.Goals as goal

pub add_all_reads-loop-part-preserved : goal.add_all_reads-loop-part-preserved
add_all_reads-loop-part-preserved t c final rest =
    c.loop-part.invariant final (grows_as c.loop-part.into final c.args.shut.now _ _
    (λ i. sym (ap (λ l. either_reads (map (read c.args.nets.now) l) i) (rest_of c.args.parts.now c.loop-part.part-index c.part-item.result c.loop-part-test.true c.part-item.is)))
    (grows_both c.loop-part.into c.add_reads.new.into final c.args.shut.now (reads c.args.nets.now c.part-item.result) (either_reads (map (read c.args.nets.now) (drop (c.loop-part.part-index + 1) c.args.parts.now))) c.in_ok-add_reads.ensures rest))

pub add_reads-returns-in-Constant : goal.add_reads-returns-in-Constant
add_reads-returns-in-Constant t c =
    grows_as c.args.into.now c.args.into.now c.args.shut.now _ _ (λ i. sym (ap (λ r. r.1 i) (read_Constant c.args.nets.now c.args.e.now c.in-Constant.field-0 c.in-Constant.is))) (grows_none c.args.into.now c.args.shut.now)

pub add_reads-returns-in-Net : goal.add_reads-returns-in-Net
add_reads-returns-in-Net t c =
    on_ok c.add_range.result c.args.into.now c.add_range.new.into c.args.shut.now (in_range c.net_range.result) (reads c.args.nets.now c.args.e.now)
    (λ i. c.net_range.ensures i ∙ sym (ap (λ r. r.1 i) (read_Net c.args.nets.now c.args.e.now c.in-Net.net c.in-Net.is))) c.add_range.ensures

pub add_reads-returns-in_ok-add_range-in-Select : goal.add_reads-returns-in_ok-add_range-in-Select
add_reads-returns-in_ok-add_range-in-Select t c =
    on_ok_after c.add_reads.result c.args.into.now c.add_range-in-Select.new.into c.add_reads.new.into c.args.shut.now (in_range c.in_ok-range-in-Select.range) (reads c.args.nets.now c.get-in-Select.result.now) (reads c.args.nets.now c.args.e.now)
    c.in_ok-add_range-in-Select.ensures
    (λ i. ap (λ b. b || reads c.args.nets.now c.get-in-Select.result.now i) (c.in_ok-range-in-Select.ensures i ∙ ap (λ e. select_bits (net_at c.args.nets.now c.in-Select.net) (constant_in c.args.nets.now e) c.in-Select.width i) (c.get.ensures ∙ sym c.get-in-Select.ensures))
    ∙ sym (ap (λ r. r.1 i) (read_Select c.args.nets.now c.args.e.now c.in-Select.net c.get-in-Select.result.now c.in-Select.width (c.in-Select.is ∙ ap (λ x. n.Select c.in-Select.net x c.in-Select.width) (sym c.get-in-Select.ensures)))))
    c.add_reads.ensures

pub add_reads-returns-in-Unary : goal.add_reads-returns-in-Unary
add_reads-returns-in-Unary t c =
    on_ok c.add_reads-in-Unary.result c.args.into.now c.add_reads-in-Unary.new.into c.args.shut.now (reads c.args.nets.now c.get-in-Unary.result.now) (reads c.args.nets.now c.args.e.now)
    (λ i. sym (ap (λ r. r.1 i) (read_Unary c.args.nets.now c.args.e.now c.in-Unary.op c.get-in-Unary.result.now (c.in-Unary.is ∙ ap (λ x. n.Unary c.in-Unary.op x) (sym c.get-in-Unary.ensures))))) c.add_reads-in-Unary.ensures

pub add_reads-returns-in_ok-add_reads-in-Binary : goal.add_reads-returns-in_ok-add_reads-in-Binary
add_reads-returns-in_ok-add_reads-in-Binary t c =
    on_ok_after c.add_reads-in-Binary-2.result c.args.into.now c.add_reads-in-Binary.new.into c.add_reads-in-Binary-2.new.into c.args.shut.now (reads c.args.nets.now c.get-in-Binary.result.now) (reads c.args.nets.now c.get-in-Binary-2.result.now) (reads c.args.nets.now c.args.e.now)
    c.in_ok-add_reads-in-Binary.ensures
    (λ i. sym (ap (λ r. r.1 i) (read_Binary c.args.nets.now c.args.e.now c.in-Binary.op c.get-in-Binary.result.now c.get-in-Binary-2.result.now (c.in-Binary.is ∙ (λ j. n.Binary c.in-Binary.op (sym c.get-in-Binary.ensures j) (sym c.get-in-Binary-2.ensures j))))))
    c.add_reads-in-Binary-2.ensures

pub add_reads-returns-in_ok-add_reads-in-Choice-2 : goal.add_reads-returns-in_ok-add_reads-in-Choice-2
add_reads-returns-in_ok-add_reads-in-Choice-2 t c =
    on_ok_after c.add_reads-in-Choice-3.result c.args.into.now c.add_reads-in-Choice-2.new.into c.add_reads-in-Choice-3.new.into c.args.shut.now (λ i. reads c.args.nets.now c.get-in-Choice.result.now i || reads c.args.nets.now c.get-in-Choice-2.result.now i) (reads c.args.nets.now c.get-in-Choice-3.result.now) (reads c.args.nets.now c.args.e.now)
    (grows_both c.args.into.now c.add_reads-in-Choice.new.into c.add_reads-in-Choice-2.new.into c.args.shut.now (reads c.args.nets.now c.get-in-Choice.result.now) (reads c.args.nets.now c.get-in-Choice-2.result.now) c.in_ok-add_reads-in-Choice.ensures c.in_ok-add_reads-in-Choice-2.ensures)
    (λ i. or_assoc (reads c.args.nets.now c.get-in-Choice.result.now i) (reads c.args.nets.now c.get-in-Choice-2.result.now i) (reads c.args.nets.now c.get-in-Choice-3.result.now i)
    ∙ sym (ap (λ r. r.1 i) (read_Choice c.args.nets.now c.args.e.now c.get-in-Choice.result.now c.get-in-Choice-2.result.now c.get-in-Choice-3.result.now (c.in-Choice.is ∙ (λ j. n.Choice (sym c.get-in-Choice.ensures j) (sym c.get-in-Choice-2.ensures j) (sym c.get-in-Choice-3.ensures j))))))
    c.add_reads-in-Choice-3.ensures

pub add_reads-returns-in-Join : goal.add_reads-returns-in-Join
add_reads-returns-in-Join t c =
    on_ok c.add_all_reads.result c.args.into.now c.add_all_reads.new.into c.args.shut.now (either_reads (map (read c.args.nets.now) c.as_slice.result.now)) (reads c.args.nets.now c.args.e.now)
    (λ i. sym (ap (λ r. r.1 i) (read_Join c.args.nets.now c.args.e.now c.in-Join.count c.as_slice.result.now (c.in-Join.is ∙ ap (λ x. n.Join c.in-Join.count x) (sym c.as_slice.ensures))))) c.add_all_reads.ensures

pub add_reads-returns-in-Resize : goal.add_reads-returns-in-Resize
add_reads-returns-in-Resize t c =
    on_ok c.add_reads-in-Resize.result c.args.into.now c.add_reads-in-Resize.new.into c.args.shut.now (reads c.args.nets.now c.get-in-Resize.result.now) (reads c.args.nets.now c.args.e.now)
    (λ i. sym (ap (λ r. r.1 i) (read_Resize c.args.nets.now c.args.e.now c.get-in-Resize.result.now c.in-Resize.by_sign (c.in-Resize.is ∙ ap (λ x. n.Resize x c.in-Resize.by_sign) (sym c.get-in-Resize.ensures))))) c.add_reads-in-Resize.ensures
