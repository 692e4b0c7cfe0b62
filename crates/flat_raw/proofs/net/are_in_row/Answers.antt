use Rattle.std.proofs.Common.{◌≡◌, ℕ, arith, ◌∙◌, sym, ◌+◌, take}
use Rattle.std.proofs.lemmas.Option.{slice_get_within}
use Rattle.flat_design.specs.Bits.{bits_in}
use Rattle.flat_raw.proofs.Rows.{here, one_more, bits_more, row_out, row_now, few_now}
use Rattle.flat_raw.proofs.net.are_in_row.Goals as goal

pub loop-net-preserved : goal.loop-net-preserved
loop-net-preserved c =
    let fits = sym c.stands_at.ensures ∙ c.if-not-stands_at.false in
    record {
      sum = (λ i. c.loop-net.invariant.sum i + c.net-item.result.width) ∙ sym (bits_more c.args.nets.now c.loop-net.net-index c.net-item.result c.loop-net-test.true c.net-item.is);
      few = few_now c.net-item.result.first c.loop-net.bits c.net-item.result.width fits;
      row =
          one_more (λ k n. n.first ≡ bits_in (take k c.args.nets.now)) c.args.nets.now c.loop-net.net-index c.net-item.result (here c.args.nets.now c.loop-net.net-index c.net-item.result c.loop-net-test.true c.net-item.is) c.loop-net.invariant.row
          (row_now c.net-item.result.first c.loop-net.bits c.net-item.result.width fits ∙ c.loop-net.invariant.sum);
    }

pub returns-then-not-stands_at-clause-all : goal.returns-then-not-stands_at-clause-all
returns-then-not-stands_at-clause-all c row few = absurd (row_out c.args.nets.now c.loop-net.net-index c.loop-net.bits c.net-item.result c.loop-net-test.true c.net-item.is c.loop-net.invariant.sum (sym c.stands_at.ensures ∙ c.if-not-stands_at.true) row few)

pub returns-clause-row : goal.returns-clause-row
returns-clause-row c h k n at = let within = slice_get_within c.args.nets.now k n at in c.loop-net.invariant.row k n (omega arith) at
