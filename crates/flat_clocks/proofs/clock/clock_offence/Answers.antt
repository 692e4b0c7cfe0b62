use Rattle.std.proofs.Common.{◌∙◌, sym, subst, ap, length}
use Rattle.flat_ties.specs.Sources.{AreSources}
use Rattle.flat_clocks.specs.Least.{AreClocks}
use Rattle.flat_clocks.proofs.Whole.{AreNets, answer_first, answer_none}
use Rattle.flat_clocks.proofs.clock.clock_offence.Goals as goal

pub returns-clause-first : goal.returns-clause-first
returns-clause-first c =
    let nets = c.args.nets.now in
    let items = c.args.items.now in
    let s = c.as_slice-2.ensures.value in
    let t = c.as_slice-3.ensures.value in
    let f = c.as_slice-4.ensures.value in
    answer_first nets c.as_slice-2.result.now c.as_slice-3.result.now items c.as_slice-4.result.now c.first_offence.result (subst (AreSources nets items) (sym s) c.in_ok-sources.ensures)
    (subst (AreClocks nets c.as_slice-2.result.now items) (sym t) (subst (λ l. AreClocks nets l items c.in_ok-table.table.items) (c.as_slice.ensures.value ∙ sym s) c.in_ok-table.ensures))
    (ap length f ∙ c.in_ok-found.ensures.long) (subst (AreNets nets c.as_slice-2.result.now c.as_slice-3.result.now items) (sym f) c.in_ok-found.ensures.each) c.first_offence.ensures.first

pub returns-clause-none : goal.returns-clause-none
returns-clause-none c =
    let nets = c.args.nets.now in
    let items = c.args.items.now in
    let s = c.as_slice-2.ensures.value in
    let t = c.as_slice-3.ensures.value in
    let f = c.as_slice-4.ensures.value in
    answer_none nets c.as_slice-2.result.now c.as_slice-3.result.now items c.as_slice-4.result.now c.first_offence.result (subst (AreSources nets items) (sym s) c.in_ok-sources.ensures)
    (subst (AreClocks nets c.as_slice-2.result.now items) (sym t) (subst (λ l. AreClocks nets l items c.in_ok-table.table.items) (c.as_slice.ensures.value ∙ sym s) c.in_ok-table.ensures))
    (ap length f ∙ c.in_ok-found.ensures.long) (subst (AreNets nets c.as_slice-2.result.now c.as_slice-3.result.now items) (sym f) c.in_ok-found.ensures.each) c.first_offence.ensures.none
