use Rattle.std.proofs.Common.{◌<◌, length, sym, ◌∙◌, ap, subst}
use Rattle.flat_design.specs.Bits.{bits_in}
use Rattle.flat_raw.specs.Nets.{AreInRow}
use Rattle.flat_checks.specs.Checks.{IsPassed}
use Rattle.vlog_design.specs.Clocks.{first_clock, first_reset, signal_net}
use Rattle.vlog_design.proofs.Making as making
use Rattle.vlog_design.proofs.Making.{IsMade, sources_are, passed_as, clocked_as}
use Rattle.vlog_design.proofs.design.Design.check.Goals as goal

pub sources-requires : goal.sources-requires
sources-requires c = record { few = subst (λ ns. length ns < 4294967296) (sym c.as_slice.ensures.value) (making.few c.args.raw.nets.items c.args.raw.items.items c.args.raw.raw) }

before : (c : goal.After-as_slice-8) → IsMade c.args.raw.nets.items c.args.raw.items.items c.in_ok-sources.sources.items c.signal_net-clock.result c.first_reset-reset.result c.mark_clock.new.nets.items
before c = record {
  raw = c.args.raw.raw;
  are = sources_are c.args.raw.nets.items c.args.raw.items.items c.as_slice.result.now c.as_slice-2.result.now c.in_ok-sources.sources.items c.as_slice.ensures.value c.as_slice-2.ensures.value c.in_ok-sources.ensures;
  clock_is = c.signal_net-clock.ensures ∙ ap signal_net (c.first_clock.ensures ∙ (λ i. first_clock (c.as_slice-3.ensures.value i) (c.as_slice-4.ensures.value i)));
  reset_is = c.first_reset-reset.ensures ∙ (λ i. first_reset (c.as_slice-5.ensures.value i) (c.as_slice-6.ensures.value i));
  marked_is = c.mark_clock.ensures;
}

after : (c : goal.In_ok-passed) → IsMade c.args.raw.nets.items c.args.raw.items.items c.in_ok-sources.sources.items c.signal_net-clock.result c.first_reset-reset.result c.mark_clock.new.nets.items
after c = record {
  raw = c.args.raw.raw;
  are = sources_are c.args.raw.nets.items c.args.raw.items.items c.as_slice.result.now c.as_slice-2.result.now c.in_ok-sources.sources.items c.as_slice.ensures.value c.as_slice-2.ensures.value c.in_ok-sources.ensures;
  clock_is = c.signal_net-clock.ensures ∙ ap signal_net (c.first_clock.ensures ∙ (λ i. first_clock (c.as_slice-3.ensures.value i) (c.as_slice-4.ensures.value i)));
  reset_is = c.first_reset-reset.ensures ∙ (λ i. first_reset (c.as_slice-5.ensures.value i) (c.as_slice-6.ensures.value i));
  marked_is = c.mark_clock.ensures;
}

pub check_marked-requires-clause-row : goal.check_marked-requires-clause-row
check_marked-requires-clause-row c = subst AreInRow (sym c.as_slice-7.ensures.value) (making.row_made (before c))

pub check_marked-requires-clause-few : goal.check_marked-requires-clause-few
check_marked-requires-clause-few c = subst (λ ns. length ns < 4294967296) (sym c.as_slice-7.ensures.value) (making.few_made (before c))

pub check_marked-requires-clause-bits : goal.check_marked-requires-clause-bits
check_marked-requires-clause-bits c = subst (λ ns. bits_in ns < 4294967296) (sym c.as_slice-7.ensures.value) (making.bits_made (before c))

passed : (c : goal.In_ok-passed) → IsPassed c.mark_clock.new.nets.items c.args.raw.items.items c.in_ok-passed.passed
passed c = passed_as _ _ _ _ c.in_ok-passed.passed c.as_slice-7.ensures.value c.as_slice-8.ensures.value c.in_ok-passed.ensures.passed

pub invariant_of-result : goal.invariant_of-result
invariant_of-result c = record {
  of_raw = ∣ record { raw = c.args.raw.nets.items; fits = c.args.raw.raw; is = c.mark_clock.ensures } ∣₁;
  clock_is = making.clock_made (after c);
  reset_is = making.reset_made (after c);
  marked = making.mark_made (after c);
  clocked = ∣ clocked_as _ _ _ _ c.as_slice-7.ensures.value c.as_slice-8.ensures.value c.in_ok-passed.ensures.clocks ∣₁;
  free = (passed c).free;
  ordered = (passed c).order;
  priced = (passed c).cost;
}
