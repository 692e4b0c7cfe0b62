use Rattle.std.proofs.Common.{◌∙◌, ◌&&◌, ◌||◌, not, sym, subst, ap}
use Rattle.flat_orders.specs.Orders.{among}
use Rattle.flat_offences.specs.Owners.{AreOwners}
use Rattle.flat_drives.proofs.Leasts.{least_same}
use Rattle.flat_drives.proofs.Opens.{open_bits, open_is, open_first, open_none}
use Rattle.flat_drives.proofs.open.open_net.Goals as goal

pub returns-clause-open : goal.returns-clause-open
returns-clause-open c =
    open_is c.args.nets.now c.args.items.now c.as_slice-2.result.now c.in_ok-net.net
    (subst (AreOwners c.args.nets.now) (sym c.as_slice-2.ensures.value) c.in_ok-owners.ensures)
    (least_same c.as_slice-2.result.now (λ i. among i c.as_slice-3.result.now) (open_bits c.args.nets.now c.args.items.now) c.in_ok-net.net
    (λ i. ap (among i) c.as_slice-3.ensures.value ∙ c.in_ok-push_out.ensures i
    ∙ (λ j. among i (c.new-bits.ensures.items j) || ((ap (among i) c.as_slice.ensures.value ∙ c.in_ok-outputs.ensures i) j && not (c.in_ok-driven.ensures i j || c.in_ok-given.ensures i j))))
    c.in_ok-net.ensures)

pub returns-clause-first : goal.returns-clause-first
returns-clause-first c =
    open_first c.args.nets.now c.args.items.now c.as_slice-2.result.now c.in_ok-net.net
    (subst (AreOwners c.args.nets.now) (sym c.as_slice-2.ensures.value) c.in_ok-owners.ensures)
    (least_same c.as_slice-2.result.now (λ i. among i c.as_slice-3.result.now) (open_bits c.args.nets.now c.args.items.now) c.in_ok-net.net
    (λ i. ap (among i) c.as_slice-3.ensures.value ∙ c.in_ok-push_out.ensures i
    ∙ (λ j. among i (c.new-bits.ensures.items j) || ((ap (among i) c.as_slice.ensures.value ∙ c.in_ok-outputs.ensures i) j && not (c.in_ok-driven.ensures i j || c.in_ok-given.ensures i j))))
    c.in_ok-net.ensures)

pub returns-clause-none : goal.returns-clause-none
returns-clause-none c =
    open_none c.args.nets.now c.args.items.now c.as_slice-2.result.now c.in_ok-net.net
    (subst (AreOwners c.args.nets.now) (sym c.as_slice-2.ensures.value) c.in_ok-owners.ensures)
    (least_same c.as_slice-2.result.now (λ i. among i c.as_slice-3.result.now) (open_bits c.args.nets.now c.args.items.now) c.in_ok-net.net
    (λ i. ap (among i) c.as_slice-3.ensures.value ∙ c.in_ok-push_out.ensures i
    ∙ (λ j. among i (c.new-bits.ensures.items j) || ((ap (among i) c.as_slice.ensures.value ∙ c.in_ok-outputs.ensures i) j && not (c.in_ok-driven.ensures i j || c.in_ok-given.ensures i j))))
    c.in_ok-net.ensures)
