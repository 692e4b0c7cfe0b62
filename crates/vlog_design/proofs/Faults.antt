-- The fault of each refusal.
use Rattle.std.proofs.Common.{◌≡◌, List, [], Result, Ok, Err, refl, sym, subst}
use Rattle.std.specs.Prelude.{IfOk}
use Rattle.flat_design.specs.declared.net.Net.{Net}
use Rattle.flat_design.specs.declared.item.FlatItem.{FlatItem}
use Rattle.flat_clocks.specs.Offences.{HasNoClockOffence}
use Rattle.flat_checks.specs.declared.cycle.ItemCycle.{ItemCycle}
use Rattle.flat_checks.specs.declared.check.Refusal.TheVariants as R
use Rattle.flat_checks.specs.Checks.{IsRefusal}
use Rattle.vlog_tree.specs.declared.fault.VlogFault.{VlogFault}
use Rattle.vlog_tree.specs.declared.fault.VlogFault.TheVariants.{At}
use Rattle.vlog_tree.specs.declared.fault.VlogCode.TheVariants as C
use Rattle.vlog_design.specs.Refusals.{net_names, Refuses}

pub cycle_is_due : (nets : List Net) (items : List FlatItem) (c : ItemCycle) (f : VlogFault) → HasNoClockOffence nets items → IsRefusal nets items (R.Cycle c) → f ≡ At C.VlogLoop c.place (net_names nets c.nets.items) [] → Refuses nets items f
cycle_is_due nets items c f clocks r e = subst (Refuses nets items) (sym e) (record { before = record { before = record { clocks = clocks; drivers = r.0 }; races = r.1.0 }; latches = r.1.1.0 }, (c, (r.1.1.1, (record { at = refl; named = refl }, refl))))

pub if_ok : {A E : Type 0} {P Q : A → Type 0} (r : Result A E) → ((a : A) → P a → Q a) → IfOk r P → IfOk r Q
if_ok {A} {E} {P} {Q} (Ok a) f h = f a h
if_ok {A} {E} {P} {Q} (Err e) f h = tt
