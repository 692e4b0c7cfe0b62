-- A design that is accepted isn't refused.
use Rattle.std.proofs.Common.{◌≡◌, inl, inr, ℕ, Bool, true, false, List, sym, ◌∙◌, ap, subst}
use Rattle.bit_base.specs.declared.place.Place.{Place}
use Rattle.flat_design.specs.declared.net.Net.{Net}
use Rattle.flat_design.specs.declared.item.FlatItem.{FlatItem}
use Rattle.flat_offences.specs.declared.offence.Offence.{Offence}
use Rattle.flat_clocks.specs.Offences.{IsClockOffence, HasNoClockOffence}
use Rattle.flat_loads.specs.Sizes.{is_too_large}
use Rattle.flat_driven.specs.Driven.{HaveDrivers, IsDriverOffence}
use Rattle.vlog_tree.specs.declared.fault.VlogCode.{VlogCode}
use Rattle.vlog_tree.specs.declared.fault.VlogCode.TheVariants as C
use Rattle.vlog_tree.specs.declared.fault.VlogFault.TheVariants.{At}
use Rattle.vlog_design.specs.Clocks.{AreMarked, with_clock, signal_net}
use Rattle.vlog_design.specs.Refusals.{Refuses, IsFine, IsAccepted, IsRefused}
use Rattle.vlog_design.proofs.Sourcing.{sources_agree, first_clocks, offends_agree}

clock_excluded : (nets : List Net) (items : List FlatItem) (o : Offence) → HasNoClockOffence nets items → IsClockOffence nets items o → ⊥
clock_excluded nets items o none some =
    none.none some.first.number o.net (offends_agree nets some.sources none.sources (sources_agree nets items some.sources none.sources some.are none.are) items some.first.number o.net some.first.offence)

driver_excluded : (nets : List Net) (items : List FlatItem) (o : Offence) → HaveDrivers nets items → IsDriverOffence nets items o → ⊥
driver_excluded nets items o none (inl some) = none.no_item some.number o.net some.offence
driver_excluded nets items o none (inr some) = none.no_open o.net some.open_net

differ : (b : Bool) → b ≡ true → b ≡ false → ⊥
differ b h k = cc

fine_excludes : (nets : List Net) (items : List FlatItem) (code : VlogCode) (place : Place) (names : List (List ℕ)) (path : List ℕ) → IsFine nets items → Refuses nets items (At code place names path) → ⊥
fine_excludes nets items C.VlogClock place names path fine r = clock_excluded nets items r.0 fine.clocks r.1.0
fine_excludes nets items C.VlogDrive place names path fine r = driver_excluded nets items r.1.0 fine.free.drivers r.1.1.0
fine_excludes nets items C.VlogRace place names path fine r = fine.free.races r.1.1.0.number r.1.0.net r.1.1.0.offence
fine_excludes nets items C.VlogLatch place names path fine r = fine.free.latches r.1.1.0.first.number r.1.0.net r.1.1.0.first.offence
fine_excludes nets items C.VlogLoop place names path fine r = fine.free.cycles r.1.1.0.numbers r.1.1.0.cycle.cycle
fine_excludes nets items C.VlogSize place names path fine r = differ (is_too_large nets items) r.1.0 fine.free.size
fine_excludes nets items C.VlogByte place names path fine r = r
fine_excludes nets items C.VlogDirective place names path fine r = r
fine_excludes nets items C.VlogSyntax place names path fine r = r
fine_excludes nets items C.VlogDeep place names path fine r = r
fine_excludes nets items C.VlogName place names path fine r = r
fine_excludes nets items C.VlogConst place names path fine r = r
fine_excludes nets items C.VlogLeftOut place names path fine r = r
fine_excludes nets items C.VlogWide place names path fine r = r

marked_is : (nets a b : List Net) (items : List FlatItem) → AreMarked nets items a → AreMarked nets items b → a ≡ b
marked_is nets a b items h k =
    h.is ∙ ap (λ s. with_clock nets (signal_net s)) (first_clocks h.sources k.sources (sources_agree nets items h.sources k.sources h.are k.are) items) ∙ sym k.is

pub accepted_is_not_refused : (nets : List Net) (items : List FlatItem) (code : VlogCode) (place : Place) (names : List (List ℕ)) (path : List ℕ) → IsAccepted nets items → IsRefused nets items (At code place names path) → ⊥
accepted_is_not_refused nets items code place names path a r =
    fine_excludes r.0 items code place names path (subst (λ m. IsFine m items) (marked_is nets a.marked r.0 items a.are r.1.0) a.fine) r.1.1
