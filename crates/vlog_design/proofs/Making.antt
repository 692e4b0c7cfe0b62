-- A design with its clock marked.
use Rattle.std.proofs.Common.{◌≡◌, ◌⊎◌, inl, inr, ℕ, zero, suc, ◌<◌, Bool, true, false, List, [], ◌∷◌, length, Option, Some, refl, sym, ◌∙◌, ap, subst, arith}
use Rattle.std.specs.Prelude.{slice_get}
use Rattle.flat_design.specs.declared.net.Net.{Net}
use Rattle.flat_design.specs.declared.net.NetKind.{NetKind}
use Rattle.flat_design.specs.declared.net.NetKind.TheVariants as K
use Rattle.flat_design.specs.declared.item.FlatItem.{FlatItem}
use Rattle.flat_design.specs.Bits.{net_at, bits_in}
use Rattle.flat_raw.specs.Nets.{AreInRow, kind_fits}
use Rattle.flat_raw.specs.Raw.{IsRaw}
use Rattle.flat_ties.specs.Sources.{AreSources}
use Rattle.flat_clocks.specs.declared.signal.Signal.{Signal}
use Rattle.flat_clocks.specs.Offences.{HasNoClockOffence}
use Rattle.flat_checks.specs.declared.check.Passed.{Passed}
use Rattle.flat_checks.specs.Checks.{IsPassed}
use Rattle.vlog_tree.specs.declared.fault.VlogFault.{VlogFault}
use Rattle.vlog_tree.specs.declared.fault.VlogFault.TheVariants.{NoMemory, At}
use Rattle.vlog_design.specs.Clocks.{is_clock_kind, with_clock, clock_net, first_reset, AreMarked, IsClock, IsReset, IsMarkedAt}
use Rattle.vlog_design.specs.Refusals.{Refuses, IsRefused}
use Rattle.vlog_design.proofs.Alike.{AllAlike, HaveNoClock, marked_alike, marked_at, alike_row, alike_length, alike_bits, few_nets}
use Rattle.vlog_design.proofs.Sourcing.{clock_input, marked_sources, is_the_clock, is_the_reset}

not_clock : (k : NetKind) (assigned clocked : Bool) → kind_fits k assigned clocked ≡ true → is_clock_kind k ≡ false
not_clock K.Clock assigned clocked h = absurd (cc h)
not_clock K.Input assigned clocked h = refl
not_clock K.Hidden assigned clocked h = refl
not_clock K.Wire assigned clocked h = refl
not_clock K.Register assigned clocked h = refl

at_net : (nets : List Net) (n : ℕ) → (is_clock_kind (net_at nets n).kind ≡ false) ⊎ (slice_get nets n ≡ Some (net_at nets n))
at_net [] n = inl refl
at_net (m ∷ nets) zero = inr refl
at_net (m ∷ nets) (suc n) = at_net nets n

no_clock : (nets : List Net) (items : List FlatItem) → IsRaw nets items → HaveNoClock nets
no_clock nets items raw n = elim (at_net nets n) [
  | inl out ↦ out
  | inr at ↦ not_clock (net_at nets n).kind _ _ (raw.items_fit.kinds n (net_at nets n) at)
]

pub few : (nets : List Net) (items : List FlatItem) → IsRaw nets items → length nets < 4294967296
few nets items raw = let some = few_nets nets raw.nets_fit.widths in let bits = raw.nets_fit.few_bits in omega arith

pub sources_are : (nets : List Net) (items : List FlatItem) (ns : List Net) (xs : List FlatItem) (sources : List (Option ℕ)) → ns ≡ nets → xs ≡ items → AreSources ns xs sources → AreSources nets items sources
sources_are nets items ns xs sources e f are = subst (λ n. AreSources n items sources) e (subst (λ x. AreSources ns x sources) f are)

pub passed_as : (nets : List Net) (items : List FlatItem) (ns : List Net) (xs : List FlatItem) (p : Passed) → ns ≡ nets → xs ≡ items → IsPassed ns xs p → IsPassed nets items p
passed_as nets items ns xs p e f h = subst (λ n. IsPassed n items p) e (subst (λ x. IsPassed ns x p) f h)

pub clocked_as : (nets : List Net) (items : List FlatItem) (ns : List Net) (xs : List FlatItem) → ns ≡ nets → xs ≡ items → HasNoClockOffence ns xs → HasNoClockOffence nets items
clocked_as nets items ns xs e f h = subst (λ n. HasNoClockOffence n items) e (subst (λ x. HasNoClockOffence ns x) f h)

-- the parts of a design that is made of raw nets and items
pub record IsMade (nets : List Net) (items : List FlatItem) (sources : List (Option ℕ)) (clock : Option ℕ) (reset : Option Signal) (marked : List Net) : Type 0 where
  pub raw : IsRaw nets items
  pub are : AreSources nets items sources
  pub clock_is : clock ≡ clock_net sources items
  pub reset_is : reset ≡ first_reset sources items
  pub marked_is : marked ≡ with_clock nets clock

module _ {nets : List Net} {items : List FlatItem} {sources : List (Option ℕ)} {clock : Option ℕ} {reset : Option Signal} {marked : List Net} (m : IsMade nets items sources clock reset marked) where
  by_sources : marked ≡ with_clock nets (clock_net sources items)
  by_sources = m.marked_is ∙ ap (with_clock nets) m.clock_is

  pub alike : AllAlike nets marked
  alike = subst (AllAlike nets) (sym by_sources) (marked_alike nets (clock_net sources items) (clock_input nets items sources m.are))

  pub are_marked : AreMarked nets items marked
  are_marked = record { sources = sources; are = m.are; is = by_sources }

  sources_of_marked : AreSources marked items sources
  sources_of_marked = subst (λ ns. AreSources ns items sources) (sym by_sources) (marked_sources nets items sources m.are)

  pub clock_made : IsClock marked items clock
  clock_made = subst (IsClock marked items) (sym m.clock_is) (is_the_clock marked items sources sources_of_marked)

  pub reset_made : IsReset marked items reset
  reset_made = subst (IsReset marked items) (sym m.reset_is) (is_the_reset marked items sources sources_of_marked)

  pub mark_made : IsMarkedAt marked clock
  mark_made = subst (λ c. IsMarkedAt marked c) (sym m.clock_is) (subst (λ ns. IsMarkedAt ns (clock_net sources items)) (sym by_sources) (marked_at nets (clock_net sources items) (clock_input nets items sources m.are) (no_clock nets items m.raw)))

  pub row_made : AreInRow marked
  row_made = alike_row nets marked alike m.raw.nets_fit.in_row

  pub few_made : length marked < 4294967296
  few_made = subst (λ k. k < 4294967296) (alike_length nets marked alike) (few nets items m.raw)

  pub bits_made : bits_in marked < 4294967296
  bits_made = subst (λ k. k < 4294967296) (alike_bits nets marked alike) m.raw.nets_fit.few_bits

  pub refused_by : (f : VlogFault) → Refuses marked items f → IsRefused nets items f
  refused_by NoMemory r = tt
  refused_by (At code place names path) r = (marked, (are_marked, r))
