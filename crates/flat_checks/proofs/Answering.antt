-- Designs that pass, and those that are refused.
use Rattle.std.proofs.Common.{◌≡◌, inl, inr, ℕ, Bool, true, false, List, Option, Some, None, refl, sym, ◌∙◌}
use Rattle.std.specs.Prelude.{◌↔◌, is_some, IfSome, Result, Ok, Err, is_ok}
use Rattle.flat_design.specs.declared.net.Net.{Net}
use Rattle.flat_design.specs.declared.item.FlatItem.{FlatItem}
use Rattle.flat_orders.specs.Orders.{IsOrder}
use Rattle.flat_orders.proofs.CycleLemmas.{order_excludes_cycle}
use Rattle.flat_ordered.specs.Firsts.{IsFirstCycle}
use Rattle.flat_loads.specs.Sizes.{is_too_large}
use Rattle.flat_checks.specs.declared.check.Refusal.{Refusal}
use Rattle.flat_checks.specs.declared.check.Refusal.TheVariants as R
use Rattle.flat_checks.specs.declared.check.Passed.{Passed}
use Rattle.flat_checks.specs.Cycles.{AreAssigning}
use Rattle.flat_checks.specs.Checks.{HaveNoCycles, IsFree, IsRefusal, IsAnswer}
use Rattle.flat_checks.proofs.Assigning.{cycle_assigns}

differ : (b : Bool) → b ≡ true → b ≡ false → ⊥
differ b h k = cc

-- ---- answers

pub none_then : {A : Type 0} (o : Option A) (P : Type 0) → o ≡ None → (is_some o ≡ false → P) → P
none_then None P e f = f refl
none_then (Some x) P e f = absurd (cc e)

pub some_off : {A : Type 0} (o : Option A) (x : A) (b : Bool) → o ≡ Some x → (b ≡ true → is_some o ≡ false) → b ≡ false
some_off None x b e f = absurd (cc e)
some_off (Some y) x true e f = absurd (differ true refl (f refl))
some_off (Some y) x false e f = refl

pub cost_of : (o : Option ℕ) (x d : ℕ) → o ≡ Some x → IfSome o (λ c. c ≡ d) → x ≡ d
cost_of None x d e h = absurd (cc e)
cost_of (Some y) x d e h = same (sym e) ∙ h where
  same : {a b : ℕ} → Some a ≡ Some b → a ≡ b
  same {a} {b} e = cc

pub no_cycles : (nets : List Net) (items : List FlatItem) (order : List ℕ) → IsOrder nets items order → HaveNoCycles nets items
no_cycles nets items order is ks h = order_excludes_cycle nets items order ks is h

pub loop_assigns : (nets : List Net) (items : List FlatItem) (ks : List ℕ) → IsFirstCycle nets items ks → AreAssigning items ks
loop_assigns nets items ks h = cycle_assigns nets items ks h.cycle

-- ---- refusals

refused : (nets : List Net) (items : List FlatItem) (r : Refusal) → IsRefusal nets items r → IsFree nets items → ⊥
refused nets items (R.Drive o) (inl h) free = free.drivers.no_item h.number o.net h.offence
refused nets items (R.Drive o) (inr h) free = free.drivers.no_open o.net h.open_net
refused nets items (R.Race o) h free = free.races h.1.number o.net h.1.offence
refused nets items (R.Latch l) h free = free.latches h.1.1.first.number l.offence.net h.1.1.first.offence
refused nets items (R.Cycle c) h free = free.cycles h.1.1.1.numbers h.1.1.1.cycle.cycle
refused nets items R.Size h free = differ (is_too_large nets items) h.1.1.1.1 free.size

pub accepted : (nets : List Net) (items : List FlatItem) (c : Result Passed Refusal) → IsAnswer nets items c → (is_ok c ≡ true) ↔ IsFree nets items
accepted nets items (Ok p) h = (λ _. h.free, λ _. refl)
accepted nets items (Err r) h = (λ e. absurd (differ false e refl), λ free. absurd (refused nets items r h free))
