-- Items that fit their nets, by their tests.
use Rattle.std.proofs.Common.{◌≡◌, ℕ, ◌<◌, Bool, true, ◌&&◌, List, length, Some, sym, ◌∙◌, arith}
use Rattle.std.specs.Prelude.{slice_get, nat_lt, IsTrue, ◌↔◌}
use Rattle.std.specs.List.{list_all}
use Rattle.std.proofs.lemmas.Bool.Decides.{nat_tests}
use Rattle.flat_design.specs.declared.net.Net.{Net}
use Rattle.flat_design.specs.declared.item.FlatItem.{FlatItem}
use Rattle.flat_design.specs.Systems.{targets_of}
use Rattle.flat_orders.specs.Orders.{among}
use Rattle.flat_rules.specs.Fits.{item_fits}
use Rattle.flat_raw.specs.Assigned.{item_nets, assigned_nets, clocked_nets, AreTargets}
use Rattle.flat_raw.specs.Nets.{kind_fits}
use Rattle.flat_raw.specs.Raw.{FitNets}
use Rattle.flat_raw.proofs.Targets.{and_left, and_right, and_both}

few_is : (m n : ℕ) → nat_lt m n ≡ true → m < n
few_is m n h = grind (arith, nat_tests)

is_few : (m n : ℕ) → m < n → nat_lt m n ≡ true
is_few m n h = grind (arith, nat_tests)

abbrev HaveKinds : List Net → List FlatItem → Type 0
HaveKinds nets items = (k : ℕ) (n : Net) → slice_get nets k ≡ Some n → kind_fits n.kind (among k (assigned_nets items)) (among k (clocked_nets items)) ≡ true

abbrev HaveTargets : List Net → List FlatItem → Type 0
HaveTargets nets items = (k : ℕ) (x : FlatItem) → slice_get items k ≡ Some x → AreTargets (length nets) (targets_of x) (item_nets x)

pub items_are : (nets : List Net) (items : List FlatItem) (few fit kinds targets r : Bool) → few ≡ nat_lt (length items) 4294967296 → fit ≡ list_all (item_fits nets) items → (IsTrue kinds ↔ HaveKinds nets items) → (IsTrue targets ↔ HaveTargets nets items)
    → r ≡ few && (fit && (kinds && targets)) → (IsTrue r ↔ FitNets nets items)
items_are nets items few fit kinds targets r f i k t is = (to, from) where
  to : IsTrue r → FitNets nets items
  to h =
      let all : few && (fit && (kinds && targets)) ≡ true = sym is ∙ h in
      let rest : fit && (kinds && targets) ≡ true = and_right few _ all in
      let two : kinds && targets ≡ true = and_right fit _ rest in
      record {
        few_items = few_is (length items) 4294967296 (sym f ∙ and_left few _ all);
        fits = sym i ∙ and_left fit _ rest;
        kinds = k.0 (and_left kinds targets two);
        targets = t.0 (and_right kinds targets two);
      }

  from : FitNets nets items → IsTrue r
  from h = is ∙ and_both few _ (f ∙ is_few (length items) 4294967296 h.few_items) (and_both fit _ (i ∙ h.fits) (and_both kinds targets (k.1 h.kinds) (t.1 h.targets)))
