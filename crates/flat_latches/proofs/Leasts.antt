-- The least of a set, as it grows.
use Rattle.std.proofs.Common.{◌≡◌, ◌≢◌, ℕ, ◌+◌, ◌<◌, Bool, true, false, not, ◌&&◌, ◌||◌, List, [], ◌∷◌, take, length, get_or, min, refl, sym, ◌∙◌, ap, subst, arith, add-one, inl, inr}
use Rattle.std.specs.Prelude.{◌==◌, Option, Some, None}
use Rattle.std.proofs.Math.Seq.{take-suc}
use Rattle.std.proofs.lemmas.Bool.{cases_Bool}
use Rattle.std.proofs.lemmas.Bool.Decides.{nat_tests}
use Rattle.std.proofs.lemmas.List.Folds.{list_any-append}
use Rattle.bit_base.specs.declared.place.Place.{Place}
use Rattle.flat_design.specs.declared.net.Net.{Net}
use Rattle.flat_design.specs.declared.stmt.FlatStmt.{FlatStmt}
use Rattle.flat_design.specs.declared.item.FlatItem.{FlatItem}
use Rattle.flat_design.specs.declared.item.FlatItem.TheVariants as I
use Rattle.flat_design.specs.Flows.{Flow, flow}
use Rattle.flat_design.specs.Systems.{item_flow}
use Rattle.flat_paths.specs.Paths.{walk}
use Rattle.std.proofs.lemmas.List.{append-nil}
use Rattle.flat_orders.specs.Orders.{among}
use Rattle.flat_flows.specs.Tables.{in_table}
use Rattle.flat_latches.specs.Latches.{IsLeast, IsLatch, HasNoLatch, LeadsOn}

pub least_as : (o : Option ℕ) (f g : ℕ → Bool) → ((i : ℕ) → f i ≡ g i) → IsLeast o f → IsLeast o g
least_as None f g same h = λ i. sym (same i) ∙ h i
least_as (Some n) f g same h = (sym (same n) ∙ h.0, λ j k. sym (same j) ∙ h.1 j k)

-- one number more, where it isn't shut out
more : (ℕ → Bool) → ℕ → List Bool → ℕ → Bool
more set number shut i = set i || (number == i && not (in_table shut i))

none_more : (a b : Bool) → b ≡ false → a ≡ a || b
none_more true b h = refl
none_more false b h = sym h

both_off : (a b : Bool) → a ≡ false → b ≡ false → a || b ≡ false
both_off a b h k = rw (h, k) refl

right_on : (a b : Bool) → b ≡ true → a || b ≡ true
right_on true b h = refl
right_on false b h = h

left_on : (a b : Bool) → a ≡ true → a || b ≡ true
left_on a b h = rw h refl

other : (number i : ℕ) (open_ : Bool) → number ≢ i → number == i && open_ ≡ false
other number i open_ h = let e : (number == i) ≡ false = grind (arith, nat_tests) in rw e refl

same : (number : ℕ) (open_ : Bool) → open_ ≡ true → number == number && open_ ≡ true
same number open_ h = let e : (number == number) ≡ true = grind (arith, nat_tests) in rw (e, h) refl

shut_off : (number i : ℕ) (shut : List Bool) → in_table shut number ≡ true → number == i && not (in_table shut i) ≡ false
shut_off number i shut h = elim (cases_Bool (number == i)) [
  | inl on ↦ (let e : number ≡ i = grind (arith, nat_tests) in let k : in_table shut i ≡ true = ap (in_table shut) (sym e) ∙ h in rw (on, k) refl)
  | inr off ↦ rw off refl
]

pub least_skip : (o : Option ℕ) (set : ℕ → Bool) (number : ℕ) (shut : List Bool) → in_table shut number ≡ true → IsLeast o set → IsLeast o (λ i. set i || (number == i && not (in_table shut i)))
least_skip o set number shut h least = least_as o set _ (λ i. none_more (set i) _ (shut_off number i shut h)) least

pub least_first : (set : ℕ → Bool) (number : ℕ) (shut : List Bool) → in_table shut number ≡ false → IsLeast None set → IsLeast (Some number) (λ i. set i || (number == i && not (in_table shut i)))
least_first set number shut h none = (right_on (set number) _ (same number _ (ap not h)), λ j k. both_off (set j) _ (none j) (other number j _ (omega arith)))

pub least_lower : (set : ℕ → Bool) (m number : ℕ) (shut : List Bool) → in_table shut number ≡ false → IsLeast (Some m) set → IsLeast (Some (min m number)) (λ i. set i || (number == i && not (in_table shut i)))
least_lower set m number shut h least = (there, λ j k. both_off (set j) _ (least.1 j (omega arith)) (other number j _ (omega arith))) where
  there : set (min m number) || (number == min m number && not (in_table shut (min m number))) ≡ true
  there = elim (cases_Bool (min m number == m)) [
    | inl on ↦ (let e : min m number ≡ m = grind (arith, nat_tests) in left_on (set (min m number)) _ (ap set e ∙ least.0))
    | inr off ↦ (let e : min m number ≡ number = grind (arith, nat_tests) in right_on (set (min m number)) _ (ap (λ k. number == k && not (in_table shut k)) e ∙ same number _ (ap not h)))
  ]

none_here : (a : Bool) → a || false ≡ a
none_here true = refl
none_here false = refl

spread : (a b c : Bool) → (a && c) || (b && c) ≡ (a || b) && c
spread true true true = refl
spread true true false = refl
spread true false true = refl
spread true false false = refl
spread false true true = refl
spread false true false = refl
spread false false true = refl
spread false false false = refl

-- one number more of a list
pub among_more : (numbers : List ℕ) (i : ℕ) (k : ℕ) (open_ : Bool) → k < length numbers → ((among i (take k numbers) && open_) || (get_or numbers k 0 == i && open_)) ≡ (among i (take (k + 1) numbers) && open_)
among_more numbers i k open_ h =
    spread (among i (take k numbers)) (get_or numbers k 0 == i) open_
    ∙ ap (λ b. b && open_) (sym (ap (among i) (rw (add-one) (take-suc numbers k 0 h)) ∙ list_any-append (λ j. j == i) (take k numbers) (get_or numbers k 0 ∷ []) ∙ ap (λ b. among i (take k numbers) || b) (none_here (get_or numbers k 0 == i))))

-- ---- what a flow leaves

pub least_none : (o : Option ℕ) (set : ℕ → Bool) → ((n : ℕ) → o ≡ Some n → ⊥) → IsLeast o set → (i : ℕ) → set i ≡ false
least_none None set out h = h
least_none (Some n) set out h = absurd (out n refl)

pub least_some : (o : Option ℕ) (n : ℕ) (set : ℕ → Bool) → o ≡ Some n → IsLeast o set → IsLeast (Some n) set
least_some o n set is h = subst (λ o. IsLeast o set) is h

inverted : (b : Bool) → not (not b) ≡ b
inverted true = refl
inverted false = refl

-- the numbers that are driven and not fixed are those that the flow drives and leaves
pub open_is : (f : Flow) (drives fixed start : List Bool) (members fixes : List ℕ) → ((i : ℕ) → in_table drives i ≡ f.drives i) → ((i : ℕ) → among i fixes ≡ not (f.leaves i)) → ((i : ℕ) → among i members ≡ in_table drives i)
    → ((i : ℕ) → in_table start i ≡ false) → ((i : ℕ) → in_table fixed i ≡ (in_table start i || among i fixes)) → (i : ℕ) → (among i members && not (in_table fixed i)) ≡ (f.drives i && f.leaves i)
open_is f drives fixed start members fixes d x m s is i =
    (λ j. (m i ∙ d i) j && not ((is i ∙ ap (λ b. b || among i fixes) (s i) ∙ x i) j)) ∙ ap (λ b. f.drives i && b) (inverted (f.leaves i))

pub left_is : (a b : Bool) → a && b ≡ true → a ≡ true
left_is true b h = refl
left_is false b h = absurd (cc h)

pub right_is : (a b : Bool) → a && b ≡ true → b ≡ true
right_is true b h = h
right_is false b h = absurd (cc h)

pub right_off : (a b : Bool) → a && b ≡ false → a ≡ true → b ≡ false
right_off true b h on = h
right_off false b h on = absurd (cc on)

-- ---- combinational processes

pub flow_of_comb : (nets : List Net) (item : FlatItem) (place : Place) (targets : List ℕ) (body : FlatStmt) → item ≡ I.Comb place targets body → item_flow nets item ≡ flow nets body
unfolding item_flow
flow_of_comb nets item place targets body q = ap (item_flow nets) q

pub no_latch : (nets : List Net) (item : FlatItem) → ((i : ℕ) → (item_flow nets item).drives i && (item_flow nets item).leaves i ≡ false) → HasNoLatch nets item
no_latch nets item none place targets body q i on =
    let is = flow_of_comb nets item place targets body q in
    sym (ap (λ (f : Flow). f.leaves i) is) ∙ right_off ((item_flow nets item).drives i) _ (none i) (ap (λ (f : Flow). f.drives i) is ∙ on)

pub is_latch : (nets : List Net) (item : FlatItem) (place : Place) (targets : List ℕ) (body : FlatStmt) (bit : ℕ) (path : List ℕ) → item ≡ I.Comb place targets body
    → IsLeast (Some bit) (λ i. (item_flow nets item).drives i && (item_flow nets item).leaves i) → LeadsOn (walk nets bit body) path → IsLatch nets item bit path
is_latch nets item place targets body bit path q least leads =
    let is = flow_of_comb nets item place targets body q in
    record {
      place = place;
      targets = targets;
      body = body;
      is = q;
      drives = sym (ap (λ (f : Flow). f.drives bit) is) ∙ left_is ((item_flow nets item).drives bit) _ least.0;
      leaves = ap (walk nets bit body) (sym (append-nil path)) ∙ leads [];
      least = λ j h on. sym (ap (λ (f : Flow). f.leaves j) is) ∙ right_off ((item_flow nets item).drives j) _ (least.1 j h) (ap (λ (f : Flow). f.drives j) is ∙ on);
    }

-- the bit that was found is left
pub never_none : (nets : List Net) (item : FlatItem) (place : Place) (targets : List ℕ) (body : FlatStmt) (bit : ℕ) → item ≡ I.Comb place targets body
    → IsLeast (Some bit) (λ i. (item_flow nets item).drives i && (item_flow nets item).leaves i) → (flow nets body).leaves bit ≡ false → ⊥
never_none nets item place targets body bit q least off =
    cc (sym (right_is ((item_flow nets item).drives bit) _ least.0) ∙ ap (λ (f : Flow). f.leaves bit) (flow_of_comb nets item place targets body q) ∙ off)
