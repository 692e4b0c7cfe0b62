-- Nets that differ at most in which input is the clock.
use Rattle.std.proofs.Common.{◌≡◌, inl, inr, ℕ, zero, suc, ◌+◌, ◌≤◌, ◌==◌, Bool, true, false, ◌&&◌, List, [], ◌∷◌, map, sum, length, take, Option, Some, None, refl, sym, ◌∙◌, ap, subst, arith, eq-eqb}
use Rattle.std.proofs.lemmas.Bool.{cases_eq, eqb-true}
use Rattle.std.proofs.lemmas.Bool.Decides.{nat_tests}
use Rattle.std.proofs.lemmas.List.Sums.{sum-map, sum_by-cons}
use Rattle.std.specs.Prelude.{slice_get, slice_set, nat_le}
use Rattle.std.specs.List.{list_all, sum_by}
use Rattle.flat_design.specs.declared.net.Net.{Net}
use Rattle.flat_design.specs.Bits.{net_at, bits_in}
use Rattle.flat_raw.specs.Nets.{AreInRow, has_width}
use Rattle.flat_drives.specs.Drives.{is_input}
use Rattle.flat_clocks.specs.Roles.{is_net}
use Rattle.vlog_design.specs.Clocks.{as_clock, with_clock, is_clock_kind, IsMarkedAt}

pub record AreAlike (m n : Net) : Type 0 where
  pub width : m.width ≡ n.width
  pub first : m.first ≡ n.first
  pub input : is_input m.kind ≡ is_input n.kind

abbrev pub AllAlike : List Net → List Net → Type 0
AllAlike [] [] = Unit {0}
AllAlike [] (n ∷ ns) = ⊥
AllAlike (m ∷ ms) [] = ⊥
AllAlike (m ∷ ms) (n ∷ ns) = AreAlike m n × AllAlike ms ns

same : (n : Net) → AreAlike n n
same n = record { width = refl; first = refl; input = refl }

back : (m n : Net) → AreAlike m n → AreAlike n m
back m n h = record { width = sym h.width; first = sym h.first; input = sym h.input }

pub all_same : (ns : List Net) → AllAlike ns ns
all_same [] = tt
all_same (n ∷ ns) = (same n, all_same ns)

pub all_back : (ms ns : List Net) → AllAlike ms ns → AllAlike ns ms
all_back [] [] h = tt
all_back [] (n ∷ ns) h = absurd h
all_back (m ∷ ms) [] h = absurd h
all_back (m ∷ ms) (n ∷ ns) h = (back m n h.0, all_back ms ns h.1)

pub alike_at : (ms ns : List Net) → AllAlike ms ns → (k : ℕ) → AreAlike (net_at ms k) (net_at ns k)
alike_at [] [] h k = same (net_at [] k)
alike_at [] (n ∷ ns) h k = absurd h
alike_at (m ∷ ms) [] h k = absurd h
alike_at (m ∷ ms) (n ∷ ns) h zero = h.0
alike_at (m ∷ ms) (n ∷ ns) h (suc k) = alike_at ms ns h.1 k

pub alike_length : (ms ns : List Net) → AllAlike ms ns → length ms ≡ length ns
alike_length [] [] h = refl
alike_length [] (n ∷ ns) h = absurd h
alike_length (m ∷ ms) [] h = absurd h
alike_length (m ∷ ms) (n ∷ ns) h = ap suc (alike_length ms ns h.1)

alike_widths : (ms ns : List Net) → AllAlike ms ns → map (λ n. n.width) ms ≡ map (λ n. n.width) ns
alike_widths [] [] h = refl
alike_widths [] (n ∷ ns) h = absurd h
alike_widths (m ∷ ms) [] h = absurd h
alike_widths (m ∷ ms) (n ∷ ns) h = λ i. h.0.width i ∷ alike_widths ms ns h.1 i

pub alike_bits : (ms ns : List Net) → AllAlike ms ns → bits_in ms ≡ bits_in ns
alike_bits ms ns h = ap sum (alike_widths ms ns h)

alike_take : (ms ns : List Net) → AllAlike ms ns → (k : ℕ) → AllAlike (take k ms) (take k ns)
alike_take ms ns h zero = tt
alike_take [] [] h (suc k) = tt
alike_take [] (n ∷ ns) h (suc k) = absurd h
alike_take (m ∷ ms) [] h (suc k) = absurd h
alike_take (m ∷ ms) (n ∷ ns) h (suc k) = (h.0, alike_take ms ns h.1 k)

some_same : {A : Type 0} {a b : A} → Some a ≡ Some b → a ≡ b
some_same {A} {a} {b} e = cc

alike_got : (ms ns : List Net) → AllAlike ms ns → (k : ℕ) (n : Net) → slice_get ns k ≡ Some n → (m : Net) × ((slice_get ms k ≡ Some m) × AreAlike m n)
alike_got [] [] h k n at = absurd (cc at)
alike_got [] (p ∷ ns) h k n at = absurd h
alike_got (m ∷ ms) [] h k n at = absurd h
alike_got (m ∷ ms) (p ∷ ns) h zero n at = (m, (refl, subst (AreAlike m) (some_same at) h.0))
alike_got (m ∷ ms) (p ∷ ns) h (suc k) n at = alike_got ms ns h.1 k n at

pub alike_row : (ms ns : List Net) → AllAlike ms ns → AreInRow ms → AreInRow ns
alike_row ms ns h row k n at = let m = alike_got ms ns h k n at in sym m.1.1.first ∙ row k m.0 m.1.0 ∙ alike_bits (take k ms) (take k ns) (alike_take ms ns h k)

-- ---- the clock

clock_alike : (n : Net) → is_input n.kind ≡ true → AreAlike n (as_clock n)
clock_alike n h = record { width = refl; first = refl; input = h }

set_alike : (nets : List Net) (k : ℕ) → is_input (net_at nets k).kind ≡ true → AllAlike nets (slice_set nets k (as_clock (net_at nets k)))
set_alike [] k h = tt
set_alike (n ∷ nets) zero h = (clock_alike n h, all_same nets)
set_alike (n ∷ nets) (suc k) h = (same n, set_alike nets k h)

-- the net of the clock, if there is one, is an input
abbrev pub IsInputNet : List Net → Option ℕ → Type 0
IsInputNet nets None = Unit {0}
IsInputNet nets (Some k) = is_input (net_at nets k).kind ≡ true

pub marked_alike : (nets : List Net) (clock : Option ℕ) → IsInputNet nets clock → AllAlike nets (with_clock nets clock)
marked_alike nets None h = all_same nets
marked_alike nets (Some k) h = set_alike nets k h

abbrev pub HaveNoClock : List Net → Type 0
HaveNoClock nets = (n : ℕ) → is_clock_kind (net_at nets n).kind ≡ false

set_here : (nets : List Net) (k : ℕ) (x : Net) → is_input (net_at nets k).kind ≡ true → net_at (slice_set nets k x) k ≡ x
set_here [] k x h = absurd (cc h)
set_here (m ∷ nets) zero x h = refl
set_here (m ∷ nets) (suc k) x h = set_here nets k x h

set_other : (nets : List Net) (k n : ℕ) (x : Net) → (k ≡ n → ⊥) → net_at (slice_set nets k x) n ≡ net_at nets n
set_other [] k n x h = refl
set_other (m ∷ nets) zero zero x h = absurd (h refl)
set_other (m ∷ nets) zero (suc n) x h = refl
set_other (m ∷ nets) (suc k) zero x h = refl
set_other (m ∷ nets) (suc k) (suc n) x h = set_other nets k n x (λ e. h (ap suc e))

differ : (k n : ℕ) → (k ≡ n → ⊥) → (k == n) ≡ false
differ k n h = by (k == n) refl where
  by : (b : Bool) → (k == n) ≡ b → (k == n) ≡ false
  by true e = absurd (h (eqb-true k n e))
  by false e = e

marked_set : (nets : List Net) (k : ℕ) → is_input (net_at nets k).kind ≡ true → HaveNoClock nets → (n : ℕ) → is_clock_kind (net_at (slice_set nets k (as_clock (net_at nets k))) n).kind ≡ is_net n (Some k)
marked_set nets k h none n = elim (cases_eq k n) [
  | inl e ↦ ap (λ j. is_clock_kind (net_at (slice_set nets k (as_clock (net_at nets k))) j).kind) (sym e) ∙ ap (λ m. is_clock_kind m.kind) (set_here nets k (as_clock (net_at nets k)) h) ∙ sym (eq-eqb k n e)
  | inr ne ↦ ap (λ m. is_clock_kind m.kind) (set_other nets k n (as_clock (net_at nets k)) ne) ∙ none n ∙ sym (differ k n ne)
]

pub marked_at : (nets : List Net) (clock : Option ℕ) → IsInputNet nets clock → HaveNoClock nets → IsMarkedAt (with_clock nets clock) clock
marked_at nets None h none n = none n
marked_at nets (Some k) h none n = marked_set nets k h none n

-- ---- how many nets there are

wide : (a b : Bool) → a && b ≡ true → (a ≡ true) × (b ≡ true)
wide true b h = (refl, h)
wide false b h = absurd (cc h)

some_more : (a b w n : ℕ) → a ≤ b → nat_le 1 w && nat_le w 1024 ≡ true → n ≡ w + b → suc a ≤ n
some_more a b w n h k e = by (wide (nat_le 1 w) (nat_le w 1024) k).0 where
  by : nat_le 1 w ≡ true → suc a ≤ n
  by = grind (arith, nat_tests)

few_by : (nets : List Net) → list_all has_width nets ≡ true → length nets ≤ sum_by (λ n. n.width) nets
few_by [] h = omega arith
few_by (n ∷ nets) h =
    let p = wide (has_width n) (list_all has_width nets) h in
    some_more (length nets) (sum_by (λ n. n.width) nets) n.width (sum_by (λ n. n.width) (n ∷ nets)) (few_by nets p.1) p.0 (sum_by-cons (λ n. n.width) n nets)

pub few_nets : (nets : List Net) → list_all has_width nets ≡ true → length nets ≤ bits_in nets
few_nets nets h = subst (λ k. length nets ≤ k) (sym (sum-map (λ n. n.width) nets)) (few_by nets h)
