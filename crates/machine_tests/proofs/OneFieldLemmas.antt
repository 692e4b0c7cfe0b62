-- A field that stands alone is a valid map.
use Rattle.std.proofs.Common.{◌≡◌, ◌≢◌, ℕ, zero, suc, ◌+◌, ◌-◌, ◌^◌, ◌<◌, ◌≤◌, ◌%◌, Bool, true, false, List, [], ◌∷◌, Some, None, slice_get, refl, arith, ap, subst, ◌∙◌, sym, lit<, lit≤, eq-eqb}
use Rattle.std.proofs.lemmas.Option.{same_Some}
use Rattle.field_policies.specs.declared.field.Field.{Field}
use Rattle.field_policies.specs.declared.signal.HwInput.{HwInput}
use Rattle.field_policies.specs.declared.signal.InSignal.{InSignal}
use Rattle.field_policies.specs.declared.signal.InSignal.TheVariants as in_signal
use Rattle.field_policies.specs.declared.signal.HwExpr.{HwExpr}
use Rattle.field_policies.specs.declared.signal.HwExpr.TheVariants as expr
use Rattle.field_policies.specs.Fields.{EachExpr, is_in_range, has_width, members_of, is_counter, is_intr}
use Rattle.field_policies.specs.FieldPath.{IsFieldPath, Step, is_name, is_index}
use Rattle.field_policies.specs.declared.policy.ReadEffect.TheVariants.{Keep}
use Rattle.field_policies.specs.declared.extra.Extra.TheVariants as extra
use Rattle.field_policies.specs.declared.extra.Counter.{Counter}
use Rattle.field_policies.specs.Maps.{EachField, IsBus, AreInWords, AreResets, AreInRange, AreDistinct, HavePaths, AreWide, AreWires, AreCounters, AreInterrupts, AreMembers, IsSmall, input_width}
use Rattle.machine_tests.specs.OneField.{StandsAlone, inputs}
use Rattle.reg_machine.specs.Conditions.{AreInputs}
use Rattle.reg_machine.specs.Machines.{is_shown}
use Rattle.field_policies.specs.Expressions.{shows, one_if}
use Rattle.std.specs.Int.Bits.{bit_and}
use Rattle.std.proofs.lemmas.Nat.{and_le_r, pow_pos}
use Rattle.field_policies.specs.declared.signal.OutSignal.{OutSignal}
use Rattle.std.specs.Option.{option_map_or}

only : (P : Field → Type 0) (f : Field) → P f → EachField (f ∷ []) P
only P f h zero g e = subst P (same_Some _ _ e) h
only P f h (suc i) g e = cc

pub one_bus : IsBus 32 (0 ∷ [])
one_bus = record { width = refl; rising = rising; aligned = aligned }
  where
    rising : (i j a b : ℕ) → i < j → slice_get (0 ∷ []) i ≡ Some a → slice_get (0 ∷ []) j ≡ Some b → a < b
    rising i zero a b lt p q = absurd (omega (arith, lt))
    rising i (suc j) a b lt p q = cc

    aligned : (i a : ℕ) → slice_get (0 ∷ []) i ≡ Some a → a % 4 ≡ 0
    aligned zero a p = ap (λ n. n % 4) (sym (same_Some _ _ p))
    aligned (suc i) a p = cc

no_two : (A : Field → Field → Type 0) (f : Field) (i j : ℕ) (g h : Field) → i < j → slice_get (f ∷ []) i ≡ Some g → slice_get (f ∷ []) j ≡ Some h → A g h
no_two A f i zero g h lt p q = absurd (omega (arith, lt))
no_two A f i (suc j) g h lt p q = cc

pub one_in_words : (f : Field) → StandsAlone f → AreInWords 32 (0 ∷ []) (f ∷ [])
one_in_words f s = record {
  there = only (λ g. g.word < 1) f (omega (arith, s.word));
  some = only (λ g. 1 ≤ g.width) f s.some;
  inside = only (λ g. g.lsb + g.width ≤ 32) f (omega (arith, s.lsb, s.width));
  ordered = no_two (λ g h. g.word ≤ h.word) f;
  apart = λ i j g h lt p q. no_two (λ g h. g.word ≡ h.word → g.lsb + g.width ≤ h.lsb) f i j g h lt p q;
}

pub one_resets : (f : Field) → StandsAlone f → AreResets (f ∷ [])
one_resets f s = record {
  fits = only (λ g. g.reset < 2 ^ g.width) f s.fits;
  unknown = only (λ g. g.starts_known ≡ false → g.reset ≡ 0) f s.unknown;
  wires = only (λ g. g.wire ≡ true → g.starts_known ≡ true) f (λ w. let clash : true ≡ false = sym w ∙ s.stored in cc);
}

exprs_by : (one all : HwExpr → Bool) (f : Field) → StandsAlone f → one (expr.Input 1) ≡ true → one (expr.Input 2) ≡ true → one (expr.Input 3) ≡ true → one (expr.Input 4) ≡ true
    → one (expr.Input 5) ≡ true → one (expr.Input 6) ≡ true → all (expr.Input 0) ≡ true → EachExpr one all f
exprs_by one all f s a b c d e g h = record {
  sw_gate = λ x p. ap one (s.sw_gate x p) ∙ d;
  data_gate = λ x p. ap one (s.data_gate x p) ∙ a;
  set = λ x p. ap one (s.set x p) ∙ b;
  clear = λ x p. ap one (s.clear x p) ∙ c;
  incr = λ x p. ap one (s.incr x p) ∙ e;
  decr = λ x p. ap one (s.decr x p) ∙ g;
  bit_gate = λ x p. ap all (s.bit_gate x p) ∙ h;
  filter = λ x p. let clash : None ≡ Some x = sym s.filter ∙ p in cc;
}

each_input : (P : HwInput → Type 0) (w : ℕ) → P (record { field = 0; signal = in_signal.Data; width = w }) → P (record { field = 0; signal = in_signal.We; width = 1 }) → P (record { field = 0; signal = in_signal.HwSet; width = 1 })
    → P (record { field = 0; signal = in_signal.HwClr; width = 1 }) → P (record { field = 0; signal = in_signal.SwWe; width = 1 })
    → P (record { field = 0; signal = in_signal.Incr; width = 1 }) → P (record { field = 0; signal = in_signal.Decr; width = 1 }) → (i : ℕ) (h : HwInput) → slice_get (inputs w) i ≡ Some h → P h
each_input P w a0 a1 a2 a3 a4 a5 a6 zero h p = subst P (same_Some _ _ p) a0
each_input P w a0 a1 a2 a3 a4 a5 a6 (suc zero) h p = subst P (same_Some _ _ p) a1
each_input P w a0 a1 a2 a3 a4 a5 a6 (suc (suc zero)) h p = subst P (same_Some _ _ p) a2
each_input P w a0 a1 a2 a3 a4 a5 a6 (suc (suc (suc zero))) h p = subst P (same_Some _ _ p) a3
each_input P w a0 a1 a2 a3 a4 a5 a6 (suc (suc (suc (suc zero)))) h p = subst P (same_Some _ _ p) a4
each_input P w a0 a1 a2 a3 a4 a5 a6 (suc (suc (suc (suc (suc zero))))) h p = subst P (same_Some _ _ p) a5
each_input P w a0 a1 a2 a3 a4 a5 a6 (suc (suc (suc (suc (suc (suc zero)))))) h p = subst P (same_Some _ _ p) a6
each_input P w a0 a1 a2 a3 a4 a5 a6 (suc (suc (suc (suc (suc (suc (suc i))))))) h p = cc

place : InSignal → ℕ
place in_signal.Data = 0
place in_signal.We = 1
place in_signal.HwSet = 2
place in_signal.HwClr = 3
place in_signal.SwWe = 4
place in_signal.Incr = 5
place in_signal.Decr = 6
place in_signal.Wel = 7
place in_signal.SwWel = 8

placed : (w i : ℕ) (h : HwInput) → slice_get (inputs w) i ≡ Some h → place h.signal ≡ i
unfolding place
placed w zero h p = ap (λ x. place x.signal) (sym (same_Some _ _ p))
placed w (suc zero) h p = ap (λ x. place x.signal) (sym (same_Some _ _ p))
placed w (suc (suc zero)) h p = ap (λ x. place x.signal) (sym (same_Some _ _ p))
placed w (suc (suc (suc zero))) h p = ap (λ x. place x.signal) (sym (same_Some _ _ p))
placed w (suc (suc (suc (suc zero)))) h p = ap (λ x. place x.signal) (sym (same_Some _ _ p))
placed w (suc (suc (suc (suc (suc zero))))) h p = ap (λ x. place x.signal) (sym (same_Some _ _ p))
placed w (suc (suc (suc (suc (suc (suc zero)))))) h p = ap (λ x. place x.signal) (sym (same_Some _ _ p))
placed w (suc (suc (suc (suc (suc (suc (suc i))))))) h p = cc

pub one_in_range : (f : Field) → StandsAlone f → AreInRange (f ∷ []) (inputs f.width)
one_in_range f s = record {
  exprs = only (λ g. EachExpr (is_in_range 1 7) (is_in_range 1 7) g) f (exprs_by (is_in_range 1 7) (is_in_range 1 7) f s refl refl refl refl refl refl refl);
  sources = only (λ g. (k : ℕ) → g.data_in ≡ Some k → k < 7) f (λ k p. omega (arith, s.source k p));
  members = only (λ g. (i k : ℕ) → slice_get (members_of g.extra) i ≡ Some k → k < 1) f (λ i k p. omega (arith, s.members i k p));
  owners = each_input (λ h. h.field < 1) f.width (lit< tt) (lit< tt) (lit< tt) (lit< tt) (lit< tt) (lit< tt) (lit< tt);
}

pub one_distinct : (f : Field) → AreDistinct (f ∷ []) (inputs f.width)
one_distinct f = record {
  paths = λ i j g h p q e. at_zero f i g p ∙ sym (at_zero f j h q);
  signals = λ i j h k p q e t. sym (placed f.width i h p) ∙ ap place t ∙ placed f.width j k q;
}
  where
    at_zero : (f : Field) (i : ℕ) (g : Field) → slice_get (f ∷ []) i ≡ Some g → i ≡ 0
    at_zero f zero g p = refl
    at_zero f (suc i) g p = cc

pub one_path : (f : Field) → StandsAlone f → HavePaths (f ∷ [])
one_path f s = only (λ g. IsFieldPath g.path) f s.path

pub one_wide : (f : Field) → StandsAlone f → AreWide (f ∷ []) (inputs f.width)
one_wide f s = record {
  exprs = only (λ g. EachExpr (has_width (f ∷ []) (inputs f.width) 1) (has_width (f ∷ []) (inputs f.width) g.width) g) f
      (exprs_by (has_width (f ∷ []) (inputs f.width) 1) (has_width (f ∷ []) (inputs f.width) f.width) f s refl refl refl refl refl refl (eq-eqb f.width f.width refl));
  sources = only (λ g. (k : ℕ) (h : HwInput) → g.data_in ≡ Some k → slice_get (inputs f.width) k ≡ Some h → h.width ≡ g.width) f
      (λ k h p q. let zeroth : k ≡ 0 = s.source k p in let here : slice_get (inputs f.width) 0 ≡ Some h = subst (λ n. slice_get (inputs f.width) n ≡ Some h) zeroth q in ap (λ x. x.width) (sym (same_Some _ _ here)));
  each_input = λ k h g p q. each_input (λ x. slice_get (f ∷ []) x.field ≡ Some g → x.width ≡ input_width x.signal g.width) f.width (λ e. ap (λ x. x.width) (same_Some _ _ e)) (λ e. refl) (λ e. refl) (λ e. refl) (λ e. refl) (λ e. refl) (λ e. refl) k h p q;
}

pub one_wires : (f : Field) → StandsAlone f → AreWires (f ∷ [])
one_wires f s = record {
  sources = only (λ g. g.wire ≡ true → g.data_in ≢ None) f (λ w. let clash : true ≡ false = sym w ∙ s.stored in cc);
  unwritable = only (λ g. g.wire ≡ true → g.writable ≡ false) f (λ w. let clash : true ≡ false = sym w ∙ s.stored in cc);
  repeated = only (λ g. g.wire ≡ true → g.once ≡ false) f (λ w. let clash : true ≡ false = sym w ∙ s.stored in cc);
  kept = only (λ g. g.wire ≡ true → g.read ≡ Keep) f (λ w. let clash : true ≡ false = sym w ∙ s.stored in cc);
}

pub one_counters : (f : Field) → StandsAlone f → AreCounters (f ∷ [])
one_counters f s = record {
  up = only (λ g. (c : Counter) → g.extra ≡ extra.Counter c → c.up < 2 ^ g.width) f s.up;
  down = only (λ g. (c : Counter) → g.extra ≡ extra.Counter c → c.down < 2 ^ g.width) f s.down;
  stored = only (λ g. is_counter g.extra ≡ true → g.wire ≡ false) f (λ _. s.stored);
  known = only (λ g. is_counter g.extra ≡ true → g.starts_known ≡ true) f s.counter_known;
  overflow = only (λ g. g.shown.overflow ≡ true → is_counter g.extra ≡ true) f s.overflow;
  underflow = only (λ g. g.shown.underflow ≡ true → is_counter g.extra ≡ true) f s.underflow;
}

pub one_interrupts : (f : Field) → StandsAlone f → AreInterrupts (f ∷ [])
one_interrupts f s = record {
  stored = only (λ g. is_intr g.extra ≡ true → g.wire ≡ false) f (λ _. s.stored);
  known = only (λ g. is_intr g.extra ≡ true → g.starts_known ≡ true) f s.intr_known;
  sources = only (λ g. is_intr g.extra ≡ true → g.data_in ≢ None) f s.intr_source;
  members = only (λ x. (i k : ℕ) (g : Field) → slice_get (members_of x.extra) i ≡ Some k → slice_get (f ∷ []) k ≡ Some g → is_intr g.extra ≡ true) f
      (λ i k g p q. only (λ g. is_intr g.extra ≡ true) f (s.member i k p) k g q);
  intr = only (λ g. g.shown.intr ≡ true → members_of g.extra ≢ []) f s.intr;
}

pub one_small : (f : Field) → StandsAlone f → IsSmall (0 ∷ []) (f ∷ [])
one_small f s = record { few_words = lit≤ tt; few_bits = let w : 0 + f.width ≤ 4096 = omega (arith, s.width) in w; few_fields = lit≤ tt }

pub one_members : (f : Field) → StandsAlone f → AreMembers (f ∷ [])
one_members f s = record {
  first = λ n k g at here. listed_first n k g at here;
  rising = only (λ g. (i j a b : ℕ) → i < j → slice_get (members_of g.extra) i ≡ Some a → slice_get (members_of g.extra) j ≡ Some b → a < b) f s.rising;
  apart = λ m n i j k g h p q _ _. at_front m g p ∙ sym (at_front n h q);
}
  where
    at_front : (n : ℕ) (g : Field) → slice_get (f ∷ []) n ≡ Some g → n ≡ 0
    at_front zero g p = refl
    at_front (suc i) g p = cc

    listed_first : (n k : ℕ) (g : Field) → slice_get (f ∷ []) n ≡ Some g → slice_get (members_of g.extra) 0 ≡ Some k → k ≡ n
    listed_first n k g at here = only (λ x. slice_get (members_of x.extra) 0 ≡ Some k → k ≡ 0) f (s.members 0 k) n g at here ∙ sym (at_front n g at)

-- seven numbers that fit the inputs
pub seven_inputs : (w a0 a1 a2 a3 a4 a5 a6 : ℕ) → a0 < 2 ^ w → a1 < 2 → a2 < 2 → a3 < 2 → a4 < 2 → a5 < 2 → a6 < 2 → AreInputs (inputs w) (a0 ∷ a1 ∷ a2 ∷ a3 ∷ a4 ∷ a5 ∷ a6 ∷ [])
seven_inputs w a0 a1 a2 a3 a4 a5 a6 p0 p1 p2 p3 p4 p5 p6 = record { one_each = refl; fit = fit }
  where
    fit : (k v : ℕ) (h : HwInput) → slice_get (inputs w) k ≡ Some h → slice_get (a0 ∷ a1 ∷ a2 ∷ a3 ∷ a4 ∷ a5 ∷ a6 ∷ []) k ≡ Some v → v < 2 ^ h.width
    fit zero v h p q = subst (λ x. v < 2 ^ x.width) (same_Some _ _ p) (subst (λ x. x < 2 ^ w) (same_Some _ _ q) p0)
    fit (suc zero) v h p q = subst (λ x. v < 2 ^ x.width) (same_Some _ _ p) (subst (λ x. x < 2 ^ 1) (same_Some _ _ q) p1)
    fit (suc (suc zero)) v h p q = subst (λ x. v < 2 ^ x.width) (same_Some _ _ p) (subst (λ x. x < 2 ^ 1) (same_Some _ _ q) p2)
    fit (suc (suc (suc zero))) v h p q = subst (λ x. v < 2 ^ x.width) (same_Some _ _ p) (subst (λ x. x < 2 ^ 1) (same_Some _ _ q) p3)
    fit (suc (suc (suc (suc zero)))) v h p q = subst (λ x. v < 2 ^ x.width) (same_Some _ _ p) (subst (λ x. x < 2 ^ 1) (same_Some _ _ q) p4)
    fit (suc (suc (suc (suc (suc zero))))) v h p q = subst (λ x. v < 2 ^ x.width) (same_Some _ _ p) (subst (λ x. x < 2 ^ 1) (same_Some _ _ q) p5)
    fit (suc (suc (suc (suc (suc (suc zero)))))) v h p q = subst (λ x. v < 2 ^ x.width) (same_Some _ _ p) (subst (λ x. x < 2 ^ 1) (same_Some _ _ q) p6)
    fit (suc (suc (suc (suc (suc (suc (suc k))))))) v h p q = cc

pub shown_here : (fields : List Field) (n : ℕ) (f : Field) (signal : OutSignal) → slice_get fields n ≡ Some f → shows f.shown signal ≡ true → is_shown fields n signal ≡ true
shown_here fields n f signal at h = ap (λ o. option_map_or (λ f. shows f.shown signal) o false) at ∙ h

-- a path of one letter
pub letter_path : (t : List ℕ) → t ≡ 102 ∷ [] → IsFieldPath t
letter_path t e = record {
  steps = record { name = 102 ∷ []; element = None } ∷ [];
  some = λ q. cc;
  named = named;
  indexed = indexed;
  joined = e;
}
  where
    named : (i : ℕ) (s : Step) → slice_get (record { name = 102 ∷ []; element = None } ∷ []) i ≡ Some s → is_name s.name ≡ true
    named zero s p = ap (λ x. is_name x.name) (sym (same_Some _ _ p))
    named (suc i) s p = cc

    indexed : (i : ℕ) (s : Step) (ds : List ℕ) → slice_get (record { name = 102 ∷ []; element = None } ∷ []) i ≡ Some s → s.element ≡ Some ds → is_index ds ≡ true
    indexed zero s ds p q = let none : None ≡ Some ds = ap (λ x. x.element) (same_Some _ _ p) ∙ q in cc
    indexed (suc i) s ds p q = cc

pub one_if_small : (n : ℕ) (b : Bool) → n ≡ one_if b → n < 2
one_if_small n true e = omega (arith, e)
one_if_small n false e = omega (arith, e)

pub masked : (w a n : ℕ) → n ≡ 2 ^ w - 1 → bit_and a n < 2 ^ w
masked w a n e = let p : 0 < 2 ^ w = pow_pos w in omega (arith, and_le_r a n, e)
