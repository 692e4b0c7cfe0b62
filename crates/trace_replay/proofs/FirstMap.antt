-- The map of the first form is valid.
use Rattle.std.proofs.Common.{◌≡◌, ◌≢◌, ℕ, zero, suc, ◌+◌, ◌^◌, ◌<◌, ◌≤◌, ◌%◌, Bool, true, false, List, [], ◌∷◌, codes, Some, None, slice_get, refl, arith, ap, subst, ◌∙◌, sym, lit<, lit≤}
use Rattle.std.proofs.lemmas.Option.{same_Some}
use Rattle.field_policies.specs.declared.field.Field.{Field}
use Rattle.field_policies.specs.declared.signal.HwExpr.{HwExpr}
use Rattle.field_policies.specs.Fields.{EachExpr, is_in_range, has_width, members_of}
use Rattle.field_policies.specs.FieldPath.{IsFieldPath, Step, is_name, is_index}
use Rattle.field_policies.specs.Maps.{EachField, IsBus, AreInWords, AreResets, AreInRange, AreDistinct, HavePaths, AreWide, AreWires, AreCounters, AreInterrupts, AreMembers, IsSmall}
use Rattle.trace_replay.specs.Blocks.{first_field}

only : (P : Field → Type 0) (f : Field) → P f → EachField (f ∷ []) P
only P f h zero g e = subst P (same_Some _ _ e) h
only P f h (suc i) g e = cc

no_two : (A : Field → Field → Type 0) (f : Field) (i j : ℕ) (g h : Field) → i < j → slice_get (f ∷ []) i ≡ Some g → slice_get (f ∷ []) j ≡ Some h → A g h
no_two A f i zero g h lt p q = absurd (omega (arith, lt))
no_two A f i (suc j) g h lt p q = cc

pub first_bus : IsBus 8 (0 ∷ [])
first_bus = record { width = refl; rising = rising; aligned = aligned }
  where
    rising : (i j a b : ℕ) → i < j → slice_get (0 ∷ []) i ≡ Some a → slice_get (0 ∷ []) j ≡ Some b → a < b
    rising i zero a b lt p q = absurd (omega (arith, lt))
    rising i (suc j) a b lt p q = cc

    aligned : (i a : ℕ) → slice_get (0 ∷ []) i ≡ Some a → a % 1 ≡ 0
    aligned zero a p = ap (λ n. n % 1) (sym (same_Some _ _ p))
    aligned (suc i) a p = cc

pub first_in_words : (r : ℕ) → AreInWords 8 (0 ∷ []) (first_field r ∷ [])
first_in_words r = record {
  there = only (λ g. g.word < 1) (first_field r) (lit< tt);
  some = only (λ g. 1 ≤ g.width) (first_field r) (lit≤ tt);
  inside = only (λ g. g.lsb + g.width ≤ 8) (first_field r) (lit≤ tt);
  ordered = no_two (λ g h. g.word ≤ h.word) (first_field r);
  apart = λ i j g h lt p q. no_two (λ g h. g.word ≡ h.word → g.lsb + g.width ≤ h.lsb) (first_field r) i j g h lt p q;
}

pub first_resets : (r : ℕ) → r < 256 → AreResets (first_field r ∷ [])
first_resets r h = record {
  fits = only (λ g. g.reset < 2 ^ g.width) (first_field r) h;
  unknown = only (λ g. g.starts_known ≡ false → g.reset ≡ 0) (first_field r) (λ e. cc);
  wires = only (λ g. g.wire ≡ true → g.starts_known ≡ true) (first_field r) (λ _. refl);
}

-- a field without expressions
no_exprs : (one all : HwExpr → Bool) (r : ℕ) → EachExpr one all (first_field r)
no_exprs one all r = record {
  sw_gate = λ x p. cc;
  data_gate = λ x p. cc;
  set = λ x p. cc;
  clear = λ x p. cc;
  incr = λ x p. cc;
  decr = λ x p. cc;
  bit_gate = λ x p. cc;
  filter = λ x p. cc;
}

pub first_in_range : (r : ℕ) → AreInRange (first_field r ∷ []) []
first_in_range r = record {
  exprs = only (λ g. EachExpr (is_in_range 1 0) (is_in_range 1 0) g) (first_field r) (no_exprs (is_in_range 1 0) (is_in_range 1 0) r);
  sources = only (λ g. (k : ℕ) → g.data_in ≡ Some k → k < 0) (first_field r) (λ k p. cc);
  members = only (λ g. (i k : ℕ) → slice_get (members_of g.extra) i ≡ Some k → k < 1) (first_field r) (λ i k p. cc);
  owners = λ i h p. cc;
}

pub first_distinct : (r : ℕ) → AreDistinct (first_field r ∷ []) []
first_distinct r = record {
  paths = λ i j g h p q e. at_zero (first_field r) i g p ∙ sym (at_zero (first_field r) j h q);
  signals = λ i j h k p q e t. cc;
}
  where
    at_zero : (f : Field) (i : ℕ) (g : Field) → slice_get (f ∷ []) i ≡ Some g → i ≡ 0
    at_zero f zero g p = refl
    at_zero f (suc i) g p = cc

-- its path has two names
steps : List Step
steps = record { name = codes "c"; element = None } ∷ record { name = codes "v"; element = None } ∷ []

path : IsFieldPath (codes "c.v")
unfolding steps
path = record { steps = steps; some = λ q. cc; named = named; indexed = indexed; joined = refl }
  where
    named : (i : ℕ) (s : Step) → slice_get steps i ≡ Some s → is_name s.name ≡ true
    named zero s p = ap (λ x. is_name x.name) (sym (same_Some _ _ p))
    named (suc zero) s p = ap (λ x. is_name x.name) (sym (same_Some _ _ p))
    named (suc (suc i)) s p = cc

    indexed : (i : ℕ) (s : Step) (ds : List ℕ) → slice_get steps i ≡ Some s → s.element ≡ Some ds → is_index ds ≡ true
    indexed zero s ds p q = let none : None ≡ Some ds = ap (λ x. x.element) (same_Some _ _ p) ∙ q in cc
    indexed (suc zero) s ds p q = let none : None ≡ Some ds = ap (λ x. x.element) (same_Some _ _ p) ∙ q in cc
    indexed (suc (suc i)) s ds p q = cc

pub first_paths : (r : ℕ) → HavePaths (first_field r ∷ [])
first_paths r = only (λ g. IsFieldPath g.path) (first_field r) path

pub first_wide : (r : ℕ) → AreWide (first_field r ∷ []) []
first_wide r = record {
  exprs = only (λ g. EachExpr (has_width (first_field r ∷ []) [] 1) (has_width (first_field r ∷ []) [] g.width) g) (first_field r)
      (no_exprs (has_width (first_field r ∷ []) [] 1) (has_width (first_field r ∷ []) [] 8) r);
  sources = λ i f at k h p q. cc;
  each_input = λ k h f p q. cc;
}

pub first_wires : (r : ℕ) → AreWires (first_field r ∷ [])
first_wires r = record {
  sources = only (λ g. g.wire ≡ true → g.data_in ≢ None) (first_field r) (λ e. cc);
  unwritable = only (λ g. g.wire ≡ true → g.writable ≡ false) (first_field r) (λ e. cc);
  repeated = only (λ g. g.wire ≡ true → g.once ≡ false) (first_field r) (λ e. refl);
  kept = only (λ g. g.wire ≡ true → g.read ≡ (first_field r).read) (first_field r) (λ e. refl);
}

pub first_counters : (r : ℕ) → AreCounters (first_field r ∷ [])
first_counters r = record {
  up = only _ (first_field r) (λ c p. cc);
  down = only _ (first_field r) (λ c p. cc);
  stored = only _ (first_field r) (λ _. refl);
  known = only _ (first_field r) (λ _. refl);
  overflow = only _ (first_field r) (λ e. cc);
  underflow = only _ (first_field r) (λ e. cc);
}

pub first_interrupts : (r : ℕ) → AreInterrupts (first_field r ∷ [])
first_interrupts r = record {
  stored = only _ (first_field r) (λ _. refl);
  known = only _ (first_field r) (λ _. refl);
  sources = only _ (first_field r) (λ e. cc);
  members = only _ (first_field r) (λ i k g p q. cc);
  intr = only _ (first_field r) (λ e. cc);
}

-- none of its fields lists any
none_listed : (r n i k : ℕ) (f : Field) → slice_get (first_field r ∷ []) n ≡ Some f → slice_get (members_of f.extra) i ≡ Some k → ⊥
none_listed r n i k f at here = only (λ g. slice_get (members_of g.extra) i ≡ Some k → ⊥) (first_field r) (λ p. cc) n f at here

pub first_members : (r : ℕ) → AreMembers (first_field r ∷ [])
first_members r = record {
  first = λ n k f at here. absurd (none_listed r n 0 k f at here);
  rising = λ n f at i j a b lt p q. absurd (none_listed r n i a f at p);
  apart = λ m n i j k f g at there p q. absurd (none_listed r m i k f at p);
}

pub first_small : (r : ℕ) → IsSmall (0 ∷ []) (first_field r ∷ [])
first_small r = record { few_words = lit≤ tt; few_bits = lit≤ tt; few_fields = lit≤ tt }
