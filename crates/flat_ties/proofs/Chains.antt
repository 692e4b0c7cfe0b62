-- Chains of plain port connections.
use Rattle.std.proofs.Common.{◌≡◌, ◌⊎◌, inl, inr, ℕ, zero, suc, ◌+◌, ◌<◌, ◌≤◌, Bool, true, false, List, [], ◌∷◌, ◌++◌, length, replicate, Option, Some, None, refl, sym, ◌∙◌, ap, subst, arith}
use Rattle.std.specs.Prelude.{slice_get, slice_set}
use Rattle.std.proofs.lemmas.List.{length-set, length-replicate}
use Rattle.std.proofs.lemmas.Bool.{cases_lt}
use Rattle.std.proofs.lemmas.Option.{slice_get-get_or}
use Rattle.flat_drives.proofs.Steps.{pushed_at}
use Rattle.bit_base.specs.Operators.{count_of_true}
use Rattle.flat_design.specs.declared.net.Net.{Net}
use Rattle.flat_design.specs.declared.item.FlatItem.{FlatItem}
use Rattle.flat_design.specs.Bits.{net_at}
use Rattle.flat_drives.specs.Drives.{is_input}
use Rattle.flat_flows.specs.Tables.{in_table}
use Rattle.flat_sets.proofs.SetLemmas.{count_more, none_true}
use Rattle.flat_ties.specs.Ties.{tied, net_in}
use Rattle.flat_ties.specs.Sources.{IsInner, LeadsTo, IsSource, IsSourceOf, AreSources}
use Rattle.flat_ties.specs.Steps.{IsOnWay}

some_same : {A : Type 0} {a b : A} → Some a ≡ Some b → a ≡ b
some_same {A} {a} {b} e = cc

no_some : {A : Type 0} {a : A} (o : Option A) → o ≡ None → o ≡ Some a → ⊥
no_some {A} {a} o e h = cc

both : (a : Bool) → a ≡ true → a ≡ false → ⊥
both a h k = cc

-- ---- one source

ends_alike : (nets : List Net) (items : List FlatItem) (m a b : ℕ) (xs ys : List ℕ) → LeadsTo nets items m xs a → LeadsTo nets items m ys b → a ≡ b
ends_alike nets items m a b [] [] h k = sym h.0 ∙ k.0
ends_alike nets items m a b [] (n ∷ ys) h k = absurd (both _ h.1 k.0.inner)
ends_alike nets items m a b (n ∷ xs) [] h k = absurd (both _ k.1 h.0.inner)
ends_alike nets items m a b (n ∷ xs) (l ∷ ys) h k = ends_alike nets items n a b xs ys h.1.1 (subst (λ x. LeadsTo nets items x ys b) (some_same (sym k.1.0 ∙ h.1.0)) k.1.1)

pub one_source : (nets : List Net) (items : List FlatItem) (m a b : ℕ) → IsSource nets items m a → IsSource nets items m b → a ≡ b
one_source nets items m a b h k = ends_alike nets items m a b h.chain k.chain h.leads k.leads

pub own_source : (nets : List Net) (items : List FlatItem) (m : ℕ) → is_input (net_at nets m).kind ≡ true → IsSource nets items m m
own_source nets items m h = record { chain = []; leads = (refl, h) }

-- ---- one step

pub source_back : (nets : List Net) (items : List FlatItem) (m n source : ℕ) → IsInner nets m → tied items m ≡ Some n → IsSource nets items n source → IsSource nets items m source
source_back nets items m n source h t s = record { chain = n ∷ s.chain; leads = (h, (t, s.leads)) }

onward_by : (nets : List Net) (items : List FlatItem) (m n source : ℕ) (chain : List ℕ) → is_input (net_at nets m).kind ≡ false → tied items m ≡ Some n → LeadsTo nets items m chain source → IsSource nets items n source
onward_by nets items m n source [] h t l = absurd (both _ l.1 h)
onward_by nets items m n source (k ∷ chain) h t l = record { chain = chain; leads = subst (λ x. LeadsTo nets items x chain source) (some_same (sym l.1.0 ∙ t)) l.1.1 }

untied : (nets : List Net) (items : List FlatItem) (m source : ℕ) (chain : List ℕ) → is_input (net_at nets m).kind ≡ false → tied items m ≡ None → LeadsTo nets items m chain source → ⊥
untied nets items m source [] h t l = both _ l.1 h
untied nets items m source (k ∷ chain) h t l = no_some _ t l.1.0

outside : (nets : List Net) (items : List FlatItem) (m source : ℕ) (chain : List ℕ) → is_input (net_at nets m).kind ≡ false → length nets ≤ m → LeadsTo nets items m chain source → ⊥
outside nets items m source [] h t l = both _ l.1 h
outside nets items m source (k ∷ chain) h t l = let low : m < length nets = l.0.there in omega arith

-- a set of nets that has each net to which one of its nets is tied, and no top input
closed_ends : (nets : List Net) (items : List FlatItem) (set : ℕ → Bool) → ((m : ℕ) → set m ≡ true → IsInner nets m) → ((m n : ℕ) → set m ≡ true → tied items m ≡ Some n → set n ≡ true)
    → (m source : ℕ) (chain : List ℕ) → set m ≡ true → LeadsTo nets items m chain source → ⊥
closed_ends nets items set inner next m source [] at l = let i = inner m at in both _ l.1 i.inner
closed_ends nets items set inner next m source (n ∷ chain) at l = closed_ends nets items set inner next n source chain (next m n at l.1.0) l.1.1

-- ---- tables

pub in_set : (table : List Bool) (k m : ℕ) → k < length table → in_table (slice_set table k true) m ≡ true → (in_table table m ≡ true) ⊎ (m ≡ k)
in_set [] k m low h = absurd (omega arith)
in_set (x ∷ table) zero zero low h = inr refl
in_set (x ∷ table) zero (suc m) low h = inl h
in_set (x ∷ table) (suc k) zero low h = inl h
in_set (x ∷ table) (suc k) (suc m) low h = elim (in_set table k m (omega arith) h) [ inl old ↦ inl old | inr e ↦ inr (ap suc e) ]

pub kept_in : (table : List Bool) (k m : ℕ) → in_table table m ≡ true → in_table (slice_set table k true) m ≡ true
kept_in [] k m h = h
kept_in (x ∷ table) zero zero h = refl
kept_in (x ∷ table) zero (suc m) h = h
kept_in (x ∷ table) (suc k) zero h = h
kept_in (x ∷ table) (suc k) (suc m) h = kept_in table k m h

pub put_in : (table : List Bool) (k : ℕ) → k < length table → in_table (slice_set table k true) k ≡ true
put_in [] k low = absurd (omega arith)
put_in (x ∷ table) zero low = refl
put_in (x ∷ table) (suc k) low = put_in table k (omega arith)

was_true : (table : List Bool) (k : ℕ) → slice_get table k ≡ Some true → in_table table k ≡ true
was_true [] k h = absurd (cc h)
was_true (x ∷ table) zero h = cc h
was_true (x ∷ table) (suc k) h = was_true table k h

none_in : (n m : ℕ) → in_table (replicate n false) m ≡ true → ⊥
none_in zero m h = cc h
none_in (suc n) zero h = cc h
none_in (suc n) (suc m) h = none_in n m h

all_in : (table : List Bool) (m : ℕ) → length table ≤ count_of_true table → m < length table → in_table table m ≡ true
all_in [] m full low = absurd (omega arith)
all_in (true ∷ table) zero full low = refl
all_in (true ∷ table) (suc m) full low = all_in table m (omega arith) (omega arith)
all_in (false ∷ table) m full low = let w = within table in absurd (omega arith) where
  within : (table : List Bool) → count_of_true table ≤ length table
  within [] = omega arith
  within (true ∷ table) = let h = within table in omega arith
  within (false ∷ table) = let h = within table in omega arith

-- ---- the way

pub way_start : (nets : List Net) (items : List FlatItem) (net : ℕ) (seen : List Bool) → seen ≡ replicate (length nets) false → IsOnWay nets items net net 0 seen
way_start nets items net seen e = record {
  long = ap length e ∙ length-replicate (length nets) false;
  counted = ap count_of_true e ∙ none_true (length nets);
  inner = λ m h. absurd (none_in (length nets) m (ap (λ t. in_table t m) (sym e) ∙ h));
  next = λ m n h t. absurd (none_in (length nets) m (ap (λ t. in_table t m) (sym e) ∙ h));
  onward = λ source s. s;
  back = λ source s. s;
}

pub way_on : (nets : List Net) (items : List FlatItem) (net at next steps : ℕ) (seen seen' : List Bool) → IsOnWay nets items net at steps seen → is_input (net_at nets at).kind ≡ false → at < length seen → slice_get seen at ≡ Some false → seen' ≡ slice_set seen at true → tied items at ≡ Some next
    → IsOnWay nets items net next (steps + 1) seen'
way_on nets items net at next steps seen seen' way out low fresh e t =
    let long : length seen ≡ length nets = way.long in
    let counted : count_of_true seen ≡ steps = way.counted in
    let here : IsInner nets at = record { there = omega arith; inner = out } in
    record {
      long = ap length e ∙ length-set seen at true ∙ long;
      counted = let m : count_of_true seen' ≡ count_of_true seen + 1 = ap count_of_true e ∙ count_more seen at fresh in omega arith;
      inner = λ m h. elim (in_set seen at m low (ap (λ t. in_table t m) (sym e) ∙ h)) [ inl old ↦ way.inner m old | inr q ↦ subst (IsInner nets) (sym q) here ];
      next = λ m n h u. elim (in_set seen at m low (ap (λ t. in_table t m) (sym e) ∙ h)) [
        | inl old ↦ elim (way.next m n old u) [ inl o ↦ inl (ap (λ t. in_table t n) e ∙ kept_in seen at n o) | inr q ↦ inl (ap (λ t. in_table t n) e ∙ ap (in_table (slice_set seen at true)) q ∙ put_in seen at low) ]
        | inr q ↦ inr (some_same (sym u ∙ ap (tied items) q ∙ t))
      ];
      onward = λ source s. let r = way.onward source s in onward_by nets items at next source r.chain out t r.leads;
      back = λ source s. way.back source (source_back nets items at next source here t s);
    }

pub way_found : (nets : List Net) (items : List FlatItem) (net at steps : ℕ) (seen : List Bool) → IsOnWay nets items net at steps seen → is_input (net_at nets at).kind ≡ true → IsSource nets items net at
way_found nets items net at steps seen way h = way.back at (own_source nets items at h)

closed_way : (nets : List Net) (items : List FlatItem) (net at steps : ℕ) (seen : List Bool) → IsOnWay nets items net at steps seen → in_table seen at ≡ true → (source : ℕ) → IsSource nets items net source → ⊥
closed_way nets items net at steps seen way h source s =
    let r = way.onward source s in
    closed_ends nets items (in_table seen) way.inner (λ m n k t. elim (way.next m n k t) [ inl old ↦ old | inr q ↦ ap (in_table seen) q ∙ h ]) at source r.chain h r.leads

pub way_round : (nets : List Net) (items : List FlatItem) (net at steps : ℕ) (seen : List Bool) → IsOnWay nets items net at steps seen → slice_get seen at ≡ Some true → (source : ℕ) → IsSource nets items net source → ⊥
way_round nets items net at steps seen way h source s = closed_way nets items net at steps seen way (was_true seen at h) source s

pub way_out : (nets : List Net) (items : List FlatItem) (net at steps : ℕ) (seen : List Bool) → IsOnWay nets items net at steps seen → is_input (net_at nets at).kind ≡ false → length seen ≤ at → (source : ℕ) → IsSource nets items net source → ⊥
way_out nets items net at steps seen way out high source s =
    let r = way.onward source s in
    let long : length seen ≡ length nets = way.long in
    outside nets items at source r.chain out (omega arith) r.leads

pub way_untied : (nets : List Net) (items : List FlatItem) (net at steps : ℕ) (seen : List Bool) → IsOnWay nets items net at steps seen → is_input (net_at nets at).kind ≡ false → tied items at ≡ None → (source : ℕ) → IsSource nets items net source → ⊥
way_untied nets items net at steps seen way out t source s = let r = way.onward source s in untied nets items at source r.chain out t r.leads

out_is_none : (nets : List Net) (at : ℕ) → length nets ≤ at → is_input (net_at nets at).kind ≡ false
out_is_none [] at h = refl
out_is_none (n ∷ nets) zero h = absurd (omega arith)
out_is_none (n ∷ nets) (suc at) h = out_is_none nets at (omega arith)

-- all were seen
pub way_ended : (nets : List Net) (items : List FlatItem) (net at steps : ℕ) (seen : List Bool) → IsOnWay nets items net at steps seen → length nets ≤ steps → (source : ℕ) → IsSource nets items net source → ⊥
way_ended nets items net at steps seen way full source s =
    let long : length seen ≡ length nets = way.long in
    let counted : count_of_true seen ≡ steps = way.counted in
    by (cases at (length seen)) where
      cases : (a b : ℕ) → (a < b) ⊎ (b ≤ a)
      cases a b = cases_lt a b

      by : (at < length seen) ⊎ (length seen ≤ at) → ⊥
      by (inl low) = closed_way nets items net at steps seen way (all_in seen at (omega arith) low) source s
      by (inr high) = way_out nets items net at steps seen way (out_is_none nets at (omega arith)) high source s

-- ---- the table

cases : (a b : ℕ) → (a < b) ⊎ (b ≤ a)
cases a b = cases_lt a b

read_at : (table : List (Option ℕ)) (m : ℕ) → m < length table → slice_get table m ≡ Some (net_in table m)
read_at table m low = slice_get-get_or table m None low

past_end : (table : List (Option ℕ)) (m : ℕ) → length table ≤ m → net_in table m ≡ None
past_end [] m h = refl
past_end (x ∷ table) zero h = absurd (omega arith)
past_end (x ∷ table) (suc m) h = past_end table m (omega arith)

pub all_sources : (nets : List Net) (items : List FlatItem) (table : List (Option ℕ)) → length table ≡ length nets → ((m : ℕ) (o : Option ℕ) → slice_get table m ≡ Some o → IsSourceOf nets items m o) → AreSources nets items table
all_sources nets items table long each m = by (cases m (length table)) where
  by : (m < length table) ⊎ (length table ≤ m) → IsSourceOf nets items m (net_in table m)
  by (inl low) = each m (net_in table m) (read_at table m low)
  by (inr high) = subst (IsSourceOf nets items m) (sym (past_end table m high)) (λ source s. outside nets items m source s.chain (out_is_none nets m (omega arith)) (omega arith) s.leads)

pub emptied : (n : ℕ) (old mid new : List Bool) → old ≡ replicate n false → length mid ≡ length old → new ≡ replicate (length mid) false → new ≡ replicate n false
emptied n old mid new e long is = is ∙ ap (λ k. replicate k false) (long ∙ ap length e ∙ length-replicate n false)

pub one_more : (nets : List Net) (items : List FlatItem) (out out' : List (Option ℕ)) (number : ℕ) (o : Option ℕ) → length out ≡ number → out' ≡ out ++ o ∷ [] → ((m : ℕ) (p : Option ℕ) → slice_get out m ≡ Some p → IsSourceOf nets items m p) → IsSourceOf nets items number o
    → (m : ℕ) (p : Option ℕ) → slice_get out' m ≡ Some p → IsSourceOf nets items m p
one_more nets items out out' number o long is each new m p at = elim (pushed_at out o m p (ap (λ l. slice_get l m) (sym is) ∙ at)) [
  | inl old ↦ each m p old
  | inr now ↦ subst (λ k. IsSourceOf nets items k p) (sym long ∙ sym now.0) (subst (IsSourceOf nets items number) now.1 new)
]
