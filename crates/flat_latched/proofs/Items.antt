-- The latch of an item in its first net.
use Rattle.std.proofs.Common.{◌≡◌, inl, inr, ℕ, ◌≤◌, Bool, true, false, List, Option, Some, None, sym, ◌∙◌, ap, subst}
use Rattle.std.specs.Prelude.{slice_get, MatchOption}
use Rattle.std.proofs.lemmas.Bool.{cases_lt}
use Rattle.bit_base.specs.declared.place.Place.{Place}
use Rattle.flat_design.specs.declared.net.Net.{Net}
use Rattle.flat_design.specs.declared.stmt.FlatStmt.{FlatStmt}
use Rattle.flat_design.specs.declared.item.FlatItem.{FlatItem}
use Rattle.flat_design.specs.declared.item.FlatItem.TheVariants as I
use Rattle.flat_design.specs.Flows.{flow}
use Rattle.flat_design.specs.Systems.{item_flow}
use Rattle.flat_raw.specs.Nets.{AreInRow}
use Rattle.flat_offences.specs.Owners.{AreOwners}
use Rattle.flat_driven.proofs.Inside.{IsInside, drives_inside}
use Rattle.flat_latches.specs.Latches.{IsLatch, HasNoLatch}
use Rattle.flat_paths.proofs.Walks.{path_leaves}
use Rattle.flat_latched.specs.declared.item.NetLatch.{NetLatch}
use Rattle.flat_latched.specs.Latched.{LeavesNet}
use Rattle.flat_latched.specs.Least.{HasNone, IsItemLatch, IsItemAnswer, IsNetOf}
use Rattle.flat_latched.proofs.Rising.{nets_rise}

differ : (b : Bool) → b ≡ true → b ≡ false → ⊥
differ b h k = cc

same_body : (p q : Place) (s t : List ℕ) (a b : FlatStmt) → I.Comb p s a ≡ I.Comb q t b → a ≡ b
same_body p q s t a b e = cc

inside : (nets : List Net) (item : FlatItem) (bit : ℕ) (path : List ℕ) → IsLatch nets item bit path → IsInside nets bit
unfolding item_flow
inside nets item bit path l = drives_inside nets (I.Comb l.place l.targets l.body) bit l.drives

-- each bit has a net
pub never_none : (nets : List Net) (item : FlatItem) (owners : List ℕ) (bit : ℕ) (path : List ℕ) → AreOwners nets owners → IsLatch nets item bit path → slice_get owners bit ≡ None → ⊥
never_none nets item owners bit path own l none = let b = inside nets item bit path l in apart b.0 (sym none ∙ own.all bit b.0 b.1) where
  apart : (n : ℕ) → None ≡ Some n → ⊥
  apart n e = cc

pub item_is : (nets : List Net) (item : FlatItem) (owners : List ℕ) (bit : ℕ) (l : NetLatch) → AreInRow nets → AreOwners nets owners → IsLatch nets item bit l.path.items → slice_get owners bit ≡ Some l.net → IsItemLatch nets item l
item_is nets item owners bit l row own h at = record {
  leaves = record { place = h.place; targets = h.targets; body = h.body; is = h.is; bit = bit; inside = own.only bit l.net at; drives = h.drives; leaves = h.leaves };
  least = λ m path g. nets_rise nets l.net m bit g.bit row (own.only bit l.net at) g.inside (no_earlier m path g);
} where
  no_earlier : (m : ℕ) (path : List ℕ) → (g : LeavesNet nets item m path) → bit ≤ g.bit
  no_earlier m path g = elim (cases_lt g.bit bit) [
    | inr more ↦ more
    | inl less ↦
        let e : g.body ≡ h.body = same_body g.place h.place g.targets h.targets g.body h.body (sym g.is ∙ h.is) in
        absurd (differ ((flow nets h.body).leaves g.bit)
        (ap (λ b. (flow nets b).leaves g.bit) (sym e) ∙ path_leaves nets g.bit g.body path g.leaves)
        (h.least g.bit less (ap (λ b. (flow nets b).drives g.bit) (sym e) ∙ g.drives)))
  ]

-- ---- answers

pub match_some : {A : Type 0} (o : Option A) (x : A) (P : Type 0) (Q : A → Type 0) → o ≡ Some x → MatchOption o P Q → Q x
match_some None x P Q is h = absurd (cc is)
match_some (Some y) x P Q is h = let e : y ≡ x = cc in subst Q e h

pub match_none : {A : Type 0} (o : Option A) (P : Type 0) (Q : A → Type 0) → o ≡ None → MatchOption o P Q → P
match_none None P Q is h = h
match_none (Some y) P Q is h = absurd (cc is)

pub has_none : (nets : List Net) (item : FlatItem) → HasNoLatch nets item → HasNone nets item
has_none nets item none n path g = differ ((flow nets g.body).leaves g.bit) (path_leaves nets g.bit g.body path g.leaves) (none g.place g.targets g.body g.is g.bit g.drives)

pub answer_none : (nets : List Net) (item : FlatItem) (o : Option NetLatch) → o ≡ None → IsItemAnswer nets item o → HasNone nets item
answer_none nets item o is h = subst (IsItemAnswer nets item) is h

pub answer_some : (nets : List Net) (item : FlatItem) (o : Option NetLatch) (l : NetLatch) → o ≡ Some l → IsItemAnswer nets item o → IsItemLatch nets item l
answer_some nets item o l is h = subst (IsItemAnswer nets item) is h

pub net_is : (nets : List Net) (item : FlatItem) (l : NetLatch) → IsItemLatch nets item l → IsNetOf nets item (Some l.net)
net_is nets item l h = record { path = l.path.items; leaves = h.leaves; least = h.least }
