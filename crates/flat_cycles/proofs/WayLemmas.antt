-- The way back along visits.
use Rattle.std.proofs.Common.{◌≡◌, ℕ, zero, suc, ◌+◌, ◌<◌, ◌≤◌, List, [], ◌∷◌, Option, Some, None, slice_get, true, false, inl, inr, length, refl, sym, ◌∙◌, ap, subst, arith}
use Rattle.std.specs.Prelude.{◌==◌, ◌||◌, slice_index_or}
use Rattle.std.proofs.lemmas.Bool.{cases_Bool}
use Rattle.std.proofs.lemmas.Bool.Decides.{nat_tests}
use Rattle.flat_orders.specs.Cycles.{AllFrom}
use Rattle.flat_orders.specs.Orders.{among}
use Rattle.flat_loops.specs.Graphs.{Graph, leads, LeadsOver}
use Rattle.flat_loops.proofs.FeedLemmas.{inside, one_item}
use Rattle.flat_cycles.specs.declared.visit.Visit.{Visit}
use Rattle.flat_cycles.specs.Visits.{IsFrom, AreComing, IsWay}
use Rattle.flat_cycles.specs.Rounds.{StandOnce}

-- from the first node, or from that of a visit, over these to the next
abbrev pub Comes : Graph → ℕ → List Visit → Option ℕ → List ℕ → ℕ → Type 0
Comes graph first visits None ws next = LeadsOver graph first ws next
Comes graph first visits (Some p) ws next = (u : Visit) → slice_get visits p ≡ Some u → LeadsOver graph u.node ws next

abbrev pub StandsIn : List Visit → Option ℕ → Type 0
StandsIn visits None = Unit {0}
StandsIn visits (Some p) = p < length visits

-- how far it is to the first node
abbrev pub far : Option ℕ → ℕ
far None = 0
far (Some p) = p + 1

-- a visit at this place or behind it is of the node
abbrev pub IsVisitedFrom : List Visit → ℕ → ℕ → Type 0
IsVisitedFrom visits low k = (q : ℕ) × ((v : Visit) × ((slice_get visits q ≡ Some v) × ((v.node ≡ k) × (low ≤ q))))

pub record IsBackTo (graph : Graph) (first : ℕ) (visits : List Visit) (place : ℕ) (at : Option ℕ) (ws : List ℕ) : Type 0 where
  pub comes : (v : Visit) (next : ℕ) → slice_get visits place ≡ Some v → leads graph v.node next ≡ true → Comes graph first visits at ws next
  pub high : AllFrom first ws
  pub apart : among first ws ≡ false
  pub once : StandOnce ws
  pub later : (k : ℕ) → among k ws ≡ true → IsVisitedFrom visits (far at) k
  pub stands : StandsIn visits at

pub back_start : (graph : Graph) (first : ℕ) (visits : List Visit) (place : ℕ) → place < length visits → IsBackTo graph first visits place (Some place) []
back_start graph first visits place h = record { comes = λ v next at on u here. subst (λ (w : Visit). leads graph w.node next ≡ true) (one_item (slice_get visits place) v u at here) on; high = tt; apart = refl; once = tt; later = λ k on. absurd (cc on); stands = h }

come_on : (graph : Graph) (first : ℕ) (visits : List Visit) (p : ℕ) (x : Visit) (ws : List ℕ) (next : ℕ) (from : Option ℕ) → IsFrom graph first visits p x.node from → LeadsOver graph x.node ws next → Comes graph first visits from (x.node ∷ ws) next
come_on graph first visits p x ws next None f h = (f, h)
come_on graph first visits p x ws next (Some q) f h = λ u at. (subst (λ (w : Visit). leads graph w.node x.node ≡ true) (one_item (slice_get visits q) f.0 u f.1.0 at) f.1.1.1, h)

stand_on : (graph : Graph) (first : ℕ) (visits : List Visit) (p node : ℕ) (from : Option ℕ) → IsFrom graph first visits p node from → StandsIn visits from
stand_on graph first visits p node None f = tt
stand_on graph first visits p node (Some q) f = inside visits q f.0 f.1.0

pub nearer : (graph : Graph) (first : ℕ) (visits : List Visit) (p node : ℕ) (from : Option ℕ) → IsFrom graph first visits p node from → far from < p + 1
nearer graph first visits p node None f = omega arith
nearer graph first visits p node (Some q) f = let h : q < p = f.1.1.0 in omega arith

not_yet : (graph : Graph) (first : ℕ) (visits : List Visit) (p : ℕ) (x : Visit) (ws : List ℕ) → AreComing graph first visits → slice_get visits p ≡ Some x → ((k : ℕ) → among k ws ≡ true → IsVisitedFrom visits (p + 1) k) → among x.node ws ≡ false
not_yet graph first visits p x ws are here later = elim (cases_Bool (among x.node ws)) [
  | inl on ↦ (let f = later x.node on in let e : f.0 ≡ p = are.once f.0 p f.1.0 x f.1.1.0 here f.1.1.1.0 in let h : p + 1 ≤ f.0 = f.1.1.1.1 in absurd (omega arith))
  | inr off ↦ off
]

later_more : (visits : List Visit) (p : ℕ) (x : Visit) (ws : List ℕ) (low : ℕ) → low < p + 1 → slice_get visits p ≡ Some x → ((k : ℕ) → among k ws ≡ true → IsVisitedFrom visits (p + 1) k) → (k : ℕ) → among k (x.node ∷ ws) ≡ true → IsVisitedFrom visits low k
later_more visits p x ws low h here later k on = elim (cases_Bool (x.node == k)) [
  | inl same ↦ (p, (x, (here, (grind (arith, nat_tests), omega arith))))
  | inr off ↦ (let f = later k (sym (ap (λ b. b || among k ws) off) ∙ on) in let far_on : p + 1 ≤ f.0 = f.1.1.1.1 in (f.0, (f.1.0, (f.1.1.0, (f.1.1.1.0, omega arith)))))
]

apart_more : (first n : ℕ) (ws : List ℕ) → first < n → among first ws ≡ false → among first (n ∷ ws) ≡ false
apart_more first n ws h off = elim (cases_Bool (n == first)) [
  | inl same ↦ (let e : n ≡ first = grind (arith, nat_tests) in absurd (omega arith))
  | inr other ↦ ap (λ b. b || among first ws) other ∙ off
]

pub back_more : (graph : Graph) (first : ℕ) (visits : List Visit) (place p : ℕ) (x : Visit) (at : Option ℕ) (ws : List ℕ) → AreComing graph first visits → at ≡ Some p → slice_get visits p ≡ Some x → IsBackTo graph first visits place at ws → IsBackTo graph first visits place x.from (x.node ∷ ws)
back_more graph first visits place p x at ws are is here back = let b : IsBackTo graph first visits place (Some p) ws = subst (λ o. IsBackTo graph first visits place o ws) is back in record {
  comes = λ v next there on. come_on graph first visits p x ws next x.from (are.from p x here) (b.comes v next there on x here);
  high = (let h : first < x.node = are.high p x here in omega arith, b.high);
  apart = apart_more first x.node ws (are.high p x here) b.apart;
  once = (not_yet graph first visits p x ws are here b.later, b.once);
  later = later_more visits p x ws (far x.from) (nearer graph first visits p x.node x.from (are.from p x here)) here b.later;
  stands = stand_on graph first visits p x.node x.from (are.from p x here);
}

pub back_end : (graph : Graph) (first : ℕ) (visits : List Visit) (place : ℕ) (at : Option ℕ) (ws : List ℕ) → ((p : ℕ) → at ≡ Some p → ⊥) → IsBackTo graph first visits place at ws → IsWay graph first visits place ws
back_end graph first visits place None ws out back = record { leads_on = back.comes; high = back.high; once = (back.apart, back.once) }
back_end graph first visits place (Some p) ws out back = absurd (out p refl)

pub stands_at : (visits : List Visit) (at : Option ℕ) (p : ℕ) → at ≡ Some p → StandsIn visits at → p < length visits
stands_at visits None p is h = absurd (cc is)
stands_at visits (Some q) p is h = let e : q ≡ p = cc is in omega arith

pub at_index : {A : Type 0} (xs : List A) (p : ℕ) (d : A) → p < length xs → slice_get xs p ≡ Some (slice_index_or xs p d)
at_index [] p d h = absurd (omega arith)
at_index (x ∷ xs) zero d h = refl
at_index (x ∷ xs) (suc p) d h = at_index xs p d (omega arith)
