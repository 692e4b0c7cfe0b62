-- The first place of the neighbours is that of the first clash.
use Rattle.std.proofs.Common.{◌≡◌, ℕ, ◌-◌, ◌≤◌, List, [], ◌∷◌, ◌++◌, length, map, drop, Contains, arith, subst, sym, refl, ap, ◌∙◌, Option, Some, None, IfSome, IfNone}
use Rattle.std.specs.List.Sorted.{IsPermutation, IsNonDecreasingBy}
use Rattle.std.proofs.lemmas.Option.{slice_get_read, same_Some}
use Rattle.std.proofs.lemmas.List.{length-map, length-drop, append-nil}
use Rattle.std.proofs.lemmas.List.Sorted.{IsPermutation-sym}
use Rattle.bit_base.specs.declared.place.Place.{Place}
use Rattle.bit_base.specs.Places.{IsFirst}
use Rattle.rdl_words.specs.declared.word.Word.{Word}
use Rattle.rdl_words.specs.Spots.{Spot}
use Rattle.rdl_words.specs.Words.{spot, key, candidates}
use Rattle.rdl_words.specs.Clashes.{IsClash, IsFirstClash, HasNone}
use Rattle.rdl_words.proofs.Orders.{is_clash, is_candidate}
use Rattle.rdl_words.proofs.Sorted.{in_order}
use Rattle.rdl_words.proofs.Swaps.{clash_stays}

-- ---- a list of at most one word has no neighbours

none_in : (l : List Spot) → length l ≤ 1 → candidates l ≡ []
none_in [] h = refl
none_in (w ∷ []) h = refl
none_in (w ∷ x ∷ xs) h = absurd (omega (arith, h))

pub none_left : (ws : List Word) (at : ℕ) → length ws ≤ at → candidates (map spot (drop (at - 1) ws)) ≡ []
none_left ws at h =
    none_in (map spot (drop (at - 1) ws)) (let e : length (map spot (drop (at - 1) ws)) ≡ length ws - (at - 1) = length-map (drop (at - 1) ws) spot ∙ length-drop (at - 1) ws in omega (arith, e, h))

pub all_noted : (out all : List Place) (ws : List Word) (at : ℕ) → length ws ≤ at → out ++ candidates (map spot (drop (at - 1) ws)) ≡ all → out ≡ all
all_noted out all ws at h e = sym (append-nil out) ∙ ap (λ (xs : List Place). out ++ xs) (sym (none_left ws at h)) ∙ e

-- ---- the first

in_none : (p : Place) → Contains [] p → ⊥
in_none p h = omega (arith, h.1)

-- what is known of a sorted list of words and the places of its neighbours
pub record AreNoted (spots : List Spot) (places : List Place) : Type 0 where
  pub words : List Word
  pub sorted : List Word
  pub given : map spot words ≡ spots
  pub moved : IsPermutation words sorted
  pub order : IsNonDecreasingBy key sorted
  pub noted : places ≡ candidates (map spot sorted)

clash_of : (spots : List Spot) (places : List Place) (p : Place) → AreNoted spots places → Contains places p → IsClash spots p
clash_of spots places p n c =
    subst (λ (xs : List Spot). IsClash xs p) n.given
    (clash_stays n.sorted n.words p (IsPermutation-sym n.words n.sorted n.moved)
    (is_clash (map spot n.sorted) p (in_order n.sorted n.order) (subst (λ (xs : List Place). Contains xs p) n.noted c)))

place_of : (spots : List Spot) (places : List Place) (p : Place) → AreNoted spots places → IsClash spots p → Contains places p
place_of spots places p n c =
    subst (λ (xs : List Place). Contains xs p) (sym n.noted)
    (is_candidate (map spot n.sorted) p (in_order n.sorted n.order)
    (clash_stays n.words n.sorted p n.moved (subst (λ (xs : List Spot). IsClash xs p) (sym n.given) c)))

is_first : (spots : List Spot) (places : List Place) (place : Place) → AreNoted spots places → IsFirst place places → IsFirstClash spots place
is_first spots places place n h = record {
  is = clash_of spots places place n h.among;
  first = λ q f.
      let at : Contains places q = place_of spots places q n f in
      h.before at.0 q (slice_get_read places (length places) at.0 q refl at.1 (sym at.2));
}

pub found_first : (spots : List Spot) (shown places : List Place) (found : Option Place) → shown ≡ places → IfSome found (λ q. IsFirst q shown)
    → AreNoted spots places → (p : Place) → found ≡ Some p → IsFirstClash spots p
found_first spots shown places None same h n p e = cc
found_first spots shown places (Some q) same h n p e =
    is_first spots places p n (subst (λ (r : Place). IsFirst r places) (same_Some q p e) (subst (λ (xs : List Place). IsFirst q xs) same h))

pub found_none : (spots : List Spot) (shown places : List Place) (found : Option Place) → shown ≡ places → IfNone found (shown ≡ [])
    → AreNoted spots places → found ≡ None → HasNone spots
found_none spots shown places None same h n e = λ p f. in_none p (subst (λ (xs : List Place). Contains xs p) (sym same ∙ h) (place_of spots places p n f))
found_none spots shown places (Some q) same h n e = cc
