-- Clashes stay where a list is put into another order.
use Rattle.std.proofs.Common.{◌≡◌, ◌≢◌, ℕ, ◌<◌, Bool, true, false, ◌==◌, if◌then◌else◌, List, length, map, Option, Some, None, slice_get, get_or, refl, sym, ◌∙◌, ap, arith}
use Rattle.std.specs.List.{swap}
use Rattle.std.specs.Option.{option_map}
use Rattle.std.specs.List.Sorted.{IsPermutation}
use Rattle.std.proofs.lemmas.Bool.Decides.{nat_tests}
use Rattle.std.proofs.lemmas.List.Sorted.{IsPermutation-keeps}
use Rattle.std.proofs.lemmas.List.Edits.{Swapped, swapped_from_swap, length-swap}
use Rattle.std.proofs.lemmas.Option.{slice_get_within, get_or_from_slice_get, slice_get_read, slice_get-map, same_Some}
use Rattle.bit_base.specs.declared.place.Place.{Place}
use Rattle.rdl_words.specs.declared.word.Word.{Word}
use Rattle.rdl_words.specs.Spots.{Spot}
use Rattle.rdl_words.specs.Words.{spot}
use Rattle.rdl_words.specs.Clashes.{IsClash}

-- where a position goes
abbrev move : ℕ → ℕ → ℕ → ℕ
move i j k = if k == i then j else if k == j then i else k

reads : (l : List Word) (i j at : ℕ) (a : Word) → at < length l → get_or (swap l i j) at a ≡ a → slice_get (swap l i j) at ≡ Some a
reads l i j at a lt e = slice_get_read (swap l i j) (length l) at a (sym (length-swap l i j)) lt (sym e)

moved_by : (l : List Word) (i j k : ℕ) (a : Word) (t u : Bool) → t ≡ (k == i) → u ≡ (k == j) → i < length l → j < length l → k < length l → get_or l k a ≡ a
    → Swapped (λ m. get_or l m a) (λ m. get_or (swap l i j) m a) i j → slice_get (swap l i j) (if t then j else if u then i else k) ≡ Some a
moved_by l i j k a true u e f bi bj bk v s =
    let same : k ≡ i = grind (arith, nat_tests, e) in
    reads l i j j a bj (s.1 ∙ ap (λ (m : ℕ). get_or l m a) (sym same) ∙ v)
moved_by l i j k a false true e f bi bj bk v s =
    let same : k ≡ j = grind (arith, nat_tests, f) in
    reads l i j i a bi (s.0 ∙ ap (λ (m : ℕ). get_or l m a) (sym same) ∙ v)
moved_by l i j k a false false e f bi bj bk v s =
    let off : k ≡ i → ⊥ = λ q. grind (arith, nat_tests, e, q) in
    let away : k ≡ j → ⊥ = λ q. grind (arith, nat_tests, f, q) in
    reads l i j k a bk (s.2 k off away ∙ v)

moved : (l : List Word) (i j k : ℕ) (a : Word) → i < length l → j < length l → slice_get l k ≡ Some a → slice_get (swap l i j) (move i j k) ≡ Some a
moved l i j k a bi bj e =
    moved_by l i j k a (k == i) (k == j) refl refl bi bj (slice_get_within l k a e) (get_or_from_slice_get l k a a e) (swapped_from_swap l (swap l i j) i j a bi bj refl)

apart_by : (i j k m : ℕ) (t u v w : Bool) → t ≡ (k == i) → u ≡ (k == j) → v ≡ (m == i) → w ≡ (m == j) → k ≢ m
    → (if t then j else if u then i else k) ≢ (if v then j else if w then i else m)
apart_by i j k m true u true w e f g h n q = n (grind (arith, nat_tests, e, g))
apart_by i j k m true u false true e f g h n q = n (grind (arith, nat_tests, e, g, h, q))
apart_by i j k m true u false false e f g h n q = n (grind (arith, nat_tests, e, g, h, q))
apart_by i j k m false true true w e f g h n q = n (grind (arith, nat_tests, e, f, g, q))
apart_by i j k m false true false true e f g h n q = n (grind (arith, nat_tests, f, h))
apart_by i j k m false true false false e f g h n q = n (grind (arith, nat_tests, e, f, g, h, q))
apart_by i j k m false false true w e f g h n q = n (grind (arith, nat_tests, e, f, g, q))
apart_by i j k m false false false true e f g h n q = n (grind (arith, nat_tests, e, f, g, h, q))
apart_by i j k m false false false false e f g h n q = n q

-- the word that a spot is of
pub record Seen (l : List Word) (k : ℕ) (s : Spot) : Type 0 where
  pub word : Word
  pub here : slice_get l k ≡ Some word
  pub same : spot word ≡ s

seen_by : (l : List Word) (k : ℕ) (s : Spot) (o : Option Word) → slice_get l k ≡ o → option_map spot o ≡ Some s → Seen l k s
seen_by l k s None e h = cc
seen_by l k s (Some w) e h = record { word = w; here = e; same = same_Some (spot w) s h }

pub seen : (l : List Word) (k : ℕ) (s : Spot) → slice_get (map spot l) k ≡ Some s → Seen l k s
seen l k s e = seen_by l k s (slice_get l k) refl (sym (slice_get-map spot l k) ∙ e)

shown : (l : List Word) (k : ℕ) (w : Word) (s : Spot) → slice_get l k ≡ Some w → spot w ≡ s → slice_get (map spot l) k ≡ Some s
shown l k w s e same = slice_get-map spot l k ∙ ap (option_map spot) e ∙ ap Some same

moved_spot : (l : List Word) (i j k : ℕ) (s : Spot) → i < length l → j < length l → slice_get (map spot l) k ≡ Some s → slice_get (map spot (swap l i j)) (move i j k) ≡ Some s
moved_spot l i j k s bi bj e = let w : Seen l k s = seen l k s e in shown (swap l i j) (move i j k) w.word s (moved l i j k w.word bi bj w.here) w.same

swapped : (p : Place) (l : List Word) (i j : ℕ) → i < length l → j < length l → IsClash (map spot l) p → IsClash (map spot (swap l i j)) p
swapped p l i j bi bj c = record {
  first = move i j c.first;
  second = move i j c.second;
  a = c.a;
  b = c.b;
  apart = apart_by i j c.first c.second (c.first == i) (c.first == j) (c.second == i) (c.second == j) refl refl refl refl c.apart;
  here = moved_spot l i j c.first c.a bi bj c.here;
  there = moved_spot l i j c.second c.b bi bj c.there;
  same = c.same;
  place = c.place;
}

pub clash_stays : (xs ys : List Word) (p : Place) → IsPermutation xs ys → IsClash (map spot xs) p → IsClash (map spot ys) p
clash_stays xs ys p same c = IsPermutation-keeps xs (λ (l : List Word). IsClash (map spot l) p) c (λ l i j bi bj h. swapped p l i j bi bj h) ys same
