-- Words under the effects of writes and reads.
use Rattle.std.proofs.Common.{◌≡◌, ℕ, Bool, true, false, not, ◌&&◌, ◌||◌, List, [], ◌∷◌, length, map, replicate, refl, sym, ◌∙◌, ap, arith, Result, Ok, Err}
use Rattle.std.specs.Result.{IfOk}
use Rattle.std.specs.declared.vec.Vec.{Vec}
use Rattle.std.specs.declared.alloc.Global.{Global}
use Rattle.bit_base.specs.Operators.{each_place, is_any, are_all}
use Rattle.gate_graph.specs.declared.wires.Wire.{Wire}
use Rattle.gate_graph.specs.declared.nodes.Node.{Node}
use Rattle.gate_graph.specs.Gates.{AreOf, Means, Extends}
use Rattle.gate_graph.proofs.GateLemmas.{extends_more}
use Rattle.std.specs.Prelude.{◌+◌}
use Rattle.word_gates.specs.Words.{values, Shows}
use Rattle.word_gates.proofs.RippleLemmas.{shows_repeated}
use Rattle.word_gates.proofs.WordLemmas.{shows_itself, shows_same, same_length, length-values}

pub place_inverse : (f : Bool → Bool → Bool) (xs ys : List Bool) → each_place f xs (map not ys) ≡ each_place (λ x y. f x (not y)) xs ys
place_inverse f [] ys = refl
place_inverse f (x ∷ xs) [] = refl
place_inverse f (x ∷ xs) (y ∷ ys) = ap (λ rest. f x (not y) ∷ rest) (place_inverse f xs ys)

place_second : (xs ys : List Bool) → length xs ≡ length ys → ys ≡ each_place (λ x y. y) xs ys
place_second [] [] h = refl
place_second [] (y ∷ ys) h = absurd (omega (arith, h))
place_second (x ∷ xs) [] h = absurd (omega (arith, h))
place_second (x ∷ xs) (y ∷ ys) h = ap (λ rest. y ∷ rest) (place_second xs ys (omega (arith, h)))

place_constant : (b : Bool) (xs ys : List Bool) → length xs ≡ length ys → replicate (length xs) b ≡ each_place (λ x y. b) xs ys
place_constant b [] ys h = refl
place_constant b (x ∷ xs) [] h = absurd (omega (arith, h))
place_constant b (x ∷ xs) (y ∷ ys) h = ap (λ rest. b ∷ rest) (place_constant b xs ys (omega (arith, h)))

map_same : (xs : List Bool) → xs ≡ map (λ x. x) xs
map_same [] = refl
map_same (x ∷ xs) = ap (λ rest. x ∷ rest) (map_same xs)

map_constant : (b : Bool) (xs : List Bool) → replicate (length xs) b ≡ map (λ x. b) xs
map_constant b [] = refl
map_constant b (x ∷ xs) = ap (λ rest. b ∷ rest) (map_constant b xs)

pub shows_second : (nodes : List Node) (a b : List Wire) → AreOf b nodes → length a ≡ length b → Shows nodes b (λ v. each_place (λ x y. y) (values v a) (values v b))
shows_second nodes a b of h = shows_same nodes b _ _ (shows_itself nodes b of) (λ v r. place_second (values v a) (values v b) (same_length v a b h))

pub shows_constant : (nodes : List Node) (wires a b : List Wire) (bit : Bool) (n : ℕ) → Shows nodes wires (λ v. replicate n bit) → n ≡ length a → length a ≡ length b → Shows nodes wires (λ v. each_place (λ x y. bit) (values v a) (values v b))
shows_constant nodes wires a b bit n s e h = shows_same nodes wires _ _ s (λ v r. ap (λ m. replicate m bit) (e ∙ sym (length-values v a)) ∙ place_constant bit (values v a) (values v b) (same_length v a b h))

pub shows_kept : (nodes : List Node) (a : List Wire) → AreOf a nodes → Shows nodes a (λ v. map (λ x. x) (values v a))
shows_kept nodes a of = shows_same nodes a _ _ (shows_itself nodes a of) (λ v r. map_same (values v a))

pub shows_filled : (nodes : List Node) (wires a : List Wire) (bit : Bool) (n : ℕ) → Shows nodes wires (λ v. replicate n bit) → n ≡ length a → Shows nodes wires (λ v. map (λ x. bit) (values v a))
shows_filled nodes wires a bit n s e = shows_same nodes wires _ _ s (λ v r. ap (λ m. replicate m bit) (e ∙ sym (length-values v a)) ∙ map_constant bit (values v a))

-- the answers of calls without gates
pub copied_shows : {E : Type 0} (r : Result (Vec Wire Global) E) (nodes : List Node) (a b : List Wire) → IfOk r (λ w. w.items ≡ b) → AreOf b nodes → length a ≡ length b → IfOk r (λ w. Shows nodes w.items (λ v. each_place (λ x y. y) (values v a) (values v b)))
copied_shows (Ok w) nodes a b e of h = rw e (shows_second nodes a b of h)
copied_shows (Err x) nodes a b e of h = tt

pub kept_shows : {E : Type 0} (r : Result (Vec Wire Global) E) (nodes : List Node) (a : List Wire) → IfOk r (λ w. w.items ≡ a) → AreOf a nodes → IfOk r (λ w. Shows nodes w.items (λ v. map (λ x. x) (values v a)))
kept_shows (Ok w) nodes a e of = rw e (shows_kept nodes a of)
kept_shows (Err x) nodes a e of = tt

pub repeated_shows : {E : Type 0} (r : Result (Vec Wire Global) E) (nodes : List Node) (w : Wire) (bit : Bool) (n : ℕ) → IfOk r (λ u. u.items ≡ replicate n w) → Means nodes w (λ v. bit) → IfOk r (λ u. Shows nodes u.items (λ v. replicate n bit))
repeated_shows (Ok u) nodes w bit n e m = rw e (shows_repeated nodes w (λ v. bit) n m)
repeated_shows (Err x) nodes w bit n e m = tt

pub constant_shows : {E : Type 0} (r : Result (Vec Wire Global) E) (nodes : List Node) (a b : List Wire) (bit : Bool) (n : ℕ) → IfOk r (λ u. Shows nodes u.items (λ v. replicate n bit)) → n ≡ length a → length a ≡ length b → IfOk r (λ u. Shows nodes u.items (λ v. each_place (λ x y. bit) (values v a) (values v b)))
constant_shows (Ok u) nodes a b bit n s e h = shows_constant nodes u.items a b bit n s e h
constant_shows (Err x) nodes a b bit n s e h = tt

pub filled_shows : {E : Type 0} (r : Result (Vec Wire Global) E) (nodes : List Node) (a : List Wire) (bit : Bool) (n : ℕ) → IfOk r (λ u. Shows nodes u.items (λ v. replicate n bit)) → n ≡ length a → IfOk r (λ u. Shows nodes u.items (λ v. map (λ x. bit) (values v a)))
filled_shows (Ok u) nodes a bit n s e = shows_filled nodes u.items a bit n s e
filled_shows (Err x) nodes a bit n s e = tt

pub map_alike : (f g : Bool → Bool) (xs : List Bool) → ((x : Bool) → f x ≡ g x) → map f xs ≡ map g xs
map_alike f g [] same = refl
map_alike f g (x ∷ xs) same = ap (λ y. y ∷ map f xs) (same x) ∙ ap (λ rest. g x ∷ rest) (map_alike f g xs same)

-- the same facts in another order
pub written_bits : (t w a s : Bool) → (w && (t && (a && not s))) ≡ (t && w && a && not s)
written_bits true true a s = refl
written_bits true false a s = refl
written_bits false true a s = refl
written_bits false false a s = refl

pub read_bits : (r a b : Bool) → ((a && b) && r) ≡ (r && a && b)
read_bits true true true = refl
read_bits true true false = refl
read_bits true false b = refl
read_bits false true true = refl
read_bits false true false = refl
read_bits false false b = refl

pub hardware_bits : (first software : Bool) → not (not first && software) ≡ (first || not software)
hardware_bits true software = refl
hardware_bits false software = refl

pub covered_bits : (xs : List Bool) → not (is_any (map not xs)) ≡ are_all xs
covered_bits [] = refl
covered_bits (true ∷ xs) = covered_bits xs
covered_bits (false ∷ xs) = refl

swapped : (a b c : Bool) → (a && (b && c)) ≡ (a && c && b)
swapped true true true = refl
swapped true true false = refl
swapped true false true = refl
swapped true false false = refl
swapped false true true = refl
swapped false true false = refl
swapped false false true = refl
swapped false false false = refl

turned : (a b c : Bool) → (a && (b && c)) ≡ (b && c && a)
turned true true true = refl
turned true true false = refl
turned true false true = refl
turned true false false = refl
turned false true true = refl
turned false true false = refl
turned false false true = refl
turned false false false = refl

joined : (k a b c : Bool) → (k || ((a || b) || c)) ≡ (k || (a || b || c))
joined true a b c = refl
joined false true b c = refl
joined false false b c = refl

pub known_bits : (k soft hard shut whole quiet rests pulse : Bool) → (k || ((soft || (hard && (not shut && whole))) || (pulse && (quiet && rests)))) ≡ (k || (soft || (hard && whole && not shut) || (quiet && rests && pulse)))
known_bits k soft hard shut whole quiet rests pulse = rw (swapped hard (not shut) whole, turned pulse quiet rests) (joined k soft (hard && whole && not shut) (quiet && rests && pulse))

-- five steps, one behind the other
pub extends_five : (a b c d e f : List Node) (w : ℕ) → Extends a b w → Extends b c 2 → Extends c d 1 → Extends d e 1 → Extends e f 3 → Extends a f (w + 7)
extends_five a b c d e f w p q r s t =
    extends_more a e f (w + 4) 3 (w + 7) (extends_more a d e (w + 3) 1 (w + 4) (extends_more a c d (w + 2) 1 (w + 3) (extends_more a b c w 2 (w + 2) p q (omega arith)) r (omega arith)) s (omega arith)) t (omega arith)
