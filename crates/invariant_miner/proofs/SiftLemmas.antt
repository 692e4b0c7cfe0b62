-- What an edge of 64 runs drops of a list.
use Rattle.std.proofs.Common.{◌≡◌, ℕ, ◌+◌, ◌<◌, ◌≤◌, ◌^◌, Bool, true, false, not, ◌&&◌, ◌||◌, eqb, bit_and, bit_or, w64, List, [], ◌∷◌, ◌++◌, length, take, get_or, Some, slice_get, slice_index, refl, ap, sym, ◌∙◌, subst, inl, inr, arith}
use Rattle.std.specs.Int.{bit_not}
use Rattle.std.specs.List.{filter, list_any}
use Rattle.std.proofs.lemmas.Bool.{and_parts}
use Rattle.std.proofs.Math.Bool.{or_assoc}
use Rattle.std.proofs.lemmas.List.{take_more, take_all}
use Rattle.std.proofs.lemmas.List.Folds.{list_any_more}
use Rattle.std.proofs.lemmas.Option.{get_or_from_slice_get, slice_get_within}
use Rattle.lemma_checker.proofs.ListLemmas.{get_push}
use Rattle.gate_graph.specs.declared.circuits.Circuit.{Circuit}
use Rattle.gate_graph.specs.Values.{at}
use Rattle.gate_graph.specs.Runs.{next_state}
use Rattle.unroll_cnf.specs.declared.latch_literal.LatchLiteral.{LatchLiteral}
use Rattle.unroll_cnf.specs.Latches.{holds, meets, MeetsAll, AreOfLatches, weight}
use Rattle.invariant_miner.specs.Lanes.{bit, lane}
use Rattle.invariant_miner.specs.Samples.{all_below}
use Rattle.invariant_miner.specs.Sifted.{meets_in}
use Rattle.invariant_miner.specs.Kept.{IsClosed, IsWithin, IsAbove}
use Rattle.invariant_miner.specs.Thinned.{IsAskable}
use Rattle.invariant_miner.proofs.BitLemmas.{at_lane, bit_and_both, bit_or_both, bit_inverted}
use Rattle.invariant_miner.proofs.RowLemmas.{below_true, clear_by_word}
use Rattle.invariant_miner.proofs.KeptLemmas.{filter_get, filter_short, filter_twice, filter_of, filter_weight, meets_within}

-- the runs that meet a clause, literal by literal
or_false : (b : Bool) → (b || false) ≡ b
or_false true = refl
or_false false = refl

pub none_met : (row : List ℕ) (live r : ℕ) → live ≡ slice_index row 0 → live < 2 ^ 64 → r < 64 → bit r (bit_not w64 live) ≡ (not (at (lane r row) 0) || false)
none_met row live r is small lt = bit_inverted live r small lt ∙ (ap (λ (v : ℕ). not (bit r v)) is ∙ (ap not (sym (at_lane r row 0)) ∙ sym (or_false (not (at (lane r row) 0)))))

pub literal_more : (row : List ℕ) (d : List LatchLiteral) (i word other r : ℕ) (z : LatchLiteral) → i < length d → bit r word ≡ (not (at (lane r row) 0) || list_any (holds (lane r row)) (take i d)) → bit r other ≡ holds (lane r row) (get_or d i z)
    → bit r (bit_or word other) ≡ (not (at (lane r row) 0) || list_any (holds (lane r row)) (take (i + 1) d))
literal_more row d i word other r z lt before here =
    bit_or_both word other r ∙ (rw (before, here) (or_assoc (not (at (lane r row) 0)) (list_any (holds (lane r row)) (take i d)) (holds (lane r row) (get_or d i z)))
    ∙ ap (λ (b : Bool). not (at (lane r row) 0) || b) (sym (list_any_more (holds (lane r row)) d i z lt)))

pub literals_met : (row : List ℕ) (d literals : List LatchLiteral) (i word r : ℕ) → literals ≡ d → length literals ≤ i → bit r word ≡ (not (at (lane r row) 0) || list_any (holds (lane r row)) (take i literals)) → bit r word ≡ meets (lane r row) d
unfolding meets
literals_met row d literals i word r is all h = h ∙ ap (λ (z : List LatchLiteral). not (at (lane r row) 0) || list_any (holds (lane r row)) z) (take_all i literals all ∙ is)

-- a state meets one clause more
pub meets_more : (s : List Bool) (set : List (List LatchLiteral)) (i : ℕ) (d : List LatchLiteral) → slice_get set i ≡ Some d → MeetsAll s (take i set) → meets s d ≡ true → MeetsAll s (take (i + 1) set)
meets_more s set i d is m here =
    let more : take (i + 1) set ≡ take i set ++ d ∷ [] = take_more set i [] (slice_get_within set i d is) ∙ ap (λ (x : List LatchLiteral). take i set ++ x ∷ []) (get_or_from_slice_get set i d [] is) in
    subst (MeetsAll s) (sym more) (record { each = λ k z h. elim (get_push (take i set) d k z h) [ inl old ↦ m.each k z old | inr e ↦ ap (meets s) e.1 ∙ here ] })

pub runs_more : (row : List ℕ) (set : List (List LatchLiteral)) (i word other r : ℕ) (d : List LatchLiteral) → slice_get set i ≡ Some d → (bit r word ≡ true → MeetsAll (lane r row) (take i set)) → bit r other ≡ meets (lane r row) d → bit r (bit_and word other) ≡ true → MeetsAll (lane r row) (take (i + 1) set)
runs_more row set i word other r d is before here both =
    let parts : (bit r word ≡ true) × (bit r other ≡ true) = and_parts (bit r word) (bit r other) (sym (bit_and_both word other r) ∙ both) in
    meets_more (lane r row) set i d is (before parts.0) (sym here ∙ parts.1)

-- the test of all runs by words
pub met_by_word : (runs : ℕ) (row : List ℕ) (d : List LatchLiteral) (good : ℕ) → bit_and runs (bit_not w64 good) < 2 ^ 64 → good < 2 ^ 64 → ((r : ℕ) → r < 64 → bit r good ≡ meets (lane r row) d) → eqb (bit_and runs (bit_not w64 good)) 0 ≡ meets_in runs row d
unfolding meets_in
met_by_word runs row d good small good_small bits = clear_by_word (λ r. bit r runs) (λ r. meets (lane r row) d) (bit_and runs (bit_not w64 good)) small
    (λ r lt. bit_and_both runs (bit_not w64 good) r ∙ ap (λ (b : Bool). bit r runs && b) (bit_inverted good r good_small lt ∙ ap not (bits r lt)))

-- what a closed set holds is met by the states after an edge
kept_in : (c : Circuit) (list sub : List (List LatchLiteral)) (s x next : List Bool) (i : ℕ) (d : List LatchLiteral) → IsClosed c sub → IsWithin sub list → MeetsAll s list → next ≡ next_state c s x → slice_get sub i ≡ Some d → meets next d ≡ true
kept_in c list sub s x next i d k w m is h = ap (λ (z : List Bool). meets z d) is ∙ (k.kept s x (meets_within s sub list w m)).each i d h

by_run : (b : Bool) (m : Bool) → (b ≡ true → m ≡ true) → (not b || m) ≡ true
by_run true m h = h refl
by_run false m h = refl

pub above_edge : (c : Circuit) (list left : List (List LatchLiteral)) (row next : List ℕ) (runs : ℕ) (input : ℕ → List Bool) → ((r : ℕ) → r < 64 → bit r runs ≡ true → MeetsAll (lane r row) list) → ((r : ℕ) → r < 64 → lane r next ≡ next_state c (lane r row) (input r)) → left ≡ filter (meets_in runs next) list → IsAbove c list left
unfolding meets_in
above_edge c list left row next runs input good after is = record {
  picks = meets_in runs next;
  is = is;
  above = λ sub k w. record {
    each = λ i d h.
        let r : (j : ℕ) × (slice_get list j ≡ Some d) = w.each i d h in
        let all : meets_in runs next d ≡ true = below_true 64 _ (λ n lt. by_run (bit n runs) (meets (lane n next) d) (λ on. kept_in c list sub (lane n row) (input n) (lane n next) i d k w (good n lt on) (after n lt) h)) in
        subst (λ (set : List (List LatchLiteral)). (j : ℕ) × (slice_get set j ≡ Some d)) (sym is) (filter_get (meets_in runs next) list r.0 d r.1 all);
  };
}

-- one part after the other
pub above_above : (c : Circuit) (list some few : List (List LatchLiteral)) → IsAbove c list some → IsAbove c some few → IsAbove c list few
above_above c list some few a b = record {
  picks = λ d. a.picks d && b.picks d;
  is = b.is ∙ (ap (filter b.picks) a.is ∙ filter_twice a.picks b.picks list);
  above = λ sub k w. b.above sub k (a.above sub k w);
}

pub above_askable : (c : Circuit) (list left : List (List LatchLiteral)) → IsAbove c list left → IsAskable c list → IsAskable c left
above_askable c list left a k = record {
  of = subst (AreOfLatches (length c.latches.items)) (sym a.is) (filter_of (length c.latches.items) a.picks list k.of);
  small = omega (arith, ap weight a.is, filter_weight a.picks list, k.small);
}

pub above_short : (c : Circuit) (list left : List (List LatchLiteral)) → IsAbove c list left → length left ≤ length list
above_short c list left a = omega (arith, ap length a.is, filter_short a.picks list)
