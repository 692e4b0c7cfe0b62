-- The places of latches and inputs, node by node.
use Rattle.std.proofs.Common.{◌≡◌, ℕ, ◌+◌, List, [], ◌∷◌, ◌++◌, drop, slice_get, Some, refl, ap, sym, ◌∙◌, append_assoc}
use Rattle.std.proofs.lemmas.List.{drop_more}
use Rattle.std.proofs.lemmas.Option.{get_or_from_slice_get, slice_get_within}
use Rattle.gate_graph.specs.declared.nodes.Node.{Node}
use Rattle.gate_graph.specs.declared.nodes.Node.TheVariants.{Zero, Latch, Input, And}
use Rattle.unroll_cnf.specs.Queries.{latch_places, input_places}

latch_first : (i : ℕ) (n : Node) (ns : List Node) → latch_places i (n ∷ ns) ≡ latch_places i (n ∷ []) ++ latch_places (i + 1) ns
latch_first i Zero ns = refl
latch_first i (Latch n) ns = refl
latch_first i (Input n) ns = refl
latch_first i (And a b) ns = refl

input_first : (i : ℕ) (n : Node) (ns : List Node) → input_places i (n ∷ ns) ≡ input_places i (n ∷ []) ++ input_places (i + 1) ns
input_first i Zero ns = refl
input_first i (Latch n) ns = refl
input_first i (Input n) ns = refl
input_first i (And a b) ns = refl

rest_of : (i : ℕ) (ns : List Node) (n : Node) → slice_get ns i ≡ Some n → drop i ns ≡ n ∷ drop (i + 1) ns
rest_of i ns n is = drop_more ns i n (slice_get_within ns i n is) ∙ ap (λ (m : Node). m ∷ drop (i + 1) ns) (get_or_from_slice_get ns i n n is)

pub more_latches : (i : ℕ) (ns : List Node) (n : Node) (old new all : List ℕ) → slice_get ns i ≡ Some n → new ≡ old ++ latch_places i (n ∷ []) → old ++ latch_places i (drop i ns) ≡ all → new ++ latch_places (i + 1) (drop (i + 1) ns) ≡ all
more_latches i ns n old new all is pushed so_far =
    ap (λ (z : List ℕ). z ++ latch_places (i + 1) (drop (i + 1) ns)) pushed
    ∙ (append_assoc old (latch_places i (n ∷ [])) (latch_places (i + 1) (drop (i + 1) ns))
    ∙ (ap (λ (z : List ℕ). old ++ z) (sym (latch_first i n (drop (i + 1) ns)))
    ∙ (ap (λ (z : List Node). old ++ latch_places i z) (sym (rest_of i ns n is)) ∙ so_far)))

pub more_inputs : (i : ℕ) (ns : List Node) (n : Node) (old new all : List ℕ) → slice_get ns i ≡ Some n → new ≡ old ++ input_places i (n ∷ []) → old ++ input_places i (drop i ns) ≡ all → new ++ input_places (i + 1) (drop (i + 1) ns) ≡ all
more_inputs i ns n old new all is pushed so_far =
    ap (λ (z : List ℕ). z ++ input_places (i + 1) (drop (i + 1) ns)) pushed
    ∙ (append_assoc old (input_places i (n ∷ [])) (input_places (i + 1) (drop (i + 1) ns))
    ∙ (ap (λ (z : List ℕ). old ++ z) (sym (input_first i n (drop (i + 1) ns)))
    ∙ (ap (λ (z : List Node). old ++ input_places i z) (sym (rest_of i ns n is)) ∙ so_far)))
