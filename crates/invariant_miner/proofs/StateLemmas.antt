-- The next states of 64 runs, from the values of the nodes.
use Rattle.std.proofs.Common.{◌≡◌, ℕ, ◌+◌, ◌*◌, ◌/◌, ◌%◌, ◌<◌, List, [], ◌∷◌, ◌++◌, length, length-append, slice_get, refl, ap, ◌∙◌, sym, arith, inl, inr, add-one, append_assoc}
use Rattle.std.proofs.lemmas.List.{append-nil, length_push}
use Rattle.std.proofs.lemmas.Option.{slice_get_within}
use Rattle.lemma_checker.proofs.ListLemmas.{get_push, get_either}
use Rattle.invariant_miner.specs.Draws.{later}
use Rattle.invariant_miner.specs.Lanes.{lane}
use Rattle.invariant_miner.specs.Samples.{starts_in, after_starts, inputs_in, edge_draws, run_state, batch_draws, AreRows, HasBatch}
use Rattle.gate_graph.specs.declared.circuits.Circuit.{Circuit}
use Rattle.gate_graph.specs.Runs.{next_state}

-- runs and draws, edge by edge
pub run_start : (c : Circuit) (g : List ℕ) (r : ℕ) → run_state c g r 0 ≡ starts_in c.latches.items g r
unfolding run_state
run_start c g r = refl

pub run_step : (c : Circuit) (g : List ℕ) (r t : ℕ) → run_state c g r (t + 1) ≡ next_state c (run_state c g r t) (inputs_in c (edge_draws c g t) r)
unfolding run_state
run_step c g r t = ap (run_state c g r) (add-one t)

pub draws_start : (c : Circuit) (g : List ℕ) → edge_draws c g 0 ≡ after_starts c.latches.items g
unfolding edge_draws
draws_start c g = refl

pub draws_step : (c : Circuit) (g : List ℕ) (t : ℕ) → edge_draws c g (t + 1) ≡ later (c.inputs + 64) (edge_draws c g t)
unfolding edge_draws
draws_step c g t = ap (edge_draws c g) (add-one t)

pub batches_start : (c : Circuit) (g : List ℕ) → batch_draws c g 0 ≡ g
unfolding batch_draws
batches_start c g = refl

pub batches_step : (c : Circuit) (g : List ℕ) (b : ℕ) → batch_draws c g (b + 1) ≡ edge_draws c (batch_draws c g b) 64
unfolding batch_draws
batches_step c g b = ap (batch_draws c g) (add-one b)

pub batch_none : (c : Circuit) (g : List ℕ) (old : List (List ℕ)) → HasBatch c g old old 0
batch_none c g old = record { added = []; is = sym (append-nil old); long = refl; each = λ t row r is lt. absurd (cc) }

pub batch_more : (c : Circuit) (g : List ℕ) (old now : List (List ℕ)) (t : ℕ) (row : List ℕ) → HasBatch c g old now t → ((r : ℕ) → r < 64 → lane r row ≡ run_state c g r t) → HasBatch c g old (now ++ row ∷ []) (t + 1)
batch_more c g old now t row b h = record {
  added = b.added ++ row ∷ [];
  is = ap (λ (z : List (List ℕ)). z ++ row ∷ []) b.is ∙ append_assoc old b.added (row ∷ []);
  long = length_push b.added row ∙ ap (λ (n : ℕ). n + 1) b.long;
  each = λ k x r is lt. elim (get_push b.added row k x is) [
    | inl before ↦ b.each k x r before lt
    | inr last ↦ ap (lane r) last.1 ∙ (h r lt ∙ ap (run_state c g r) (sym (last.0 ∙ b.long)))
  ];
}

pub rows_none : (c : Circuit) (g : List ℕ) → AreRows c g []
rows_none c g = record { each = λ k row r is lt. absurd (cc) }

pub rows_more : (c : Circuit) (g : List ℕ) (old new : List (List ℕ)) (b : ℕ) → AreRows c g old → length old ≡ 64 * b → HasBatch c (batch_draws c g b) old new 64 → AreRows c g new
rows_more c g old new b before long batch = record {
  each = λ k row r is lt. elim (get_either old batch.added k row (sym (ap (λ (z : List (List ℕ)). slice_get z k) batch.is) ∙ is)) [
    | inl early ↦ before.each k row r early lt
    | inr late ↦
        let below : late.0 < 64 = omega (arith, slice_get_within batch.added late.0 row late.1, batch.long) in
        let in_batch : k / 64 ≡ b = omega (arith, late.2, long, below) in
        let at_edge : k % 64 ≡ late.0 = omega (arith, late.2, long, below) in
        batch.each late.0 row r late.1 lt ∙ sym (rw (in_batch, at_edge) refl)
  ];
}

pub rows_count : (c : Circuit) (g : List ℕ) (old new : List (List ℕ)) (b : ℕ) → length old ≡ 64 * b → HasBatch c g old new 64 → length new ≡ 64 * (b + 1)
rows_count c g old new b long batch = omega (arith, ap length batch.is, length-append old batch.added, batch.long, long)
