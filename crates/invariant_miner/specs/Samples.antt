-- Sample states of a circuit: 64 runs of 64 edges a batch, from random starts under random inputs.
use Rattle.std.specs.Prelude.{◌≡◌, ℕ, zero, suc, ◌+◌, ◌-◌, ◌*◌, ◌/◌, ◌%◌, Bool, true, false, not, ◌&&◌, ◌||◌, nat_le, nat_lt, eqb, cond, List, [], ◌∷◌, ◌++◌, ◌<◌, length, map, slice_get, slice_index, slice_index_or, Option, Some, None}
use Rattle.std.specs.List.{range_with_len}
use Rattle.gate_graph.specs.declared.parts.Start.{Start}
use Rattle.gate_graph.specs.declared.parts.Start.TheVariants as start
use Rattle.gate_graph.specs.declared.parts.Latch.{Latch}
use Rattle.gate_graph.specs.declared.circuits.Circuit.{Circuit}
use Rattle.gate_graph.specs.Values.{at}
use Rattle.gate_graph.specs.Runs.{next_state}
use Rattle.invariant_miner.specs.Draws.{seeded, word, next, later, word_at}
use Rattle.invariant_miner.specs.Lanes.{bit, lane}

-- the start of a latch in run r, where the generator has state g: a free latch takes a word, of which run r has bit r
abbrev pub start_in : Start → List ℕ → ℕ → Bool
start_in start.Zero g r = false
start_in start.One g r = true
start_in start.Free g r = bit r (word g)

-- the generator's state after the start of a latch, and of all
abbrev pub after_start : Start → List ℕ → List ℕ
after_start start.Zero g = g
after_start start.One g = g
after_start start.Free g = next g

abbrev pub after_starts : List Latch → List ℕ → List ℕ
after_starts [] g = g
after_starts (l ∷ ls) g = after_starts ls (after_start l.start g)

-- the starts of the latches in run r, in their order
abbrev pub starts_in : List Latch → List ℕ → ℕ → List Bool
starts_in [] g r = []
starts_in (l ∷ ls) g r = start_in l.start g r ∷ starts_in ls (after_start l.start g) r

-- the address that a run takes, by its word z: none where z is a multiple of 4 or there are no addresses
unfoldable pub taken_address : List ℕ → ℕ → Option ℕ
taken_address addresses z = cond (eqb (z % 4) 0 || eqb (length addresses) 0) None (Some (slice_index addresses (z / 4 % length addresses)))

-- whether input i is a bit of the address, of which there are so many from the first on
unfoldable pub is_address_bit : ℕ → ℕ → ℕ → Bool
is_address_bit first bits i = nat_le first i && nat_lt i (first + bits)

-- input i in a run that takes this address, or none: a bit of the address, else the bit that was drawn
abbrev pub input_with : ℕ → ℕ → Option ℕ → ℕ → Bool → Bool
input_with first bits None i drawn = drawn
input_with first bits (Some address) i drawn = cond (is_address_bit first bits i) (bit (i - first) address) drawn

-- input i in run r at an edge where the generator has state e: the words of the inputs come first, then those of the runs
unfoldable pub input_in : Circuit → List ℕ → ℕ → ℕ → Bool
input_in c e r i = input_with c.address_first c.address_bits (taken_address c.addresses.items (word_at e (c.inputs + r))) i (bit r (word_at e i))

unfoldable pub inputs_in : Circuit → List ℕ → ℕ → List Bool
inputs_in c e r = map (input_in c e r) (range_with_len 0 c.inputs)

-- the generator's state before edge t of a batch that starts with state g: each edge takes a word for each input and 64 more
unfoldable pub edge_draws : Circuit → List ℕ → ℕ → List ℕ
edge_draws c g zero = after_starts c.latches.items g
edge_draws c g (suc t) = later (c.inputs + 64) (edge_draws c g t)

-- the state of run r before edge t of such a batch
unfoldable pub run_state : Circuit → List ℕ → ℕ → ℕ → List Bool
run_state c g r zero = starts_in c.latches.items g r
run_state c g r (suc t) = next_state c (run_state c g r t) (inputs_in c (edge_draws c g t) r)

-- the generator's state before batch b, where it starts with state g
unfoldable pub batch_draws : Circuit → List ℕ → ℕ → List ℕ
batch_draws c g zero = g
batch_draws c g (suc b) = edge_draws c (batch_draws c g b) 64

-- how many edges all batches have together
unfoldable pub edge_count : Circuit → ℕ
edge_count c = 64 * (1 + length c.addresses.items / 32)

-- the state of run r before edge k, the edges of all batches being counted together
unfoldable pub state_in : Circuit → ℕ → ℕ → ℕ → List Bool
state_in c seed k r = run_state c (batch_draws c (seeded seed) (k / 64)) r (k % 64)

-- every number below n passes the test
unfoldable pub all_below : ℕ → (ℕ → Bool) → Bool
all_below zero p = true
all_below (suc n) p = all_below n p && p n

-- every sample state passes the test: the states before each edge of each run, with `live` 1
unfoldable pub in_all_samples : Circuit → ℕ → (List Bool → Bool) → Bool
in_all_samples c seed p = all_below (edge_count c) (λ k. all_below 64 (λ r. not (at (state_in c seed k r) 0) || p (state_in c seed k r)))

-- rows of words, one word per latch and one bit per run: each has the states of the 64 runs before an edge
pub record AreRows (c : Circuit) (g : List ℕ) (rows : List (List ℕ)) : Type 0 where
  pub each : (k : ℕ) (row : List ℕ) (r : ℕ) → slice_get rows k ≡ Some row → r < 64 → lane r row ≡ run_state c (batch_draws c g (k / 64)) r (k % 64)

-- so many rows of a batch were added, which starts with state g
pub record HasBatch (c : Circuit) (g : List ℕ) (old new : List (List ℕ)) (n : ℕ) : Type 0 where
  pub added : List (List ℕ)
  pub is : new ≡ old ++ added
  pub long : length added ≡ n
  pub each : (t : ℕ) (row : List ℕ) (r : ℕ) → slice_get added t ≡ Some row → r < 64 → lane r row ≡ run_state c g r t

-- every run passes the test before each edge of these rows where `live` is 1
unfoldable pub in_row : List ℕ → (List Bool → Bool) → Bool
in_row row p = all_below 64 (λ r. not (at (lane r row) 0) || p (lane r row))

unfoldable pub in_all_rows : List (List ℕ) → (List Bool → Bool) → Bool
in_all_rows rows p = all_below (length rows) (λ k. in_row (slice_index_or rows k []) p)
