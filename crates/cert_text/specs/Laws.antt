-- What a certificate is written of, and the law that what is written is accepted.
use Rattle.std.specs.Prelude.{◌≡◌, ℕ, ◌+◌, ◌^◌, ◌<◌, ◌≤◌, List, length, slice_get, Some}
use Rattle.std.specs.List.{All}
use Rattle.lemma_checker.specs.Chains.{ReachesEmpty}
use Rattle.gate_graph.specs.declared.circuits.Circuit.{Circuit}
use Rattle.unroll_cnf.specs.declared.limits.TheConstants.{MOST_EDGES}
use Rattle.unroll_cnf.specs.Latches.{AreApart}
use Rattle.invariant_miner.specs.Thinned.{IsAskable}
use Rattle.cert_text.specs.Reading.{Link, Parts, IsCertificate, query_clauses}
use Rattle.cert_text.specs.Text.{cert_text}

-- the numbers of a chain have 32 bits
pub record IsSmall (chain : Link) : Type 0 where
  pub ids : All (λ n. n < 2 ^ 32) chain.0
  pub pivots : All (λ n. n < 2 ^ 32) chain.1

-- the parts refute all queries of the circuit: k is in its range, the set is one of the circuit's latches, no literal
-- twice in a clause, and the chains of each query reach the empty clause
pub record IsProof (c : Circuit) (p : Parts) : Type 0 where
  pub some : 1 ≤ p.k
  pub few : p.k ≤ MOST_EDGES
  pub askable : IsAskable c p.set
  pub apart : All AreApart p.set
  pub counted : length p.queries ≡ p.k + 2
  pub refuted : (j : ℕ) (chains : List Link) → slice_get p.queries j ≡ Some chains → ReachesEmpty (query_clauses c p.k p.set j) chains
  pub small : All (All IsSmall) p.queries

-- the text of parts that refute all queries is a certificate with these parts
abbrev pub WrittenIsAccepted : Type 0
WrittenIsAccepted = (c : Circuit) (p : Parts) → IsProof c p → ∥ IsCertificate c (cert_text p) p ∥₁
