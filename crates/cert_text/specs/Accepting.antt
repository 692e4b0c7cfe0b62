-- What reading a certificate of a circuit accepts.
use Rattle.std.specs.Prelude.{◌≡◌, ℕ, ⊤, Result, Ok, Err, List, [], ◌∷◌, ◌++◌, map}
use Rattle.lemma_checker.specs.Checker.{link}
use Rattle.gate_graph.specs.declared.circuits.Circuit.{Circuit}
use Rattle.k_induction.specs.declared.verdict.SafeCircuit.{SafeCircuit}
use Rattle.cert_text.specs.declared.fault.CertFault.{CertFault}
use Rattle.cert_text.specs.declared.fault.CertFault.TheVariants.{NoMemory, At}
use Rattle.cert_text.specs.Reading.{Parts, IsCertificate, HasFault}

-- the parts of a safe circuit
abbrev pub parts_of : SafeCircuit → Parts
parts_of safe = record {
  k = safe.k;
  set = safe.set.clauses.items;
  queries = map link safe.set.chains.items ∷ (map (λ b. map link b.items) safe.bases.items ++ map link safe.step.items ∷ []);
}

-- the answer is a safe circuit, of this circuit and with these parts
abbrev pub IsSafeBy : Result SafeCircuit CertFault → Circuit → Parts → Type 0
IsSafeBy (Ok safe) c p = (safe.circuit ≡ c) × (parts_of safe ≡ p)
IsSafeBy (Err fault) c p = ⊥

-- what reading the whole text gives: a safe circuit with the certificate's parts, or the fault of its first line that has one
abbrev pub Checks : Circuit → List ℕ → Result SafeCircuit CertFault → Type 0
Checks c bytes (Ok safe) = (safe.circuit ≡ c) × IsCertificate c bytes (parts_of safe)
Checks c bytes (Err NoMemory) = ⊤
Checks c bytes (Err (At found line)) = HasFault c bytes found line
