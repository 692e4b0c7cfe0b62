-- From the reading to the answer.
use Rattle.std.proofs.Common.{◌≡◌, ℕ, ◌+◌, ◌<◌, ◌≤◌, Result, Ok, Err, List, [], ◌∷◌, length, subst, arith, inl, inr, ◌∷◌, ◌↔◌}
use Rattle.gate_graph.specs.declared.circuits.Circuit.{Circuit}
use Rattle.k_induction.specs.declared.verdict.SafeCircuit.{SafeCircuit}
use Rattle.cert_text.specs.declared.fault.CertCode.{CertCode}
use Rattle.cert_text.specs.declared.fault.CertCode.TheVariants as code
use Rattle.cert_text.specs.declared.fault.CertFault.{CertFault}
use Rattle.cert_text.specs.declared.fault.CertFault.TheVariants.{NoMemory, At}
use Rattle.cert_text.specs.Lines.{lines_of, tail_of}
use Rattle.cert_text.specs.Reading.{HeaderDue, BoundDue, CountDue, ClausesDue, ChainsDue, Ended, State, Next, Wrong, Go, IfResolves, IfDone, Faults, Gives, next_of, at_end, Parts, Accepted, Refused, IsCertificate, HasFault, UnlessWanting, Refuses}
use Rattle.cert_text.specs.Steps.{IsFault}
use Rattle.cert_text.specs.Accepting.{Checks, IsSafeBy, parts_of}
use Rattle.cert_text.proofs.ReadLemmas.{gives_once}

pub checks_fault : (c : Circuit) (bytes : List ℕ) (fault : CertFault) → IsFault c HeaderDue bytes 1 fault → Checks c bytes (Err fault)
checks_fault c bytes NoMemory p = tt
checks_fault c bytes (At found line) p = p

same_parts : (p q : Parts) → Accepted p ≡ Accepted q → p ≡ q
same_parts p q e = cc

apart : (p : Parts) (found : CertCode) (line : ℕ) → Accepted p ≡ Refused found line → ⊥
apart p found line e = let no : ⊥ = cc in no

same_code : (a b : CertCode) (i j : ℕ) → Refused a i ≡ Refused b j → (a ≡ b) × (i ≡ j)
same_code a b i j e = (let x : a ≡ b = cc in x, let y : i ≡ j = cc in y)

pub accepts_iff : (c : Circuit) (bytes : List ℕ) (most : ℕ) (r : Result SafeCircuit CertFault) → length bytes ≤ most → Checks c bytes r → UnlessWanting r ((p : Parts) → IsSafeBy r c p ↔ ((length bytes ≤ most) × IsCertificate c bytes p))
accepts_iff c bytes most (Ok safe) le h = λ p. (
  λ s. (le, subst (IsCertificate c bytes) s.1 h.1),
  λ q. (h.0, same_parts (parts_of safe) p (gives_once c (lines_of bytes) HeaderDue (tail_of bytes) 1 (Accepted (parts_of safe)) (Accepted p) h.1 q.1)),
)
accepts_iff c bytes most (Err NoMemory) le h = tt
accepts_iff c bytes most (Err (At found line)) le h = λ p. (
  λ s. absurd s,
  λ q. apart p found line (gives_once c (lines_of bytes) HeaderDue (tail_of bytes) 1 (Accepted p) (Refused found line) q.1 h),
)

pub fault_iff : (c : Circuit) (bytes : List ℕ) (most : ℕ) (r : Result SafeCircuit CertFault) (wanted : CertCode) → length bytes ≤ most → Checks c bytes r → UnlessWanting r ((line : ℕ) → Refuses r wanted line ↔ ((length bytes ≤ most) × HasFault c bytes wanted line))
fault_iff c bytes most (Ok safe) wanted le h = λ line. (
  λ s. absurd s,
  λ q. apart (parts_of safe) wanted line (gives_once c (lines_of bytes) HeaderDue (tail_of bytes) 1 (Accepted (parts_of safe)) (Refused wanted line) h.1 q.1),
)
fault_iff c bytes most (Err NoMemory) wanted le h = tt
fault_iff c bytes most (Err (At found at_line)) wanted le h = λ line. (
  λ s. (le, subst (λ (i : ℕ). HasFault c bytes wanted i) s.1 (subst (λ (f : CertCode). HasFault c bytes f at_line) s.0 h)),
  λ q. same_code found wanted at_line line (gives_once c (lines_of bytes) HeaderDue (tail_of bytes) 1 (Refused found at_line) (Refused wanted line) h q.1),
)

-- no line is too long a text
never_large_line : (next : Next) → Faults next code.CertLarge → ⊥
never_large_line Wrong p = let no : ⊥ = cc in no
never_large_line (Go s) p = p
never_large_line (IfResolves clauses chains chain s) p = let e : code.CertLarge ≡ code.BadStep = p.1 in let no : ⊥ = cc in no
never_large_line (IfDone clauses chains s) p = let e : code.CertLarge ≡ code.CertShort = p.1 in let no : ⊥ = cc in no

never_large_end : (s : State) (tail : List ℕ) (n line : ℕ) → at_end s tail n ≡ Refused code.CertLarge line → ⊥
never_large_end HeaderDue [] n line e = let no : ⊥ = cc in no
never_large_end HeaderDue (b ∷ bs) n line e = let no : ⊥ = cc in no
never_large_end BoundDue [] n line e = let no : ⊥ = cc in no
never_large_end BoundDue (b ∷ bs) n line e = let no : ⊥ = cc in no
never_large_end (CountDue k) [] n line e = let no : ⊥ = cc in no
never_large_end (CountDue k) (b ∷ bs) n line e = let no : ⊥ = cc in no
never_large_end (ClausesDue k set m) [] n line e = let no : ⊥ = cc in no
never_large_end (ClausesDue k set m) (b ∷ bs) n line e = let no : ⊥ = cc in no
never_large_end (ChainsDue k set done chains) [] n line e = let no : ⊥ = cc in no
never_large_end (ChainsDue k set done chains) (b ∷ bs) n line e = let no : ⊥ = cc in no
never_large_end (Ended k set done) [] n line e = let no : ⊥ = cc in no
never_large_end (Ended k set done) (b ∷ bs) n line e = let no : ⊥ = cc in no

never_large : (c : Circuit) (lines : List (List ℕ)) (s : State) (tail : List ℕ) (n line : ℕ) → Gives c s lines tail n (Refused code.CertLarge line) → ⊥
never_large c [] s tail n line g = never_large_end s tail n line g
never_large c (l ∷ lines) s tail n line (inl p) =
    let same : p.0 ≡ code.CertLarge = (same_code p.0 code.CertLarge n line p.1.1).0 in
    never_large_line (next_of c s l) (subst (λ (f : CertCode). Faults (next_of c s l) f) same p.1.0)
never_large c (l ∷ lines) s tail n line (inr p) = never_large c lines p.0 tail (n + 1) line p.1.1

pub large_iff : (c : Circuit) (bytes : List ℕ) (most : ℕ) (r : Result SafeCircuit CertFault) → length bytes ≤ most → Checks c bytes r → UnlessWanting r ((line : ℕ) → Refuses r code.CertLarge line ↔ ((most < length bytes) × (line ≡ 0)))
large_iff c bytes most (Ok safe) le h = λ line. (λ s. absurd s, λ q. absurd (let lt : most < length bytes = q.0 in omega arith))
large_iff c bytes most (Err NoMemory) le h = tt
large_iff c bytes most (Err (At found at_line)) le h = λ line. (
  λ s. absurd (never_large c (lines_of bytes) HeaderDue (tail_of bytes) 1 at_line (subst (λ (f : CertCode). HasFault c bytes f at_line) s.0 h)),
  λ q. absurd (let lt : most < length bytes = q.0 in omega arith),
)
