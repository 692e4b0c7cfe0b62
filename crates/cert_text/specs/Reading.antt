-- The reading of a certificate (this project's own): what each line may be behind the lines before it, what is accepted
-- at the end, and the first line that has a fault.
use Rattle.std.specs.Prelude.{◌≡◌, ℕ, zero, suc, ◌+◌, nat_le, nat_lt, ◌&&◌, ◌⊎◌, ⊤, if◌then◌else◌, Option, Some, None, Result, Ok, Err, List, [], ◌∷◌, ◌++◌, length, codes}
use Rattle.std.specs.Str.{bytes_eq}
use Rattle.lemma_checker.specs.declared.literal.Literal.{Literal}
use Rattle.lemma_checker.specs.Clauses.{set_of}
use Rattle.lemma_checker.specs.Chains.{chain_result, AreDerived, ReachesEmpty}
use Rattle.gate_graph.specs.declared.circuits.Circuit.{Circuit}
use Rattle.unroll_cnf.specs.declared.latch_literal.LatchLiteral.{LatchLiteral}
use Rattle.unroll_cnf.specs.declared.limits.TheConstants.{MOST_EDGES}
use Rattle.unroll_cnf.specs.Queries.{base_clauses, step_clauses, keep_clauses}
use Rattle.cert_text.specs.declared.fault.CertCode.{CertCode}
use Rattle.cert_text.specs.declared.fault.CertCode.TheVariants as code
use Rattle.cert_text.specs.declared.fault.CertFault.{CertFault}
use Rattle.cert_text.specs.declared.fault.CertFault.TheVariants.{NoMemory, At}
use Rattle.cert_text.specs.Lines.{lines_of, tail_of, words_of, number_after, clause_of, chain_of, due_after}

-- a chain: the numbers of its clauses, and its pivots
abbrev pub Link : Type 0
Link = List ℕ × List ℕ

-- what a certificate has: k, a set of clauses over latches, and the chains of each query, of the keep query first, then
-- of the base queries of 1 to k edges, then of the step query
pub record Parts : Type 0 where
  pub k : ℕ
  pub set : List (List LatchLiteral)
  pub queries : List (List Link)

-- what is due: the first line, that of k, that of the set's size, so many clauses (and the line of the first query behind
-- them), the chains of a query (and the line behind them), or nothing
pub data State : Type 0 where
  HeaderDue : State
  BoundDue : State
  CountDue : ℕ → State
  ClausesDue : ℕ → List (List LatchLiteral) → ℕ → State
  ChainsDue : ℕ → List (List LatchLiteral) → List (List Link) → List Link → State
  Ended : ℕ → List (List LatchLiteral) → List (List Link) → State

-- the clauses of query j
abbrev pub query_clauses : Circuit → ℕ → List (List LatchLiteral) → ℕ → List (List Literal)
query_clauses c k set zero = keep_clauses c set
query_clauses c k set (suc j) = if nat_lt j k then base_clauses c (j + 1) else step_clauses c set k

-- a chain resolves in a query whose earlier chains are these
pub record Resolves (clauses : List (List Literal)) (chains : List Link) (chain : Link) : Type 0 where
  pub added : List (List Literal)
  pub derived : AreDerived clauses added chains
  pub clause : List Literal
  pub result : chain_result (clauses ++ added) chain.0 chain.1 ≡ Some (set_of clause)

-- a line is another than is due, or leads on: at once, where its chain resolves, or where its query is done, which is
-- where the chains reach the empty clause
pub data Next : Type 0 where
  Wrong : Next
  Go : State → Next
  IfResolves : List (List Literal) → List Link → Link → State → Next
  IfDone : List (List Literal) → List Link → State → Next

abbrev pub bound_next : Option ℕ → Next
bound_next None = Wrong
bound_next (Some k) = if nat_lt 0 k && nat_le k MOST_EDGES then Go (CountDue k) else Wrong

abbrev pub count_next : ℕ → Option ℕ → Next
count_next k None = Wrong
count_next k (Some n) = Go (ClausesDue k [] n)

abbrev pub clause_next : ℕ → List (List LatchLiteral) → ℕ → Option (List LatchLiteral) → Next
clause_next k set n None = Wrong
clause_next k set n (Some d) = Go (ClausesDue k (set ++ d ∷ []) n)

-- behind the last query nothing more is due
abbrev pub closed : ℕ → List (List LatchLiteral) → List (List Link) → List Link → State
closed k set done chains = if nat_le (length done) k then ChainsDue k set (done ++ chains ∷ []) [] else Ended k set (done ++ chains ∷ [])

abbrev pub chain_next : Circuit → ℕ → List (List LatchLiteral) → List (List Link) → List Link → List ℕ → Option Link → Next
chain_next c k set done chains line (Some chain) = IfResolves (query_clauses c k set (length done)) chains chain (ChainsDue k set done (chains ++ chain ∷ []))
chain_next c k set done chains line None =
    if bytes_eq line (due_after k (length done)) then IfDone (query_clauses c k set (length done)) chains (closed k set done chains) else Wrong

unfoldable pub next_of : Circuit → State → List ℕ → Next
next_of c HeaderDue line = if bytes_eq line (codes "cert 1") then Go BoundDue else Wrong
next_of c BoundDue line = bound_next (number_after (codes "k") (words_of line))
next_of c (CountDue k) line = count_next k (number_after (codes "keep") (words_of line))
next_of c (ClausesDue k set zero) line = if bytes_eq line (codes "q keep") then Go (ChainsDue k set [] []) else Wrong
next_of c (ClausesDue k set (suc n)) line = clause_next k set n (clause_of (length c.latches.items) line)
next_of c (ChainsDue k set done chains) line = chain_next c k set done chains line (chain_of line)
next_of c (Ended k set done) line = Wrong

-- the line leads to this state
abbrev pub Goes : Next → State → Type 0
Goes Wrong t = ⊥
Goes (Go s) t = s ≡ t
Goes (IfResolves clauses chains chain s) t = Resolves clauses chains chain × (s ≡ t)
Goes (IfDone clauses chains s) t = ReachesEmpty clauses chains × (s ≡ t)

-- the line has this fault
abbrev pub Faults : Next → CertCode → Type 0
Faults Wrong found = found ≡ code.CertLine
Faults (Go s) found = ⊥
Faults (IfResolves clauses chains chain s) found = (Resolves clauses chains chain → ⊥) × (found ≡ code.BadStep)
Faults (IfDone clauses chains s) found = (ReachesEmpty clauses chains → ⊥) × (found ≡ code.CertShort)

-- what reading gives: parts, or a fault at a line
pub data Answer : Type 0 where
  Accepted : Parts → Answer
  Refused : CertCode → ℕ → Answer

-- behind the last line: a line without its line feed is no line, and a text that ends too early is short
abbrev pub at_end : State → List ℕ → ℕ → Answer
at_end s (b ∷ bs) n = Refused code.CertLine n
at_end (Ended k set queries) [] n = Accepted (record { k = k; set = set; queries = queries })
at_end HeaderDue [] n = Refused code.CertShort n
at_end BoundDue [] n = Refused code.CertShort n
at_end (CountDue k) [] n = Refused code.CertShort n
at_end (ClausesDue k set m) [] n = Refused code.CertShort n
at_end (ChainsDue k set done chains) [] n = Refused code.CertShort n

-- from this state the lines, of which the first has the number n, and the text behind them give the answer
abbrev pub Gives : Circuit → State → List (List ℕ) → List ℕ → ℕ → Answer → Type 0
Gives c s [] tail n a = at_end s tail n ≡ a
Gives c s (line ∷ lines) tail n a =
    ((found : CertCode) × (Faults (next_of c s line) found × (Refused found n ≡ a)))
    ⊎ ((t : State) × (Goes (next_of c s line) t × Gives c t lines tail (n + 1) a))

-- the text is a certificate of the circuit with these parts
abbrev pub IsCertificate : Circuit → List ℕ → Parts → Type 0
IsCertificate c bytes p = Gives c HeaderDue (lines_of bytes) (tail_of bytes) 1 (Accepted p)

-- the first line that has a fault is this one, and has this fault
abbrev pub HasFault : Circuit → List ℕ → CertCode → ℕ → Type 0
HasFault c bytes found line = Gives c HeaderDue (lines_of bytes) (tail_of bytes) 1 (Refused found line)

-- a fact, where memory isn't wanted
abbrev pub UnlessWanting : {A : Type 0} → Result A CertFault → Type 0 → Type 0
UnlessWanting (Err NoMemory) P = ⊤
UnlessWanting (Err (At found line)) P = P
UnlessWanting (Ok safe) P = P

-- the answer is this refusal
abbrev pub Refuses : {A : Type 0} → Result A CertFault → CertCode → ℕ → Type 0
Refuses (Ok safe) found line = ⊥
Refuses (Err NoMemory) found line = ⊥
Refuses (Err (At given at_line)) found line = (given ≡ found) × (at_line ≡ line)
