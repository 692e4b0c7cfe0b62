-- When each answer of the reading of a trace text comes.
use Rattle.std.proofs.Common.{◌≡◌, ℕ, suc, ◌+◌, ◌<◌, ◌≤◌, ◌↔◌, Bool, List, length, Result, Ok, Err, refl, sym, ◌∙◌, ap, subst, arith}
use Rattle.std.specs.Prelude.{⊤, IfOk}
use Rattle.trace_replay.specs.Blocks.{FlatBlock}
use Rattle.trace_replay.specs.declared.fault.TraceCode.{TraceCode}
use Rattle.trace_replay.specs.declared.fault.TraceCode.TheVariants as code
use Rattle.trace_replay.specs.declared.fault.TraceFault.{TraceFault}
use Rattle.trace_replay.specs.declared.fault.TraceFault.TheVariants.{NoMemory, At}
use Rattle.trace_replay.specs.declared.read.TheConstants.{TRACE_LIMIT}
use Rattle.trace_replay.specs.declared.trace.Trace.{Trace}
use Rattle.trace_replay.specs.LegalTrace.{HasSizes, IsAllowed, IsFirstForbidden, IsLegalTrace}
use Rattle.trace_replay.specs.Lines.{lines_of}
use Rattle.trace_replay.specs.Laws.{OneReading}
use Rattle.trace_replay.specs.Reading.{GivesTrace, IsIllegal, IsRefusedAt, IsWrongLine, IsWrongName, Refuses, UnlessWanting}
use Rattle.trace_replay.specs.Steps.{ReadsLines}
use Rattle.trace_replay.specs.Trace.{lists_of}
use Rattle.trace_replay.specs.TraceText.{trace_text}
use Rattle.trace_replay.proofs.AllowedLemmas.{none-forbidden, one-forbidden}
use Rattle.trace_replay.proofs.ReadLemmas.{IsWhole, whole, trace-lines, lines-trace, whole-or-line, whole-or-name, line-or-name, one-line, one-name, one-trace}

neither : {P Q : Type 0} → (P → ⊥) → (Q → ⊥) → P ↔ Q
neither p q = (λ h. absurd (p h), λ h. absurd (q h))

size≢line : ◌≡◌ {A = TraceCode} code.TraceSize code.TraceLine → ⊥
size≢line same = cc

size≢name : ◌≡◌ {A = TraceCode} code.TraceSize code.TraceName → ⊥
size≢name same = cc

size≢illegal : ◌≡◌ {A = TraceCode} code.TraceSize code.TraceIllegal → ⊥
size≢illegal same = cc

line≢name : ◌≡◌ {A = TraceCode} code.TraceLine code.TraceName → ⊥
line≢name same = cc

line≢illegal : ◌≡◌ {A = TraceCode} code.TraceLine code.TraceIllegal → ⊥
line≢illegal same = cc

name≢illegal : ◌≡◌ {A = TraceCode} code.TraceName code.TraceIllegal → ⊥
name≢illegal same = cc

module _ (block : FlatBlock) (bytes : List ℕ) where
  abbrev Short : Type 0
  Short = length bytes ≤ TRACE_LIMIT

  -- what is true where each answer comes
  abbrev pub Truth : Result Trace TraceFault → Type 0
  Truth (Ok trace) = Short × IsLegalTrace block trace.start.items (lists_of trace.edges.items) × (bytes ≡ trace_text trace.start.items (lists_of trace.edges.items))
  Truth (Err NoMemory) = ⊤
  Truth (Err (At code.TraceLine line)) = Short × IsWrongLine (lines_of bytes) line
  Truth (Err (At code.TraceName line)) = Short × IsWrongName (lines_of bytes) line
  Truth (Err (At code.TraceIllegal line)) = Short × IsIllegal block bytes line
  Truth (Err (At code.TraceSize line)) = (TRACE_LIMIT < length bytes) × (line ≡ 0)

  pub refused-truth : (fault : TraceFault) → Short → ReadsLines (lines_of bytes) (Err fault) → Truth (Err fault)
  refused-truth NoMemory short reads = tt
  refused-truth (At code.TraceLine line) short reads = (short, reads)
  refused-truth (At code.TraceName line) short reads = (short, reads)
  refused-truth (At code.TraceIllegal line) short reads = absurd reads
  refused-truth (At code.TraceSize line) short reads = absurd reads

  pub illegal-truth : (start : List Bool) (edges : List (List Bool)) (edge line : ℕ) → Short → HasSizes start edges → bytes ≡ trace_text start edges
      → IsFirstForbidden block start edges edge → line ≡ edge + 3 → Truth (Err (At code.TraceIllegal line))
  illegal-truth start edges edge line short sizes text first number =
      (short, record { start = start; edges = edges; edge = edge; sizes = sizes; text = text; first = first; number = number })

  -- a text of a trace with the block's lengths
  whole_of : (start : List Bool) (edges : List (List Bool)) → HasSizes start edges → bytes ≡ trace_text start edges → IsWhole (lines_of bytes) (suc (suc (length edges)))
  whole_of start edges sizes text = whole (lines_of bytes) start edges sizes (trace-lines bytes start edges text)

  pub no-line : (start : List Bool) (edges : List (List Bool)) → HasSizes start edges → bytes ≡ trace_text start edges → (line : ℕ) → IsWrongLine (lines_of bytes) line → ⊥
  no-line start edges sizes text line = whole-or-line (lines_of bytes) (suc (suc (length edges))) line (whole_of start edges sizes text)

  pub no-name : (start : List Bool) (edges : List (List Bool)) → HasSizes start edges → bytes ≡ trace_text start edges → (line : ℕ) → IsWrongName (lines_of bytes) line → ⊥
  no-name start edges sizes text line = whole-or-name (lines_of bytes) (suc (suc (length edges))) line (whole_of start edges sizes text)

  pub same_trace : (s t : List Bool) (a b : List (List Bool)) → HasSizes s a → HasSizes t b → bytes ≡ trace_text s a → bytes ≡ trace_text t b → (s ≡ t) × (a ≡ b)
  same_trace s t a b one two p q = one-trace s t a b one two (sym (trace-lines bytes s a p) ∙ trace-lines bytes t b q)

  moved : (s t : List Bool) (a b : List (List Bool)) (n : ℕ) → s ≡ t → a ≡ b → IsFirstForbidden block s a n → IsFirstForbidden block t b n
  moved s t a b n p q first =
      let P : List Bool → Type 0 = λ x. IsFirstForbidden block x b n in
      let Q : List (List Bool) → Type 0 = λ x. IsFirstForbidden block s x n in
      subst P p (subst Q q first)

  pub no-illegal : (start : List Bool) (edges : List (List Bool)) → IsLegalTrace block start edges → bytes ≡ trace_text start edges → (line : ℕ) → IsIllegal block bytes line → ⊥
  no-illegal start edges legal text line wrong =
      let same = same_trace wrong.start start wrong.edges edges wrong.sizes legal.sizes wrong.text text in
      none-forbidden block start edges wrong.edge legal.allowed (moved wrong.start start wrong.edges edges wrong.edge same.0 same.1 wrong.first)

  one-illegal : (m n : ℕ) → IsIllegal block bytes m → IsIllegal block bytes n → m ≡ n
  one-illegal m n one two =
      let same = same_trace one.start two.start one.edges two.edges one.sizes two.sizes one.text two.text in
      one.number
      ∙ ap (λ e. e + 3) (one-forbidden block two.start two.edges one.edge two.edge (moved one.start two.start one.edges two.edges one.edge same.0 same.1 one.first) two.first)
      ∙ sym two.number

  too-long : {Q : Type 0} → TRACE_LIMIT < length bytes → Short → Q
  too-long long short = absurd (omega (arith, long, short))

  legal-again : (s t : List Bool) (a b : List (List Bool)) → s ≡ t → a ≡ b → IsLegalTrace block s a → bytes ≡ trace_text s a → IsLegalTrace block t b × (bytes ≡ trace_text t b)
  legal-again s t a b p q legal text =
      let P : List Bool → Type 0 = λ x. IsLegalTrace block x b × (bytes ≡ trace_text x b) in
      let Q : List (List Bool) → Type 0 = λ x. IsLegalTrace block s x × (bytes ≡ trace_text s x) in
      subst P p (subst Q q (legal, text))

  -- at most one answer
  pub never-both : (start : List Bool) (edges : List (List Bool)) (why : TraceCode) (line : ℕ) → IsLegalTrace block start edges → bytes ≡ trace_text start edges
      → IsRefusedAt block bytes why line → ⊥
  never-both start edges code.TraceLine line legal text wrong = no-line start edges legal.sizes text line wrong
  never-both start edges code.TraceName line legal text wrong = no-name start edges legal.sizes text line wrong
  never-both start edges code.TraceIllegal line legal text wrong = no-illegal start edges legal text line wrong
  never-both start edges code.TraceSize line legal text wrong = wrong

  pub one-refusal : (why other : TraceCode) (line at : ℕ) → IsRefusedAt block bytes why line → IsRefusedAt block bytes other at → (why ≡ other) × (line ≡ at)
  one-refusal code.TraceLine code.TraceLine line at one two = (refl, one-line (lines_of bytes) line at one two)
  one-refusal code.TraceLine code.TraceName line at one two = absurd (line-or-name (lines_of bytes) line at one two)
  one-refusal code.TraceLine code.TraceIllegal line at one two = absurd (no-line two.start two.edges two.sizes two.text line one)
  one-refusal code.TraceName code.TraceLine line at one two = absurd (line-or-name (lines_of bytes) at line two one)
  one-refusal code.TraceName code.TraceName line at one two = (refl, one-name (lines_of bytes) line at one two)
  one-refusal code.TraceName code.TraceIllegal line at one two = absurd (no-name two.start two.edges two.sizes two.text line one)
  one-refusal code.TraceIllegal code.TraceLine line at one two = absurd (no-line one.start one.edges one.sizes one.text at two)
  one-refusal code.TraceIllegal code.TraceName line at one two = absurd (no-name one.start one.edges one.sizes one.text at two)
  one-refusal code.TraceIllegal code.TraceIllegal line at one two = (refl, one-illegal line at one two)
  one-refusal code.TraceSize other line at one two = absurd one
  one-refusal code.TraceLine code.TraceSize line at one two = absurd two
  one-refusal code.TraceName code.TraceSize line at one two = absurd two
  one-refusal code.TraceIllegal code.TraceSize line at one two = absurd two

  -- the clauses
  pub accepts : (r : Result Trace TraceFault) → Truth r
      → UnlessWanting r ((start : List Bool) (edges : List (List Bool)) → GivesTrace r start edges ↔ (Short × IsLegalTrace block start edges × (bytes ≡ trace_text start edges)))
  accepts (Ok trace) true_ = λ start edges. (
    λ given. let again = legal-again trace.start.items start (lists_of trace.edges.items) edges given.0 given.1 true_.1 true_.2 in (true_.0, again.0, again.1),
    λ fact. same_trace trace.start.items start (lists_of trace.edges.items) edges true_.1.sizes fact.1.sizes true_.2 fact.2,
  )
  accepts (Err NoMemory) true_ = tt
  accepts (Err (At code.TraceLine line)) true_ = λ start edges. neither (λ h. h) (λ fact. no-line start edges fact.1.sizes fact.2 line true_.1)
  accepts (Err (At code.TraceName line)) true_ = λ start edges. neither (λ h. h) (λ fact. no-name start edges fact.1.sizes fact.2 line true_.1)
  accepts (Err (At code.TraceIllegal line)) true_ = λ start edges. neither (λ h. h) (λ fact. no-illegal start edges fact.1 fact.2 line true_.1)
  accepts (Err (At code.TraceSize line)) true_ = λ start edges. neither (λ h. h) (λ fact. too-long true_.0 fact.0)

  pub size : (r : Result Trace TraceFault) → Truth r → UnlessWanting r ((line : ℕ) → Refuses r code.TraceSize line ↔ ((TRACE_LIMIT < length bytes) × (line ≡ 0)))
  size (Ok trace) true_ = λ line. neither (λ h. h) (λ fact. too-long fact.0 true_.0)
  size (Err NoMemory) true_ = tt
  size (Err (At code.TraceLine at)) true_ = λ line. neither (λ h. size≢line (sym h.0)) (λ fact. too-long fact.0 true_.0)
  size (Err (At code.TraceName at)) true_ = λ line. neither (λ h. size≢name (sym h.0)) (λ fact. too-long fact.0 true_.0)
  size (Err (At code.TraceIllegal at)) true_ = λ line. neither (λ h. size≢illegal (sym h.0)) (λ fact. too-long fact.0 true_.0)
  size (Err (At code.TraceSize at)) true_ = λ line. (λ h. (true_.0, sym h.1 ∙ true_.1), λ fact. (refl, true_.1 ∙ sym fact.1))

  pub wrong-line : (r : Result Trace TraceFault) → Truth r → UnlessWanting r ((line : ℕ) → Refuses r code.TraceLine line ↔ (Short × IsWrongLine (lines_of bytes) line))
  wrong-line (Ok trace) true_ = λ line. neither (λ h. h) (λ fact. no-line trace.start.items (lists_of trace.edges.items) true_.1.sizes true_.2 line fact.1)
  wrong-line (Err NoMemory) true_ = tt
  wrong-line (Err (At code.TraceLine at)) true_ = λ line. (
    λ h. let P : ℕ → Type 0 = λ n. IsWrongLine (lines_of bytes) n in (true_.0, subst P h.1 true_.1),
    λ fact. (refl, one-line (lines_of bytes) at line true_.1 fact.1),
  )
  wrong-line (Err (At code.TraceName at)) true_ = λ line. neither (λ h. line≢name (sym h.0)) (λ fact. line-or-name (lines_of bytes) line at fact.1 true_.1)
  wrong-line (Err (At code.TraceIllegal at)) true_ = λ line. neither (λ h. line≢illegal (sym h.0)) (λ fact. no-line true_.1.start true_.1.edges true_.1.sizes true_.1.text line fact.1)
  wrong-line (Err (At code.TraceSize at)) true_ = λ line. neither (λ h. size≢line h.0) (λ fact. too-long true_.0 fact.0)

  pub wrong-name : (r : Result Trace TraceFault) → Truth r → UnlessWanting r ((line : ℕ) → Refuses r code.TraceName line ↔ (Short × IsWrongName (lines_of bytes) line))
  wrong-name (Ok trace) true_ = λ line. neither (λ h. h) (λ fact. no-name trace.start.items (lists_of trace.edges.items) true_.1.sizes true_.2 line fact.1)
  wrong-name (Err NoMemory) true_ = tt
  wrong-name (Err (At code.TraceLine at)) true_ = λ line. neither (λ h. line≢name h.0) (λ fact. line-or-name (lines_of bytes) at line true_.1 fact.1)
  wrong-name (Err (At code.TraceName at)) true_ = λ line. (
    λ h. let P : ℕ → Type 0 = λ n. IsWrongName (lines_of bytes) n in (true_.0, subst P h.1 true_.1),
    λ fact. (refl, one-name (lines_of bytes) at line true_.1 fact.1),
  )
  wrong-name (Err (At code.TraceIllegal at)) true_ = λ line. neither (λ h. name≢illegal (sym h.0)) (λ fact. no-name true_.1.start true_.1.edges true_.1.sizes true_.1.text line fact.1)
  wrong-name (Err (At code.TraceSize at)) true_ = λ line. neither (λ h. size≢name h.0) (λ fact. too-long true_.0 fact.0)

  pub illegal : (r : Result Trace TraceFault) → Truth r → UnlessWanting r ((line : ℕ) → Refuses r code.TraceIllegal line ↔ (Short × IsIllegal block bytes line))
  illegal (Ok trace) true_ = λ line. neither (λ h. h) (λ fact. no-illegal trace.start.items (lists_of trace.edges.items) true_.1 true_.2 line fact.1)
  illegal (Err NoMemory) true_ = tt
  illegal (Err (At code.TraceLine at)) true_ = λ line. neither (λ h. line≢illegal h.0) (λ fact. no-line fact.1.start fact.1.edges fact.1.sizes fact.1.text at true_.1)
  illegal (Err (At code.TraceName at)) true_ = λ line. neither (λ h. name≢illegal h.0) (λ fact. no-name fact.1.start fact.1.edges fact.1.sizes fact.1.text at true_.1)
  illegal (Err (At code.TraceIllegal at)) true_ = λ line. (
    λ h. let P : ℕ → Type 0 = λ n. IsIllegal block bytes n in (true_.0, subst P h.1 true_.1),
    λ fact. (refl, one-illegal at line true_.1 fact.1),
  )
  illegal (Err (At code.TraceSize at)) true_ = λ line. neither (λ h. size≢illegal h.0) (λ fact. too-long true_.0 fact.0)

  pub reads_back : (r : Result Trace TraceFault) → Truth r → (start : List Bool) (edges : List (List Bool)) → IsLegalTrace block start edges → bytes ≡ trace_text start edges → Short
      → UnlessWanting r (GivesTrace r start edges)
  reads_back (Ok trace) true_ start edges legal text short = (accepts (Ok trace) true_ start edges).1 (short, legal, text)
  reads_back (Err NoMemory) true_ start edges legal text short = tt
  reads_back (Err (At what line)) true_ start edges legal text short = (accepts (Err (At what line)) true_ start edges).1 (short, legal, text)

  pub legal_of : (r : Result Trace TraceFault) → Truth r → IfOk r (λ trace. IsLegalTrace block trace.start.items (lists_of trace.edges.items))
  legal_of (Ok trace) true_ = true_.1
  legal_of (Err fault) true_ = tt

pub one-reading : OneReading
one-reading = record {
  one_trace = λ block bytes s t a b one two p q. same_trace block bytes s t a b one.sizes two.sizes p q;
  legal_or_refused = λ block bytes start edges why line legal text wrong. never-both block bytes start edges why line legal text wrong;
  one_refusal = λ block bytes why other line at one two. one-refusal block bytes why other line at one two;
}
