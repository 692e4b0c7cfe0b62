-- What the steps of the reading of a certificate tell.
use Rattle.std.specs.Prelude.{◌≡◌, ℕ, ◌+◌, ◌⊎◌, ⊤, true, false, ◌++◌, if◌then◌else◌, Result, Ok, Err, List, [], ◌∷◌, length}
use Rattle.gate_graph.specs.declared.circuits.Circuit.{Circuit}
use Rattle.cert_text.specs.declared.fault.CertCode.{CertCode}
use Rattle.cert_text.specs.declared.fault.CertCode.TheVariants as code
use Rattle.cert_text.specs.declared.fault.CertFault.{CertFault}
use Rattle.cert_text.specs.declared.fault.CertFault.TheVariants.{NoMemory, At}
use Rattle.std.specs.Str.{bytes_eq}
use Rattle.lemma_checker.specs.declared.lemmas.Lemmas.{Lemmas}
use Rattle.lemma_checker.specs.Chains.{has_empty}
use Rattle.cert_text.specs.Lines.{lines_of, tail_of}
use Rattle.cert_text.specs.Reading.{State, Ended, Parts, Answer, Accepted, Refused, Go, Wrong, Gives, next_of, at_end}

-- a line is taken off a text
pub record TakesLine (old line new : List ℕ) : Type 0 where
  pub lines : lines_of old ≡ line ∷ lines_of new
  pub tail : tail_of old ≡ tail_of new
  pub long : length old ≡ length line + 1 + length new

-- the fault of a text that has no more line
abbrev pub ending : List ℕ → CertCode
ending [] = code.CertShort
ending (b ∷ bs) = code.CertLine

-- what a text gives from a state, where its first line has the number n
abbrev pub GivesFrom : Circuit → State → List ℕ → ℕ → Answer → Type 0
GivesFrom c s text n a = Gives c s (lines_of text) (tail_of text) n a

-- what a later text gives from a later state, the text gives from this one
pub record Leads (c : Circuit) (s : State) (text : List ℕ) (n : ℕ) (t : State) (later : List ℕ) (m : ℕ) : Type 0 where
  pub go : (a : Answer) → GivesFrom c t later m a → GivesFrom c s text n a

-- the fault that the text gives, unless it is want of memory
abbrev pub IsFault : Circuit → State → List ℕ → ℕ → CertFault → Type 0
IsFault c s text n NoMemory = ⊤
IsFault c s text n (At found line) = GivesFrom c s text n (Refused found line)

-- a part of the reading: what it leads to, or its fault
abbrev pub Reads : {A : Type 0} → Circuit → State → List ℕ → ℕ → Result A CertFault → (A → State) → List ℕ → ℕ → Type 0
Reads c s text n (Ok x) to later m = Leads c s text n (to x) later m
Reads c s text n (Err fault) to later m = IsFault c s text n fault

-- the text may not end in this state
abbrev pub IsOpen : State → Type 0
IsOpen s = (n : ℕ) → at_end s [] n ≡ Refused code.CertShort n

-- this very line is due, and leads on
pub record IsDue (c : Circuit) (s : State) (due : List ℕ) (t : State) : Type 0 where
  pub next : (line : List ℕ) → next_of c s line ≡ (if bytes_eq line due then Go t else Wrong)
  pub open_yet : IsOpen s

-- another line is due behind a query's chains, or the query is not done
abbrev pub IsClosingFault : Lemmas → List ℕ → List ℕ → ℕ → CertFault → Type 0
IsClosingFault lemmas line due n fault =
    ((bytes_eq line due ≡ false) × (fault ≡ At code.CertLine n))
    ⊎ ((bytes_eq line due ≡ true) × (has_empty (lemmas.formula.clauses ++ lemmas.added) ≡ false) × (fault ≡ At code.CertShort n))

-- behind the last line the text ends, or goes on
abbrev pub EndsWith : {A : Type 0} → Circuit → Parts → List ℕ → ℕ → Result A CertFault → Type 0
EndsWith c p text n (Ok done) = GivesFrom c (Ended p.k p.set p.queries) text n (Accepted p)
EndsWith c p text n (Err fault) = IsFault c (Ended p.k p.set p.queries) text n fault
