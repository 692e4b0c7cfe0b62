-- The text of a certificate (this project's own), from its parts.
use Rattle.std.specs.Prelude.{ℕ, ◌+◌, if◌then◌else◌, List, [], ◌∷◌, ◌++◌, length, map, codes}
use Rattle.std.specs.Fmt.{decimal}
use Rattle.unroll_cnf.specs.declared.latch_literal.LatchLiteral.{LatchLiteral}
use Rattle.cert_text.specs.Lines.{due_after}
use Rattle.cert_text.specs.Reading.{Link, Parts}

-- latch i is written i + 1, behind a minus sign where it is negated
abbrev pub literal_word : LatchLiteral → List ℕ
literal_word l = (if l.negated then codes "-" else []) ++ decimal (l.latch + 1)

-- words, each behind a space
abbrev pub spaced : List (List ℕ) → List ℕ
spaced [] = []
spaced (w ∷ ws) = codes " " ++ (w ++ spaced ws)

-- `c` and the literals of a clause
unfoldable pub clause_line : List LatchLiteral → List ℕ
clause_line d = codes "c" ++ spaced (map literal_word d)

-- `r`, the numbers of a chain's clauses, `/`, and its pivots
unfoldable pub chain_line : Link → List ℕ
chain_line chain = codes "r" ++ (spaced (map decimal chain.0) ++ spaced (codes "/" ∷ map decimal chain.1))

-- from query j on, the chains of each query and the line that is due behind them
abbrev pub query_lines : ℕ → ℕ → List (List Link) → List (List ℕ)
query_lines k j [] = []
query_lines k j (chains ∷ queries) = map chain_line chains ++ due_after k j ∷ query_lines k (j + 1) queries

-- the lines before the chains: `cert 1`, k, the set's size, its clauses, and `q keep`
abbrev pub head_lines : ℕ → List (List LatchLiteral) → List (List ℕ)
head_lines k set = codes "cert 1" ∷ (codes "k " ++ decimal k) ∷ (codes "keep " ++ decimal (length set)) ∷ (map clause_line set ++ codes "q keep" ∷ [])

-- lines, each with its line feed
abbrev pub text_of_lines : List (List ℕ) → List ℕ
text_of_lines [] = []
text_of_lines (line ∷ lines) = line ++ (10 ∷ text_of_lines lines)

-- the certificate of these parts
unfoldable pub cert_text : Parts → List ℕ
cert_text p = text_of_lines (head_lines p.k p.set ++ query_lines p.k 0 p.queries)
