-- Clauses over the latches of a circuit, and the states that meet them.
use Rattle.std.specs.Prelude.{◌≡◌, ℕ, ◌+◌, ◌<◌, Bool, true, not, ◌&&◌, ◌||◌, eqb, cond, List, [], ◌∷◌, length, slice_get, Some}
use Rattle.std.specs.List.{list_any}
use Rattle.gate_graph.specs.Values.{at}
use Rattle.unroll_cnf.specs.declared.latch_literal.LatchLiteral.{LatchLiteral}

-- no literal stands at two places
pub record AreApart (d : List LatchLiteral) : Type 0 where
  pub once : (i j : ℕ) (l : LatchLiteral) → i < j → slice_get d i ≡ Some l → slice_get d j ≡ Some l → ⊥

-- the literal holds in a state where its latch is 1, or 0 where it is negated
abbrev pub holds : List Bool → LatchLiteral → Bool
holds s l = cond l.negated (not (at s l.latch)) (at s l.latch)

-- a state meets a clause where latch 0, `live`, is 0, or one of the clause's literals holds
unfoldable pub meets : List Bool → List LatchLiteral → Bool
meets s d = not (at s 0) || list_any (holds s) d

-- a state meets each clause of a set
pub record MeetsAll (s : List Bool) (set : List (List LatchLiteral)) : Type 0 where
  pub each : (i : ℕ) (d : List LatchLiteral) → slice_get set i ≡ Some d → meets s d ≡ true

-- the literal that holds where `live` is 0
abbrev pub not_live : LatchLiteral
not_live = record { latch = 0; negated = true }

abbrev pub is_not_live : LatchLiteral → Bool
is_not_live l = eqb l.latch 0 && l.negated

-- the clause with that literal, which it may have already
unfoldable pub weakened : List LatchLiteral → List LatchLiteral
weakened d = cond (list_any is_not_live d) d (not_live ∷ d)

-- the literals of a clause are of n latches
pub record IsOfLatches (n : ℕ) (d : List LatchLiteral) : Type 0 where
  pub each : (j : ℕ) (l : LatchLiteral) → slice_get d j ≡ Some l → l.latch < n

-- the literals of each clause of a set are of n latches
pub record AreOfLatches (n : ℕ) (set : List (List LatchLiteral)) : Type 0 where
  pub each : (i : ℕ) (d : List LatchLiteral) → slice_get set i ≡ Some d → IsOfLatches n d

-- how many clauses and literals a set has together
abbrev pub weight : List (List LatchLiteral) → ℕ
weight [] = 0
weight (d ∷ ds) = 1 + length d + weight ds
