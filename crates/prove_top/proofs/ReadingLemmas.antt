-- One more expression needs one of the room.
use Rattle.std.proofs.Common.{◌≡◌, ℕ, zero, suc, ◌-◌, ◌<◌, List, None, Result, refl, sym, subst, arith}
use Rattle.trace_replay.specs.declared.expression.Expression.{Expression}
use Rattle.prove_top.specs.declared.cursor.Stop.{Stop}
use Rattle.prove_top.specs.Reading.{Read, Reads, expression_at, form_at}

pub expression_at-zero : (room : ℕ) (bytes : List ℕ) → room ≡ 0 → expression_at room bytes ≡ None
unfolding expression_at
expression_at-zero zero bytes is = refl
expression_at-zero (suc room) bytes is = absurd (omega (arith, is))

pub expression_at-more : (room : ℕ) (bytes : List ℕ) → 0 < room → expression_at room bytes ≡ form_at (expression_at (room - 1)) bytes
unfolding expression_at
expression_at-more zero bytes below = absurd (omega arith)
expression_at-more (suc room) bytes below = let e : suc room - 1 ≡ room = omega arith in rw e refl

pub reads-more : (room : ℕ) (bytes : List ℕ) (r : Result Expression Stop) (rest : List ℕ) → 0 < room
    → Reads (form_at (expression_at (room - 1)) bytes) r rest → Reads (expression_at room bytes) r rest
reads-more room bytes r rest below reads =
    let P : Read Expression → Type 0 = λ read. Reads read r rest in
    subst P (sym (expression_at-more room bytes below)) reads
