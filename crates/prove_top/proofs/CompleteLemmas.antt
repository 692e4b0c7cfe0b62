-- Each expression is read from the front of its text.
use Rattle.std.proofs.Common.{◌≡◌, ℕ, zero, suc, ◌<◌, max, true, ◌&&◌, List, [], ◌∷◌, ◌++◌, codes, Option, Some, None, refl, sym, ◌∙◌, ap, append_assoc, arith}
use Rattle.std.proofs.lemmas.Bool.{cond-true, and_parts}
use Rattle.trace_replay.specs.declared.expression.Wire.{Wire}
use Rattle.trace_replay.specs.declared.expression.Wire.TheVariants.{ResetN, Select, Enable, Write, Address0, Address1}
use Rattle.trace_replay.specs.declared.expression.Operator.{Operator}
use Rattle.trace_replay.specs.declared.expression.Operator.TheVariants.{And, Or, Xor}
use Rattle.trace_replay.specs.declared.expression.Expression.{Expression}
use Rattle.trace_replay.specs.declared.expression.Expression.TheVariants as e
use Rattle.prove_top.specs.Spelling.{spelling, nest, has_digits, is_digit, wire_text, operator_text}
use Rattle.prove_top.specs.Reading.{wire_at, operator_at, repeated_at, digit_at, constant_at, inverse_at, pair_at, form_at, expression_at}
use Rattle.prove_top.proofs.SpellingLemmas.{by_variant, spelling-Register, spelling-WriteData, spelling-Repeated, spelling-Constant, spelling-Not, spelling-Pair, nest-Not, nest-Pair, has_digits-Constant, has_digits-Not, has_digits-Pair}

wire-complete : (wire : Wire) (rest : List ℕ) → wire_at (wire_text wire ++ rest) ≡ Some (wire, rest)
unfolding wire_at
wire-complete ResetN rest = refl
wire-complete Select rest = refl
wire-complete Enable rest = refl
wire-complete Write rest = refl
wire-complete Address0 rest = refl
wire-complete Address1 rest = refl

operator-complete : (operator : Operator) (rest : List ℕ) → operator_at (operator_text operator ++ rest) ≡ Some (operator, rest)
unfolding operator_at
operator-complete And rest = refl
operator-complete Or rest = refl
operator-complete Xor rest = refl

digit-complete : (byte : ℕ) (rest : List ℕ) → is_digit byte ≡ true → digit_at (byte ∷ rest) ≡ Some (byte, rest)
unfolding digit_at
digit-complete byte rest digit = cond-true (is_digit byte) (Some (byte, rest)) None digit

constant-complete : (high low : ℕ) (rest : List ℕ) → (is_digit high && is_digit low) ≡ true → constant_at (high ∷ low ∷ rest) ≡ Some (e.Constant high low, rest)
unfolding constant_at
constant-complete high low rest digits =
    let both = and_parts (is_digit high) (is_digit low) digits in
    rw (digit-complete high (low ∷ rest) both.0, digit-complete low rest both.1) refl

repeated-complete : (wire : Wire) (rest : List ℕ) → repeated_at (wire_text wire ++ (codes "}}" ++ rest)) ≡ Some (e.Repeated wire, rest)
unfolding repeated_at
repeated-complete wire rest = rw (wire-complete wire (codes "}}" ++ rest)) refl

-- at this room, each expression that nests less is read
abbrev Complete : ℕ → Type 0
Complete room = (expression : Expression) (rest : List ℕ) → has_digits expression ≡ true → nest expression < room
    → expression_at room (spelling expression ++ rest) ≡ Some (expression, rest)

module _ (room : ℕ) (inner : Complete room) where
  not-complete : (part : Expression) (rest : List ℕ) → has_digits part ≡ true → nest part < room
      → inverse_at (expression_at room) (spelling part ++ rest) ≡ Some (e.Not part, rest)
  unfolding inverse_at
  not-complete part rest digits nested = rw (inner part rest digits nested) refl

  pair-complete : (operator : Operator) (left right : Expression) (rest : List ℕ) → has_digits left ≡ true → has_digits right ≡ true
      → nest left < room → nest right < room
      → pair_at (expression_at room) (spelling left ++ (operator_text operator ++ (spelling right ++ (codes ")" ++ rest)))) ≡ Some (e.Pair operator left right, rest)
  unfolding pair_at
  pair-complete operator left right rest ld rd ln rn =
      rw (
        inner left (operator_text operator ++ (spelling right ++ (codes ")" ++ rest))) ld ln,
        operator-complete operator (spelling right ++ (codes ")" ++ rest)),
        inner right (codes ")" ++ rest) rd rn,
      ) refl

  -- one form, whose parts are read at this room
  form-complete : (expression : Expression) (rest : List ℕ) → has_digits expression ≡ true → nest expression < suc room
      → form_at (expression_at room) (spelling expression ++ rest) ≡ Some (expression, rest)
  unfolding form_at
  form-complete = by_variant (λ expression. (rest : List ℕ) → has_digits expression ≡ true → nest expression < suc room
      → form_at (expression_at room) (spelling expression ++ rest) ≡ Some (expression, rest))
      (λ rest digits nested. rw spelling-Register refl)
      (λ rest digits nested. rw spelling-WriteData refl)
      (λ wire rest digits nested. rw (spelling-Repeated wire, append_assoc (wire_text wire) (codes "}}") rest) (repeated-complete wire rest))
      (λ high low rest digits nested. rw (spelling-Constant high low) (constant-complete high low rest (sym (has_digits-Constant high low) ∙ digits)))
      (λ part rest digits nested.
      let less : nest part < room = omega (arith, nest-Not part) in
      rw (spelling-Not part) (not-complete part rest (sym (has_digits-Not part) ∙ digits) less))
      (λ operator left right rest digits nested.
      let both = and_parts (has_digits left) (has_digits right) (sym (has_digits-Pair operator left right) ∙ digits) in
      let ln : nest left < room = omega (arith, nest-Pair operator left right) in
      let rn : nest right < room = omega (arith, nest-Pair operator left right) in
      rw (spelling-Pair operator left right, append_assoc (spelling left), append_assoc (operator_text operator), append_assoc (spelling right))
      (pair-complete operator left right rest both.0 both.1 ln rn))

pub complete : (room : ℕ) → Complete room
unfolding expression_at
complete zero expression rest digits nested = absurd (omega arith)
complete (suc room) expression rest digits nested = form-complete room (complete room) expression rest digits nested

some_first : {A : Type 0} (a b : A) (r s : List ℕ) → ◌≡◌ {A = Option (A × List ℕ)} (Some (a, r)) (Some (b, s)) → a ≡ b
some_first {A} a b r s same = let pair : ◌≡◌ {A = A × List ℕ} (a, r) (b, s) = cc in ap (λ (p : A × List ℕ). p.0) pair

-- two expressions with one spelling are equal: both are what the text reads as
pub one-spelling : (a b : Expression) → has_digits a ≡ true → has_digits b ≡ true → spelling a ≡ spelling b → a ≡ b
one-spelling a b da db same =
    let room = suc (max (nest a) (nest b)) in
    let la : nest a < room = omega arith in
    let lb : nest b < room = omega arith in
    some_first a b [] []
    (sym (complete room a [] da la) ∙ ap (λ text. expression_at room (text ++ [])) same ∙ complete room b [] db lb)
