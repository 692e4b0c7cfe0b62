-- The text, the nesting and the digits of each form of expression, of those of its parts.
use Rattle.std.proofs.Common.{◌≡◌, ℕ, suc, max, Bool, true, ◌&&◌, List, [], ◌∷◌, ◌++◌, codes, sym, ◌∙◌, ap, subst}
use Rattle.trace_replay.specs.declared.expression.Wire.{Wire}
use Rattle.trace_replay.specs.declared.expression.Operator.{Operator}
use Rattle.trace_replay.specs.declared.expression.Expression.{Expression}
use Rattle.trace_replay.specs.declared.expression.Expression.TheVariants as e
use Rattle.trace_replay.specs.declared.expression.Expression.TheOpen.{Expression-F}
use Rattle.trace_replay.specs.declared.expression.Expression.TheViews.{out-Expression, roll-Expression, roll-out-Expression}
use Rattle.trace_replay.specs.declared.expression.Expression.TheFolds.{fold-Expression, fold-roll-Expression}
use Rattle.prove_top.specs.Spelling.{spelling, spelling_layer, nest, nest_layer, has_digits, digits_layer, is_digit, wire_text, operator_text}

pub spelling-Register : spelling e.Register ≡ codes "v"
unfolding spelling
spelling-Register = ap (fold-Expression (List ℕ) spelling_layer) (sym e.rolls-Register) ∙ fold-roll-Expression (List ℕ) spelling_layer Expression-F.Register

pub spelling-WriteData : spelling e.WriteData ≡ codes "pwdata"
unfolding spelling
spelling-WriteData = ap (fold-Expression (List ℕ) spelling_layer) (sym e.rolls-WriteData) ∙ fold-roll-Expression (List ℕ) spelling_layer Expression-F.WriteData

pub spelling-Repeated : (wire : Wire) → spelling (e.Repeated wire) ≡ codes "{8{" ++ (wire_text wire ++ codes "}}")
unfolding spelling
spelling-Repeated wire = ap (fold-Expression (List ℕ) spelling_layer) (sym (e.rolls-Repeated wire)) ∙ fold-roll-Expression (List ℕ) spelling_layer (Expression-F.Repeated wire)

pub spelling-Constant : (high low : ℕ) → spelling (e.Constant high low) ≡ codes "8'h" ++ (high ∷ low ∷ [])
unfolding spelling
spelling-Constant high low = ap (fold-Expression (List ℕ) spelling_layer) (sym (e.rolls-Constant high low)) ∙ fold-roll-Expression (List ℕ) spelling_layer (Expression-F.Constant high low)

pub spelling-Not : (inner : Expression) → spelling (e.Not inner) ≡ codes "~" ++ spelling inner
unfolding spelling
spelling-Not inner = ap (fold-Expression (List ℕ) spelling_layer) (sym (e.rolls-Not inner)) ∙ fold-roll-Expression (List ℕ) spelling_layer (Expression-F.Not inner)

pub spelling-Pair : (operator : Operator) (left right : Expression) → spelling (e.Pair operator left right) ≡ codes "(" ++ (spelling left ++ (operator_text operator ++ (spelling right ++ codes ")")))
unfolding spelling
spelling-Pair operator left right = ap (fold-Expression (List ℕ) spelling_layer) (sym (e.rolls-Pair operator left right)) ∙ fold-roll-Expression (List ℕ) spelling_layer (Expression-F.Pair operator left right)

pub nest-Register : nest e.Register ≡ 0
unfolding nest
nest-Register = ap (fold-Expression ℕ nest_layer) (sym e.rolls-Register) ∙ fold-roll-Expression ℕ nest_layer Expression-F.Register

pub nest-WriteData : nest e.WriteData ≡ 0
unfolding nest
nest-WriteData = ap (fold-Expression ℕ nest_layer) (sym e.rolls-WriteData) ∙ fold-roll-Expression ℕ nest_layer Expression-F.WriteData

pub nest-Repeated : (wire : Wire) → nest (e.Repeated wire) ≡ 0
unfolding nest
nest-Repeated wire = ap (fold-Expression ℕ nest_layer) (sym (e.rolls-Repeated wire)) ∙ fold-roll-Expression ℕ nest_layer (Expression-F.Repeated wire)

pub nest-Constant : (high low : ℕ) → nest (e.Constant high low) ≡ 0
unfolding nest
nest-Constant high low = ap (fold-Expression ℕ nest_layer) (sym (e.rolls-Constant high low)) ∙ fold-roll-Expression ℕ nest_layer (Expression-F.Constant high low)

pub nest-Not : (inner : Expression) → nest (e.Not inner) ≡ suc (nest inner)
unfolding nest
nest-Not inner = ap (fold-Expression ℕ nest_layer) (sym (e.rolls-Not inner)) ∙ fold-roll-Expression ℕ nest_layer (Expression-F.Not inner)

pub nest-Pair : (operator : Operator) (left right : Expression) → nest (e.Pair operator left right) ≡ suc (max (nest left) (nest right))
unfolding nest
nest-Pair operator left right = ap (fold-Expression ℕ nest_layer) (sym (e.rolls-Pair operator left right)) ∙ fold-roll-Expression ℕ nest_layer (Expression-F.Pair operator left right)

pub has_digits-Register : has_digits e.Register ≡ true
unfolding has_digits
has_digits-Register = ap (fold-Expression Bool digits_layer) (sym e.rolls-Register) ∙ fold-roll-Expression Bool digits_layer Expression-F.Register

pub has_digits-WriteData : has_digits e.WriteData ≡ true
unfolding has_digits
has_digits-WriteData = ap (fold-Expression Bool digits_layer) (sym e.rolls-WriteData) ∙ fold-roll-Expression Bool digits_layer Expression-F.WriteData

pub has_digits-Repeated : (wire : Wire) → has_digits (e.Repeated wire) ≡ true
unfolding has_digits
has_digits-Repeated wire = ap (fold-Expression Bool digits_layer) (sym (e.rolls-Repeated wire)) ∙ fold-roll-Expression Bool digits_layer (Expression-F.Repeated wire)

pub has_digits-Constant : (high low : ℕ) → has_digits (e.Constant high low) ≡ is_digit high && is_digit low
unfolding has_digits
has_digits-Constant high low = ap (fold-Expression Bool digits_layer) (sym (e.rolls-Constant high low)) ∙ fold-roll-Expression Bool digits_layer (Expression-F.Constant high low)

pub has_digits-Not : (inner : Expression) → has_digits (e.Not inner) ≡ has_digits inner
unfolding has_digits
has_digits-Not inner = ap (fold-Expression Bool digits_layer) (sym (e.rolls-Not inner)) ∙ fold-roll-Expression Bool digits_layer (Expression-F.Not inner)

pub has_digits-Pair : (operator : Operator) (left right : Expression) → has_digits (e.Pair operator left right) ≡ has_digits left && has_digits right
unfolding has_digits
has_digits-Pair operator left right = ap (fold-Expression Bool digits_layer) (sym (e.rolls-Pair operator left right)) ∙ fold-roll-Expression Bool digits_layer (Expression-F.Pair operator left right)

-- an expression is one of its forms
by_form : (P : Expression → Type 0) → P e.Register → P e.WriteData → ((wire : Wire) → P (e.Repeated wire)) → ((high low : ℕ) → P (e.Constant high low))
    → ((inner : Expression) → P (e.Not inner)) → ((operator : Operator) (left right : Expression) → P (e.Pair operator left right))
    → (form : Expression-F Expression) → P (roll-Expression form)
by_form P a b c d f g Expression-F.Register = subst P (sym e.rolls-Register) a
by_form P a b c d f g Expression-F.WriteData = subst P (sym e.rolls-WriteData) b
by_form P a b c d f g (Expression-F.Repeated wire) = subst P (sym (e.rolls-Repeated wire)) (c wire)
by_form P a b c d f g (Expression-F.Constant high low) = subst P (sym (e.rolls-Constant high low)) (d high low)
by_form P a b c d f g (Expression-F.Not inner) = subst P (sym (e.rolls-Not inner)) (f inner)
by_form P a b c d f g (Expression-F.Pair operator left right) = subst P (sym (e.rolls-Pair operator left right)) (g operator left right)

pub by_variant : (P : Expression → Type 0) → P e.Register → P e.WriteData → ((wire : Wire) → P (e.Repeated wire)) → ((high low : ℕ) → P (e.Constant high low))
    → ((inner : Expression) → P (e.Not inner)) → ((operator : Operator) (left right : Expression) → P (e.Pair operator left right))
    → (expression : Expression) → P expression
by_variant P a b c d f g expression = subst P (roll-out-Expression expression) (by_form P a b c d f g (out-Expression expression))
