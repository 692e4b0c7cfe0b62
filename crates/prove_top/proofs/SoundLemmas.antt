-- What is read from the front of a text is spelled there.
use Rattle.std.proofs.Common.{◌≡◌, ℕ, zero, suc, ◌<◌, Bool, true, false, if◌then◌else◌, List, [], ◌∷◌, ◌++◌, length, take, drop, codes, Option, Some, None, refl, sym, ◌∙◌, ap, subst, append_assoc, take-append-drop, arith}
use Rattle.std.proofs.lemmas.Bool.{and_from}
use Rattle.std.proofs.lemmas.Slice.Eq.{bytes_eq-Decides}
use Rattle.trace_replay.specs.declared.expression.Wire.{Wire}
use Rattle.trace_replay.specs.declared.expression.Wire.TheVariants.{ResetN, Select, Enable, Write, Address0, Address1}
use Rattle.trace_replay.specs.declared.expression.Operator.{Operator}
use Rattle.trace_replay.specs.declared.expression.Operator.TheVariants.{And, Or, Xor}
use Rattle.trace_replay.specs.declared.expression.Expression.{Expression}
use Rattle.trace_replay.specs.declared.expression.Expression.TheVariants as e
use Rattle.prove_top.specs.Spelling.{spelling, nest, has_digits, is_digit, wire_text, operator_text}
use Rattle.prove_top.specs.Reading.{Read, then_read, begins, past, marked, wire_at, operator_at, repeated_at, digit_at, constant_at, inverse_at, pair_at, form_at, expression_at}
use Rattle.prove_top.proofs.SpellingLemmas.{spelling-Register, spelling-WriteData, spelling-Repeated, spelling-Constant, spelling-Not, spelling-Pair, nest-Register, nest-WriteData, nest-Repeated, nest-Constant, nest-Not, nest-Pair, has_digits-Register, has_digits-WriteData, has_digits-Repeated, has_digits-Constant, has_digits-Not, has_digits-Pair}

-- cases of a reading that found something
pub if_cases : {A : Type 0} (b : Bool) (x y : Option A) (z : A) (Q : Type 0) → (if b then x else y) ≡ Some z → (b ≡ true → x ≡ Some z → Q) → (b ≡ false → y ≡ Some z → Q) → Q
if_cases true x y z Q h f g = f refl h
if_cases false x y z Q h f g = g refl h

pub then_cases : {A B : Type 0} (r : Read A) (f : A → List ℕ → Read B) (z : B × List ℕ) (Q : Type 0) → then_read r f ≡ Some z
    → ((a : A) (rest : List ℕ) → r ≡ Some (a, rest) → f a rest ≡ Some z → Q) → Q
then_cases None f z Q h k = cc
then_cases (Some p) f z Q h k = k p.0 p.1 refl h

pub none_some : {A : Type 0} (z : A) (Q : Type 0) → ◌≡◌ {A = Option A} None (Some z) → Q
none_some z Q h = cc

pub same_pair : {A : Type 0} (a b : A) (r s : List ℕ) (P : A → List ℕ → Type 0) → ◌≡◌ {A = Option (A × List ℕ)} (Some (a, r)) (Some (b, s)) → P a r → P b s
same_pair {A} a b r s P same p =
    let pair : ◌≡◌ {A = A × List ℕ} (a, r) (b, s) = cc in
    let Q : A × List ℕ → Type 0 = λ q. P q.0 q.1 in
    subst Q pair p

pub begins-split : (text bytes : List ℕ) → begins text bytes ≡ true → bytes ≡ text ++ past text bytes
begins-split text bytes h =
    sym (take-append-drop (length text) bytes)
    ∙ ap (λ front. front ++ drop (length text) bytes) (sym ((bytes_eq-Decides text (take (length text) bytes)).0 h))

pub marked_sound : {A : Type 0} (text : List ℕ) (value : A) (bytes : List ℕ) (x : A) (rest : List ℕ) → marked text value bytes ≡ Some (x, rest)
    → (bytes ≡ text ++ rest) × (value ≡ x)
marked_sound {A} text value bytes x rest h =
    if_cases (begins text bytes) (Some (value, past text bytes)) None (x, rest) ((bytes ≡ text ++ rest) × (value ≡ x)) h
    (λ is same. same_pair value x (past text bytes) rest (λ a r. (bytes ≡ text ++ r) × (value ≡ a)) same (begins-split text bytes is, refl))
    (λ is none. none_some (x, rest) ((bytes ≡ text ++ rest) × (value ≡ x)) none)

-- one choice of a table of marks
choice_sound : {A : Type 0} (text_of : A → List ℕ) (a : A) (bytes : List ℕ) (other : Read A) (x : A) (rest : List ℕ)
    → (if begins (text_of a) bytes then Some (a, past (text_of a) bytes) else other) ≡ Some (x, rest)
    → (other ≡ Some (x, rest) → bytes ≡ text_of x ++ rest) → bytes ≡ text_of x ++ rest
choice_sound text_of a bytes other x rest h more =
    if_cases (begins (text_of a) bytes) (Some (a, past (text_of a) bytes)) other (x, rest) (bytes ≡ text_of x ++ rest) h
    (λ is same. same_pair a x (past (text_of a) bytes) rest (λ b r. bytes ≡ text_of b ++ r) same (begins-split (text_of a) bytes is))
    (λ is found. more found)

wire_sound : (bytes : List ℕ) (wire : Wire) (rest : List ℕ) → wire_at bytes ≡ Some (wire, rest) → bytes ≡ wire_text wire ++ rest
unfolding wire_at
wire_sound bytes wire rest h =
    choice_sound wire_text ResetN bytes _ wire rest h (λ h. choice_sound wire_text Select bytes _ wire rest h (λ h.
    choice_sound wire_text Enable bytes _ wire rest h (λ h. choice_sound wire_text Write bytes _ wire rest h (λ h.
    choice_sound wire_text Address0 bytes _ wire rest h (λ h. choice_sound wire_text Address1 bytes _ wire rest h (λ h.
    none_some (wire, rest) (bytes ≡ wire_text wire ++ rest) h))))))

operator_sound : (bytes : List ℕ) (operator : Operator) (rest : List ℕ) → operator_at bytes ≡ Some (operator, rest) → bytes ≡ operator_text operator ++ rest
unfolding operator_at
operator_sound bytes operator rest h =
    choice_sound operator_text And bytes _ operator rest h (λ h. choice_sound operator_text Or bytes _ operator rest h (λ h.
    choice_sound operator_text Xor bytes _ operator rest h (λ h. none_some (operator, rest) (bytes ≡ operator_text operator ++ rest) h)))

digit_sound : (bytes : List ℕ) (byte : ℕ) (rest : List ℕ) → digit_at bytes ≡ Some (byte, rest) → (bytes ≡ byte ∷ rest) × (is_digit byte ≡ true)
unfolding digit_at
digit_sound [] byte rest h = none_some (byte, rest) (([] ≡ byte ∷ rest) × (is_digit byte ≡ true)) h
digit_sound (first ∷ more) byte rest h =
    if_cases (is_digit first) (Some (first, more)) None (byte, rest) ((first ∷ more ≡ byte ∷ rest) × (is_digit byte ≡ true)) h
    (λ is same. same_pair first byte more rest (λ b r. (first ∷ more ≡ b ∷ r) × (is_digit b ≡ true)) same (refl, is))
    (λ is none. none_some (byte, rest) ((first ∷ more ≡ byte ∷ rest) × (is_digit byte ≡ true)) none)

-- an expression that nests less than this stands at the front of the text
pub record StandsAt (room : ℕ) (bytes : List ℕ) (expression : Expression) (rest : List ℕ) : Type 0 where
  pub split : bytes ≡ spelling expression ++ rest
  pub digits : has_digits expression ≡ true
  pub nested : nest expression < room

repeated_sound : (bytes : List ℕ) (expression : Expression) (rest : List ℕ) (room : ℕ) → repeated_at bytes ≡ Some (expression, rest)
    → StandsAt (suc room) (codes "{8{" ++ bytes) expression rest
unfolding repeated_at
repeated_sound bytes expression rest room h =
    then_cases (wire_at bytes) _ (expression, rest) (StandsAt (suc room) (codes "{8{" ++ bytes) expression rest) h (λ wire r1 first second.
    let one : bytes ≡ wire_text wire ++ r1 = wire_sound bytes wire r1 first in
    let two = marked_sound (codes "}}") (e.Repeated wire) r1 expression rest second in
    let P : Expression → Type 0 = λ x. StandsAt (suc room) (codes "{8{" ++ bytes) x rest in
    subst P two.1 (record {
      split = rw (spelling-Repeated wire, one, two.0) (ap (λ t. codes "{8{" ++ t) (sym (append_assoc (wire_text wire) (codes "}}") rest)));
      digits = has_digits-Repeated wire;
      nested = omega (arith, nest-Repeated wire);
    }))

constant_sound : (bytes : List ℕ) (expression : Expression) (rest : List ℕ) (room : ℕ) → constant_at bytes ≡ Some (expression, rest)
    → StandsAt (suc room) (codes "8'h" ++ bytes) expression rest
unfolding constant_at
constant_sound bytes expression rest room h =
    then_cases (digit_at bytes) _ (expression, rest) (StandsAt (suc room) (codes "8'h" ++ bytes) expression rest) h (λ high r1 first second.
    then_cases (digit_at r1) _ (expression, rest) (StandsAt (suc room) (codes "8'h" ++ bytes) expression rest) second (λ low r2 third last.
    let one = digit_sound bytes high r1 first in
    let two = digit_sound r1 low r2 third in
    same_pair (e.Constant high low) expression r2 rest (λ x r. StandsAt (suc room) (codes "8'h" ++ bytes) x r) last (record {
      split = rw (spelling-Constant high low, one.0, two.0) refl;
      digits = has_digits-Constant high low ∙ and_from (is_digit high) (is_digit low) one.1 two.1;
      nested = omega (arith, nest-Constant high low);
    })))

abbrev Sound : ℕ → Type 0
Sound room = (bytes : List ℕ) (expression : Expression) (rest : List ℕ) → expression_at room bytes ≡ Some (expression, rest) → StandsAt room bytes expression rest

module _ (room : ℕ) (inner : Sound room) where
  not_sound : (bytes : List ℕ) (expression : Expression) (rest : List ℕ) → inverse_at (expression_at room) bytes ≡ Some (expression, rest)
      → StandsAt (suc room) (codes "~" ++ bytes) expression rest
  unfolding inverse_at
  not_sound bytes expression rest h =
      then_cases (expression_at room bytes) _ (expression, rest) (StandsAt (suc room) (codes "~" ++ bytes) expression rest) h (λ part r1 first last.
      let one = inner bytes part r1 first in
      same_pair (e.Not part) expression r1 rest (λ x r. StandsAt (suc room) (codes "~" ++ bytes) x r) last (record {
        split = rw (spelling-Not part, one.split) refl;
        digits = has_digits-Not part ∙ one.digits;
        nested = let less : nest part < room = one.nested in omega (arith, nest-Not part);
      }))

  pair_sound : (bytes : List ℕ) (expression : Expression) (rest : List ℕ) → pair_at (expression_at room) bytes ≡ Some (expression, rest)
      → StandsAt (suc room) (codes "(" ++ bytes) expression rest
  unfolding pair_at
  pair_sound bytes expression rest h =
      then_cases (expression_at room bytes) _ (expression, rest) (StandsAt (suc room) (codes "(" ++ bytes) expression rest) h (λ left r1 first h.
      then_cases (operator_at r1) _ (expression, rest) (StandsAt (suc room) (codes "(" ++ bytes) expression rest) h (λ operator r2 second h.
      then_cases (expression_at room r2) _ (expression, rest) (StandsAt (suc room) (codes "(" ++ bytes) expression rest) h (λ right r3 third last.
      let one = inner bytes left r1 first in
      let two : r1 ≡ operator_text operator ++ r2 = operator_sound r1 operator r2 second in
      let three = inner r2 right r3 third in
      let four = marked_sound (codes ")") (e.Pair operator left right) r3 expression rest last in
      let P : Expression → Type 0 = λ x. StandsAt (suc room) (codes "(" ++ bytes) x rest in
      let text : bytes ≡ spelling left ++ (operator_text operator ++ (spelling right ++ (codes ")" ++ rest))) = one.split ∙ ap (λ t. spelling left ++ t) (two ∙ ap (λ t. operator_text operator ++ t) (three.split ∙ ap (λ t. spelling right ++ t) four.0)) in
      subst P four.1 (record {
        split = rw (spelling-Pair operator left right, text, append_assoc (spelling left), append_assoc (operator_text operator), append_assoc (spelling right)) refl;
        digits = has_digits-Pair operator left right ∙ and_from (has_digits left) (has_digits right) one.digits three.digits;
        nested = let ln : nest left < room = one.nested in let rn : nest right < room = three.nested in omega (arith, nest-Pair operator left right);
      }))))

  -- a form whose mark is this one
  from_mark : (mark bytes : List ℕ) (expression : Expression) (rest : List ℕ) → begins mark bytes ≡ true → StandsAt (suc room) (mark ++ past mark bytes) expression rest
      → StandsAt (suc room) bytes expression rest
  from_mark mark bytes expression rest is stands =
      let P : List ℕ → Type 0 = λ t. StandsAt (suc room) t expression rest in
      subst P (sym (begins-split mark bytes is)) stands

  form_sound : (bytes : List ℕ) (expression : Expression) (rest : List ℕ) → form_at (expression_at room) bytes ≡ Some (expression, rest) → StandsAt (suc room) bytes expression rest
  unfolding form_at
  form_sound bytes expression rest h =
      if_cases (begins (codes "v") bytes) _ _ (expression, rest) (StandsAt (suc room) bytes expression rest) h
      (λ is same. same_pair e.Register expression (past (codes "v") bytes) rest (λ x r. StandsAt (suc room) bytes x r) same (record {
        split = rw spelling-Register (begins-split (codes "v") bytes is);
        digits = has_digits-Register;
        nested = omega (arith, nest-Register);
      })) (λ is h.
      if_cases (begins (codes "pwdata") bytes) _ _ (expression, rest) (StandsAt (suc room) bytes expression rest) h
      (λ is same. same_pair e.WriteData expression (past (codes "pwdata") bytes) rest (λ x r. StandsAt (suc room) bytes x r) same (record {
        split = rw spelling-WriteData (begins-split (codes "pwdata") bytes is);
        digits = has_digits-WriteData;
        nested = omega (arith, nest-WriteData);
      })) (λ is h.
      if_cases (begins (codes "{8{") bytes) _ _ (expression, rest) (StandsAt (suc room) bytes expression rest) h
      (λ is h. from_mark (codes "{8{") bytes expression rest is (repeated_sound (past (codes "{8{") bytes) expression rest room h)) (λ is h.
      if_cases (begins (codes "8'h") bytes) _ _ (expression, rest) (StandsAt (suc room) bytes expression rest) h
      (λ is h. from_mark (codes "8'h") bytes expression rest is (constant_sound (past (codes "8'h") bytes) expression rest room h)) (λ is h.
      if_cases (begins (codes "~") bytes) _ _ (expression, rest) (StandsAt (suc room) bytes expression rest) h
      (λ is h. from_mark (codes "~") bytes expression rest is (not_sound (past (codes "~") bytes) expression rest h)) (λ is h.
      if_cases (begins (codes "(") bytes) _ _ (expression, rest) (StandsAt (suc room) bytes expression rest) h
      (λ is h. from_mark (codes "(") bytes expression rest is (pair_sound (past (codes "(") bytes) expression rest h)) (λ is h.
      none_some (expression, rest) (StandsAt (suc room) bytes expression rest) h))))))

pub sound : (room : ℕ) → Sound room
unfolding expression_at
sound zero bytes expression rest h = none_some (expression, rest) (StandsAt zero bytes expression rest) h
sound (suc room) bytes expression rest h = form_sound room (sound room) bytes expression rest h
