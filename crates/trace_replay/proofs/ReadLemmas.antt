-- The steps of a reading, and the first line of a text that is wrong.
use Rattle.std.proofs.Common.{◌≡◌, ◌≢◌, ℕ, zero, suc, ◌+◌, ◌-◌, ◌<◌, ◌≤◌, ◌⊎◌, ◌==◌, nat_lt, Bool, true, false, ◌&&◌, List, [], ◌∷◌, ◌++◌, length, map, reverse, take, drop, get_or, Err, refl, sym, ◌∙◌, ap, subst, arith, inl, inr, append_assoc, length-append, add-zero, codes}
use Rattle.std.specs.List.{list_all}
use Rattle.std.proofs.lemmas.Bool.{and_parts, and_from, false≢true, cases_order}
use Rattle.std.proofs.lemmas.List.{get_or_append_left, get_or-append-add, get_or-append_right, get_or-map, length-map, map-append}
use Rattle.std.proofs.lemmas.List.Folds.{list_all-append}
use Rattle.trace_replay.specs.declared.fault.TraceCode.{TraceCode}
use Rattle.trace_replay.specs.declared.fault.TraceCode.TheVariants as code
use Rattle.trace_replay.specs.declared.fault.TraceFault.{TraceFault}
use Rattle.trace_replay.specs.declared.fault.TraceFault.TheVariants.{NoMemory, At}
use Rattle.trace_replay.specs.declared.input.Input.{Input}
use Rattle.trace_replay.specs.declared.input.Input.TheVariants as input
use Rattle.trace_replay.specs.declared.input.TheConstants.{INPUTS, INPUT_BITS}
use Rattle.trace_replay.specs.declared.trace.TheConstants.{START_BITS, EDGE_LIMIT}
use Rattle.trace_replay.specs.Inputs.{input_label, input_width}
use Rattle.trace_replay.specs.LegalTrace.{HasSizes}
use Rattle.trace_replay.specs.Lines.{has_form, has_edge_form, lines_of}
use Rattle.trace_replay.specs.Reading.{line_at, HasLine, IsTraceLine, IsRight, IsEnd, IsLast, IsOfForm, IsFirstOther, IsWrongLine, IsWrongName}
use Rattle.trace_replay.specs.Steps.{Begins, IsEndAt, IsRefusedAt, StepRefused, WrongAt, ReadsLines}
use Rattle.std.specs.declared.vec.Vec.{Vec}
use Rattle.std.specs.declared.alloc.Global.{Global}
use Rattle.trace_replay.specs.Trace.{HasAllInputs, lists_of}
use Rattle.trace_replay.specs.TraceText.{digits, field_text, fields_text, header_line, start_line, edge_line, end_line, trace_lines, text_of_lines, trace_text}
use Rattle.trace_replay.proofs.DigitLemmas.{digit_of}
use Rattle.trace_replay.proofs.FieldLemmas.{same_edges, same_starts}
use Rattle.trace_replay.proofs.LineLemmas.{is_feed, is_plain, plain-append, are_plain, lines-text, text-lines}

-- the last line isn't that of an edge, nor has it its form
pub end-edge : (bits : List Bool) → end_line ≢ edge_line bits
unfolding edge_line
end-edge bits same = absurd (omega (arith, ap (λ (l : List ℕ). get_or l 1 0) same))

end-form : (place : ℕ) → has_form (suc (suc place)) end_line ≡ true → ⊥
unfolding has_form
end-form place h = false≢true (and_parts (nat_lt place EDGE_LIMIT) (has_edge_form end_line) h).1

-- the next line, where it is the last and text follows
pub read-over : (lines new : List (List ℕ)) (line : List ℕ) (edge n : ℕ) → lines ≡ line ∷ new → 0 < length new → line ≡ end_line
    → (new ≡ [] ∷ [] → ⊥) → n ≡ edge + 4 → StepRefused (suc (suc edge)) lines (At code.TraceLine n)
read-over lines [] line edge n split some last other is = absurd (omega arith)
read-over lines (next ∷ more) line edge n split some last other is =
    rw (split, last) (
      λ due. end-edge due.1.0 due.1.2,
      inr (refl, λ same. other (tail-same same), is ∙ omega arith),
    )
  where
    tail-same : end_line ∷ next ∷ more ≡ end_line ∷ [] ∷ [] → next ∷ more ≡ [] ∷ []
    tail-same same = cc

-- a fact about the next line, by its place
pub begins-from : (rest : List (List ℕ)) (P : List ℕ → Type 0) → 1 < length rest → P (line_at rest 0) → Begins rest P
begins-from [] P more p = absurd (omega arith)
begins-from (line ∷ []) P more p = absurd (omega arith)
begins-from (line ∷ next ∷ rest) P more p = p

pub begins-to : (rest : List (List ℕ)) (P : List ℕ → Type 0) → Begins rest P → (1 < length rest) × P (line_at rest 0)
begins-to [] P h = absurd h
begins-to (line ∷ []) P h = absurd h
begins-to (line ∷ next ∷ rest) P h = (omega arith, h)

-- lines after others, by their places
module _ (before rest : List (List ℕ)) where
  at-place : line_at (before ++ rest) (length before) ≡ line_at rest 0
  at-place = ap (λ n. line_at (before ++ rest) n) (sym (add-zero (length before))) ∙ get_or-append-add before rest 0 []

  long-place : length (before ++ rest) ≡ length before + length rest
  long-place = length-append before rest

  to-begins : (P : List ℕ → Type 0) → HasLine (before ++ rest) (length before) → P (line_at (before ++ rest) (length before)) → Begins rest P
  to-begins P there p = begins-from rest P (omega (arith, long-place)) (subst P at-place p)

  from-begins : (P : List ℕ → Type 0) → Begins rest P → HasLine (before ++ rest) (length before) × P (line_at (before ++ rest) (length before))
  from-begins P h =
      let there = begins-to rest P h in
      (omega (arith, long-place, there.0), subst P (sym at-place) there.1)

end-at : (place : ℕ) (line : List ℕ) → 2 ≤ place → line ≡ end_line → IsEndAt place line
end-at zero line after is = absurd (omega arith)
end-at (suc zero) line after is = absurd (omega arith)
end-at (suc (suc edge)) line after is = is

at-end : (place : ℕ) (line : List ℕ) → IsEndAt place line → (2 ≤ place) × (line ≡ end_line)
at-end zero line h = absurd h
at-end (suc zero) line h = absurd h
at-end (suc (suc edge)) line h = (omega arith, h)

-- a step that is refused, after lines that are right
module _ (before rest : List (List ℕ)) (right : (k : ℕ) → k < length before → IsRight (before ++ rest) k) where
  abbrev here : ℕ
  here = length before

  abbrev both : List (List ℕ)
  both = before ++ rest

  no-end : (Begins rest (IsEndAt here) → ⊥) → IsEnd both here → ⊥
  no-end none end = none (to-begins before rest (IsEndAt here) end.there (end-at here (line_at both here) end.after_start end.last))

  an-end : Begins rest (IsEndAt here) → IsEnd both here
  an-end h =
      let there = from-begins before rest (IsEndAt here) h in
      let parts = at-end here (line_at both here) there.1 in
      record { there = there.0; after_start = parts.0; last = parts.1 }

  two-both : (xs : List (List ℕ)) → length xs ≡ 2 → line_at xs 0 ≡ end_line → line_at xs 1 ≡ [] → xs ≡ end_line ∷ [] ∷ []
  two-both [] n a b = absurd (omega arith)
  two-both (x ∷ []) n a b = absurd (omega arith)
  two-both (x ∷ y ∷ []) n a b = cc
  two-both (x ∷ y ∷ z ∷ xs) n a b = absurd (omega arith)

  no-last : Begins rest (IsEndAt here) → rest ≢ end_line ∷ [] ∷ [] → IsLast both here → ⊥
  no-last h other is_last =
      let end = an-end h in
      other (two-both rest (omega (arith, is_last.one_more, long-place before rest)) (sym (at-place before rest) ∙ end.last)
      (sym (get_or-append-add before rest 1 []) ∙ is_last.empty))

  first-other : (Begins rest (IsTraceLine here) → ⊥) → IsFirstOther both here
  first-other other = record { before = right; here = λ r. other (to-begins before rest (IsTraceLine here) r.there r.right) }

  no-form : (Begins rest (λ l. has_form here l ≡ true) → ⊥) → IsOfForm both here → ⊥
  no-form none form = none (to-begins before rest (λ l. has_form here l ≡ true) form.there form.form)

  pub refused : (what : TraceCode) (line : ℕ) → (Begins rest (IsTraceLine here) → ⊥) → IsRefusedAt here rest what line → WrongAt both what line
  refused code.TraceName line other why =
      let there = from-begins before rest (λ l. has_form here l ≡ true) why.0 in
      record { place = here; first = first-other other; form = record { there = there.0; form = there.1 }; number = why.1 }
  refused code.TraceLine line other (inl why) =
      record { place = here; first = first-other other; why = inl (no-end why.0, no-form why.1, why.2) }
  refused code.TraceLine line other (inr why) =
      record { place = here; first = first-other other; why = inr (an-end why.0, no-last why.0 why.1, why.2) }
  refused code.TraceIllegal line other why = absurd why
  refused code.TraceSize line other why = absurd why

-- the edges of a trace, by their places
pub whole-get : (edges : List (List Bool)) (k : ℕ) → HasAllInputs edges → k < length edges → length (get_or edges k []) ≡ INPUT_BITS
whole-get [] k whole below = absurd (omega arith)
whole-get (edge ∷ edges) zero whole below = whole.0
whole-get (edge ∷ edges) (suc k) whole below = whole-get edges k whole.1 (omega arith)

-- the first lines of a trace, before any others
abbrev pub opening : List Bool → List (List Bool) → List (List ℕ)
opening start edges = header_line ∷ start_line start ∷ map edge_line edges

pub opening-length : (start : List Bool) (edges : List (List Bool)) → length (opening start edges) ≡ suc (suc (length edges))
opening-length start edges = ap (λ n. suc (suc n)) (length-map edges edge_line)

pub opening-right : (start : List Bool) (edges : List (List Bool)) (rest : List (List ℕ)) → HasSizes start edges → 0 < length rest
    → (k : ℕ) → k < length (opening start edges) → IsRight (opening start edges ++ rest) k
opening-right start edges rest sizes some zero below =
    record { there = omega (arith, length-append (map edge_line edges) rest); right = refl }
opening-right start edges rest sizes some (suc zero) below =
    record { there = omega (arith, length-append (map edge_line edges) rest); right = (start, sizes.start_bits, refl) }
opening-right start edges rest sizes some (suc (suc edge)) below =
    let here : edge < length edges = omega (arith, length-map edges edge_line) in
    record {
      there = omega (arith, length-append (map edge_line edges) rest, length-map edges edge_line);
      right = (
        omega (arith, sizes.few),
        (
          get_or edges edge [],
          whole-get edges edge sizes.input_bits here,
          get_or_append_left (map edge_line edges) rest [] edge (omega arith) ∙ get_or-map edge_line edges edge [] [] here,
        ),
      );
    }

-- one edge more
pub opening-push : (start : List Bool) (edges : List (List Bool)) (edge : List Bool) (rest : List (List ℕ))
    → opening start edges ++ (edge_line edge ∷ rest) ≡ opening start (edges ++ edge ∷ []) ++ rest
opening-push start edges edge rest =
    ap (λ more. header_line ∷ start_line start ∷ more)
    (sym (append_assoc (map edge_line edges) (edge_line edge ∷ []) rest) ∙ ap (λ front. front ++ rest) (sym (map-append edge_line edges (edge ∷ []))))

inputs-push : (edges : List (List Bool)) (edge : List Bool) → HasAllInputs edges → length edge ≡ INPUT_BITS → HasAllInputs (edges ++ edge ∷ [])
inputs-push [] edge whole long = (long, tt)
inputs-push (first ∷ edges) edge whole long = (whole.0, inputs-push edges edge whole.1 long)

pub sizes-push : (start : List Bool) (edges : List (List Bool)) (edge : List Bool) → HasSizes start edges → length edge ≡ INPUT_BITS → length edges < EDGE_LIMIT
    → HasSizes start (edges ++ edge ∷ [])
sizes-push start edges edge sizes long few = record {
  start_bits = sizes.start_bits;
  input_bits = inputs-push edges edge sizes.input_bits long;
  few = omega (arith, length-append edges (edge ∷ []));
}

-- a step that is refused, told of the whole text
refused-lines : (lines before rest : List (List ℕ)) → lines ≡ before ++ rest → ((k : ℕ) → k < length before → IsRight (before ++ rest) k)
    → (place : ℕ) → place ≡ length before → (fault : TraceFault) → StepRefused place rest fault → ReadsLines lines (Err fault)
refused-lines lines before rest split right place at NoMemory step = tt
refused-lines lines before rest split right place at (At what line) step =
    let P : List (List ℕ) → Type 0 = λ l. WrongAt l what line in
    let Q : ℕ → Type 0 = λ n. StepRefused n rest (At what line) in
    let here = subst Q at step in
    subst P (sym split) (refused before rest right what line here.0 here.1)

pub refused-header : (lines : List (List ℕ)) (fault : TraceFault) → StepRefused 0 lines fault → ReadsLines lines (Err fault)
refused-header lines fault step = refused-lines lines [] lines refl (λ k below. absurd (omega arith)) 0 refl fault step

header-right : (rest : List (List ℕ)) → 0 < length rest → (k : ℕ) → k < 1 → IsRight (header_line ∷ rest) k
header-right rest some zero below = record { there = omega arith; right = refl }
header-right rest some (suc k) below = absurd (omega arith)

pub refused-start : (lines rest : List (List ℕ)) → lines ≡ header_line ∷ rest → 0 < length rest → (fault : TraceFault) → StepRefused 1 rest fault
    → ReadsLines lines (Err fault)
refused-start lines rest split some fault step = refused-lines lines (header_line ∷ []) rest split (header-right rest some) 1 refl fault step

pub refused-edge : (lines rest : List (List ℕ)) (start : List Bool) (edges : List (List Bool)) (n : ℕ) → lines ≡ opening start edges ++ rest → 0 < length rest
    → HasSizes start edges → n ≡ length edges → (fault : TraceFault) → StepRefused (suc (suc n)) rest fault → ReadsLines lines (Err fault)
refused-edge lines rest start edges n split some sizes count fault step =
    refused-lines lines (opening start edges) rest split (opening-right start edges rest sizes some) (suc (suc n))
    (ap (λ m. suc (suc m)) count ∙ sym (opening-length start edges)) fault step

-- all lines
pub read-all : (lines rest : List (List ℕ)) (start : List Bool) (edges : List (List Bool)) → lines ≡ opening start edges ++ rest → rest ≡ end_line ∷ [] ∷ []
    → lines ≡ trace_lines start edges ++ [] ∷ []
read-all lines rest start edges split last =
    split ∙ ap (λ r. opening start edges ++ r) last
    ∙ ap (λ more. header_line ∷ start_line start ∷ more) (sym (append_assoc (map edge_line edges) (end_line ∷ []) ([] ∷ [])))

-- the lines of a trace have no line feed within
digits-plain : (bits : List Bool) → is_plain (map digit_of bits) ≡ true
digits-plain [] = refl
digits-plain (true ∷ bits) = digits-plain bits
digits-plain (false ∷ bits) = digits-plain bits

label-plain : (input : Input) → is_plain (input_label input) ≡ true
label-plain input.ResetN = refl
label-plain input.Select = refl
label-plain input.Enable = refl
label-plain input.Write = refl
label-plain input.Address = refl
label-plain input.WriteData = refl

field-plain : (name : List ℕ) (bits : List Bool) → is_plain name ≡ true → is_plain (field_text name bits) ≡ true
field-plain name bits plain = plain-append name (digits bits) plain (digits-plain (reverse bits))

fields-plain : (inputs : List Input) (bits : List Bool) → is_plain (fields_text inputs bits) ≡ true
fields-plain [] bits = refl
fields-plain (input ∷ inputs) bits =
    plain-append (field_text (input_label input) (take (input_width input) bits)) (fields_text inputs (drop (input_width input) bits))
    (field-plain (input_label input) (take (input_width input) bits) (label-plain input)) (fields-plain inputs (drop (input_width input) bits))

edge-plain : (bits : List Bool) → is_plain (edge_line bits) ≡ true
unfolding edge_line
edge-plain bits = plain-append (codes "edge") (fields_text INPUTS bits) refl (fields-plain INPUTS bits)

edges-plain : (edges : List (List Bool)) → are_plain (map edge_line edges ++ end_line ∷ []) ≡ true
edges-plain [] = refl
edges-plain (edge ∷ edges) = and_from _ _ (edge-plain edge) (edges-plain edges)

trace-plain : (start : List Bool) (edges : List (List Bool)) → are_plain (trace_lines start edges) ≡ true
trace-plain start edges = and_from _ _ refl (and_from _ _ (field-plain (codes "start v ") start refl) (edges-plain edges))

-- a text is that of a trace exactly where its lines are
pub trace-lines : (bytes : List ℕ) (start : List Bool) (edges : List (List Bool)) → bytes ≡ trace_text start edges → lines_of bytes ≡ trace_lines start edges ++ [] ∷ []
unfolding trace_text
trace-lines bytes start edges is = ap lines_of is ∙ lines-text (trace_lines start edges) (trace-plain start edges)

pub lines-trace : (bytes : List ℕ) (start : List Bool) (edges : List (List Bool)) → lines_of bytes ≡ trace_lines start edges ++ [] ∷ [] → bytes ≡ trace_text start edges
unfolding trace_text
lines-trace bytes start edges same = text-lines bytes (trace_lines start edges) same

-- its last line is the first that is no right line before the last, and nothing follows it
pub record IsWhole (lines : List (List ℕ)) (place : ℕ) : Type 0 where
  pub first : IsFirstOther lines place
  pub end : IsEnd lines place
  pub last : IsLast lines place

minus-same : (n : ℕ) → n - n ≡ 0
minus-same n = omega arith

minus-one : (n : ℕ) → n + 1 - n ≡ 1
minus-one n = omega arith

whole-opening : (start : List Bool) (edges : List (List Bool)) → HasSizes start edges → IsWhole (opening start edges ++ (end_line ∷ [] ∷ [])) (suc (suc (length edges)))
whole-opening start edges sizes =
    let rest : List (List ℕ) = end_line ∷ [] ∷ [] in
    let long : length (opening start edges ++ rest) ≡ suc (suc (length edges)) + 2 = omega (arith, length-append (map edge_line edges) rest, length-map edges edge_line) in
    let here : line_at (opening start edges ++ rest) (suc (suc (length edges))) ≡ end_line =
    get_or-append_right (map edge_line edges) rest (length edges) (length edges) [] (length-map edges edge_line) (omega arith) ∙ ap (λ n. get_or rest n []) (minus-same (length edges)) in
    let next : suc (suc (length edges)) + 1 ≡ suc (suc (length edges + 1)) = omega arith in
    let after : line_at (opening start edges ++ rest) (suc (suc (length edges)) + 1) ≡ [] =
    ap (λ n. line_at (opening start edges ++ rest) n) next ∙ get_or-append_right (map edge_line edges) rest (length edges) (length edges + 1) [] (length-map edges edge_line) (omega arith) ∙ ap (λ n. get_or rest n []) (minus-one (length edges)) in
    record {
      first = record {
        before = λ k below. opening-right start edges rest sizes (omega arith) k (omega (arith, opening-length start edges));
        here = λ r. end-edge r.right.1.0 (sym here ∙ r.right.1.2);
      };
      end = record { there = omega arith; after_start = omega arith; last = here };
      last = record { one_more = long; empty = after };
    }

pub whole : (lines : List (List ℕ)) (start : List Bool) (edges : List (List Bool)) → HasSizes start edges → lines ≡ trace_lines start edges ++ [] ∷ []
    → IsWhole lines (suc (suc (length edges)))
whole lines start edges sizes same =
    let rest : List (List ℕ) = end_line ∷ [] ∷ [] in
    let split : lines ≡ opening start edges ++ rest =
    same ∙ ap (λ more. header_line ∷ start_line start ∷ more) (append_assoc (map edge_line edges) (end_line ∷ []) ([] ∷ [])) in
    let P : List (List ℕ) → Type 0 = λ l. IsWhole l (suc (suc (length edges))) in
    subst P (sym split) (whole-opening start edges sizes)

-- there is one such first line
pub one-place : (lines : List (List ℕ)) (p q : ℕ) → IsFirstOther lines p → IsFirstOther lines q → p ≡ q
one-place lines p q one two = elim (cases_order p q) [
  | inl same ↦ same
  | inr other ↦ elim other [
    | inl below ↦ absurd (one.here (two.before p below))
    | inr above ↦ absurd (two.here (one.before q above))
  ]
]

form-end : (lines : List (List ℕ)) (place : ℕ) → IsOfForm lines place → IsEnd lines place → ⊥
form-end lines zero form end = absurd (omega (arith, end.after_start))
form-end lines (suc zero) form end = absurd (omega (arith, end.after_start))
form-end lines (suc (suc edge)) form end = end-form edge (sym (ap (has_form (suc (suc edge))) end.last) ∙ form.form)

-- the answers to a text exclude each other
pub whole-or-line : (lines : List (List ℕ)) (p line : ℕ) → IsWhole lines p → IsWrongLine lines line → ⊥
whole-or-line lines p line all wrong =
    let P : ℕ → Type 0 = λ q. IsEnd lines q × IsLast lines q in
    let here = subst P (one-place lines p wrong.place all.first wrong.first) (all.end, all.last) in
    elim wrong.why [ inl why ↦ why.0 here.0 | inr why ↦ why.1 here.1 ]

pub whole-or-name : (lines : List (List ℕ)) (p line : ℕ) → IsWhole lines p → IsWrongName lines line → ⊥
whole-or-name lines p line all wrong =
    let P : ℕ → Type 0 = λ q. IsEnd lines q in
    form-end lines wrong.place wrong.form (subst P (one-place lines p wrong.place all.first wrong.first) all.end)

pub line-or-name : (lines : List (List ℕ)) (m n : ℕ) → IsWrongLine lines m → IsWrongName lines n → ⊥
line-or-name lines m n one two =
    let P : ℕ → Type 0 = λ q. IsOfForm lines q in
    let form = subst P (one-place lines two.place one.place two.first one.first) two.form in
    elim one.why [ inl why ↦ why.1 form | inr why ↦ form-end lines one.place form why.0 ]

pub one-name : (lines : List (List ℕ)) (m n : ℕ) → IsWrongName lines m → IsWrongName lines n → m ≡ n
one-name lines m n one two = one.number ∙ ap (λ p. p + 1) (one-place lines one.place two.place one.first two.first) ∙ sym two.number

pub one-line : (lines : List (List ℕ)) (m n : ℕ) → IsWrongLine lines m → IsWrongLine lines n → m ≡ n
one-line lines m n one two =
    let same = one-place lines one.place two.place one.first two.first in
    let P : ℕ → Type 0 = λ q. IsEnd lines q in
    elim one.why [
      | inl a ↦ elim two.why [
        | inl b ↦ a.2 ∙ ap (λ p. p + 1) same ∙ sym b.2
        | inr b ↦ absurd (a.0 (subst P (sym same) b.0))
      ]
      | inr a ↦ elim two.why [
        | inl b ↦ absurd (b.0 (subst P same a.0))
        | inr b ↦ a.2 ∙ ap (λ p. p + 2) same ∙ sym b.2
      ]
    ]

-- one trace has a text
cons-parts : (x y : List ℕ) (a b : List (List ℕ)) (Q : Type 0) → x ∷ a ≡ y ∷ b → (x ≡ y → a ≡ b → Q) → Q
cons-parts x y a b Q same go = let p : x ≡ y = cc in let q : a ≡ b = cc in go p q

same-maps : (a b : List (List Bool)) (tail : List (List ℕ)) → HasAllInputs a → HasAllInputs b → length a ≡ length b → map edge_line a ++ tail ≡ map edge_line b ++ tail → a ≡ b
same-maps [] [] tail one two long same = refl
same-maps [] (y ∷ b) tail one two long same = absurd (omega arith)
same-maps (x ∷ a) [] tail one two long same = absurd (omega arith)
same-maps (x ∷ a) (y ∷ b) tail one two long same =
    cons-parts (edge_line x) (edge_line y) (map edge_line a ++ tail) (map edge_line b ++ tail) (x ∷ a ≡ y ∷ b) same (λ first rest.
    cons-same x y a b (same_edges x y one.0 two.0 first) (same-maps a b tail one.1 two.1 (omega arith) rest))
  where
    cons-same : (x y : List Bool) (a b : List (List Bool)) → x ≡ y → a ≡ b → x ∷ a ≡ y ∷ b
    cons-same x y a b p q = cc

pub one-trace : (s t : List Bool) (a b : List (List Bool)) → HasSizes s a → HasSizes t b → trace_lines s a ++ [] ∷ [] ≡ trace_lines t b ++ [] ∷ [] → (s ≡ t) × (a ≡ b)
one-trace s t a b one two same =
    cons-parts header_line header_line _ _ ((s ≡ t) × (a ≡ b)) same (λ h more.
    cons-parts (start_line s) (start_line t) _ _ ((s ≡ t) × (a ≡ b)) more (λ start rest. (
      same_starts s t start,
      same-maps a b (end_line ∷ [] ∷ []) one.input_bits two.input_bits
          (omega (
            arith,
            ap length rest,
            length-append (map edge_line a ++ end_line ∷ []) ([] ∷ []),
            length-append (map edge_line b ++ end_line ∷ []) ([] ∷ []),
            length-append (map edge_line a) (end_line ∷ []),
            length-append (map edge_line b) (end_line ∷ []),
            length-map a edge_line,
            length-map b edge_line,
          ))
          (sym (append_assoc (map edge_line a) (end_line ∷ []) ([] ∷ [])) ∙ rest ∙ append_assoc (map edge_line b) (end_line ∷ []) ([] ∷ [])),
    )))

-- one edge more, in a list of vectors
lists-push : (edges : List (Vec Bool Global)) (bits : Vec Bool Global) (new : List (Vec Bool Global)) → new ≡ edges ++ bits ∷ []
    → lists_of new ≡ lists_of edges ++ bits.items ∷ []
lists-push edges bits new next = ap lists_of next ∙ map-append (λ v. v.items) edges (bits ∷ [])

pub push-lines : (lines : List (List ℕ)) (start : List Bool) (edges : List (Vec Bool Global)) (bits : Vec Bool Global) (new : List (Vec Bool Global)) (old rest : List (List ℕ))
    → lines ≡ opening start (lists_of edges) ++ old → old ≡ edge_line bits.items ∷ rest → new ≡ edges ++ bits ∷ [] → lines ≡ opening start (lists_of new) ++ rest
push-lines lines start edges bits new old rest so_far step next =
    so_far ∙ ap (λ o. opening start (lists_of edges) ++ o) step ∙ opening-push start (lists_of edges) bits.items rest
    ∙ ap (λ es. opening start es ++ rest) (sym (lists-push edges bits new next))

pub push-sizes : (start : List Bool) (edges : List (Vec Bool Global)) (bits : Vec Bool Global) (new : List (Vec Bool Global)) (n : ℕ) → n ≡ length edges
    → HasSizes start (lists_of edges) → length bits.items ≡ INPUT_BITS → n < EDGE_LIMIT → new ≡ edges ++ bits ∷ [] → HasSizes start (lists_of new)
push-sizes start edges bits new n count sizes long few next =
    let P : List (List Bool) → Type 0 = λ es. HasSizes start es in
    subst P (sym (lists-push edges bits new next)) (sizes-push start (lists_of edges) bits.items sizes long (omega (arith, length-map edges (λ (v : Vec Bool Global). v.items))))
