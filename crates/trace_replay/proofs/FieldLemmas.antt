-- The fields of a line, read from its front.
use Rattle.std.proofs.Common.{◌≡◌, ◌≢◌, ℕ, suc, ◌+◌, ◌-◌, ◌<◌, ◌≤◌, Bool, true, false, nat_eq, List, [], ◌∷◌, ◌++◌, map, reverse, length, take, drop, get_or, refl, sym, ◌∙◌, ap, subst, arith, append_assoc, append-nil, length-append, length-drop, codes, zero-add, add-zero}
use Rattle.std.specs.List.{starts_with}
use Rattle.std.proofs.Math.Seq.{take-append_seam, drop-append_seam}
use Rattle.std.proofs.lemmas.Bool.{both_ways}
use Rattle.std.proofs.lemmas.List.{take-append-drop, length-take-le, append_cancel_left, drop_more, take_more, take_all, take_rest, drop-drop, take-append-le, drop-append-le, nil_from_length}
use Rattle.std.proofs.lemmas.Slice.Eq.{bytes_eq-Decides}
use Rattle.trace_replay.specs.declared.input.Input.{Input}
use Rattle.trace_replay.specs.declared.input.TheConstants.{INPUTS, INPUT_BITS}
use Rattle.trace_replay.specs.Inputs.{input_label, input_width, width_of}
use Rattle.trace_replay.specs.Lines.{all_binary}
use Rattle.trace_replay.specs.TraceText.{digits, field_text, fields_text, edge_line}
use Rattle.trace_replay.proofs.DigitLemmas.{bit_of, bits-digits, digits-bits, digits-binary, digits-length, bits-length, same_digits}

pub begins-split : (head text : List ℕ) → starts_with nat_eq text head ≡ true → text ≡ head ++ drop (length head) text
begins-split head text h =
    sym (take-append-drop (length head) text)
    ∙ ap (λ front. front ++ drop (length head) text) (sym ((bytes_eq-Decides head (take (length head) text)).0 h))

pub begins-rest : (head text : List ℕ) → starts_with nat_eq text head ≡ true → text ≡ head ++ take (length text - length head) (drop (length head) text)
begins-rest head text h = rw (take_rest text (length head)) (begins-split head text h)

pub begins-none : (head text rest : List ℕ) → starts_with nat_eq text head ≡ false → text ≢ head ++ rest
begins-none head text rest h is =
    both_ways (starts_with nat_eq text head) h
    ((bytes_eq-Decides head (take (length head) text)).1 (rw is (sym (take-append_seam head rest))))

-- two texts that begin alike go on alike
pub same_front : (a b c d : List ℕ) → length a ≡ length b → a ++ c ≡ b ++ d → (a ≡ b) × (c ≡ d)
same_front a b c d long same = (
  sym (take-append_seam a c) ∙ ap (take (length a)) same ∙ rw long (take-append_seam b d),
  sym (drop-append_seam a c) ∙ ap (drop (length a)) same ∙ rw long (drop-append_seam b d),
)

-- a field that isn't there
pub field-none_name : (name text : List ℕ) (width : ℕ) → ((rest : List ℕ) → text ≢ name ++ rest)
    → (bits : List Bool) (rest : List ℕ) → length bits ≡ width → text ≢ field_text name bits ++ rest
field-none_name name text width none bits rest long is = none (digits bits ++ rest) (is ∙ append_assoc name (digits bits) rest)

pub field-none_short : (name text after : List ℕ) (width : ℕ) → text ≡ name ++ after → length after < width
    → (bits : List Bool) (rest : List ℕ) → length bits ≡ width → text ≢ field_text name bits ++ rest
field-none_short name text after width split short bits rest long is =
    let same : after ≡ digits bits ++ rest = append_cancel_left name after (digits bits ++ rest) (sym split ∙ is ∙ append_assoc name (digits bits) rest) in
    absurd (omega (arith, ap length same, length-append (digits bits) rest, digits-length bits))

pub field-none_digits : (name text after word : List ℕ) (width : ℕ) → text ≡ name ++ after → width ≤ length after → word ≡ take width after
    → all_binary word ≡ false → (bits : List Bool) (rest : List ℕ) → length bits ≡ width → text ≢ field_text name bits ++ rest
field-none_digits name text after word width split long_enough cut other bits rest long is =
    let same : after ≡ digits bits ++ rest = append_cancel_left name after (digits bits ++ rest) (sym split ∙ is ∙ append_assoc name (digits bits) rest) in
    let here : word ≡ digits bits = cut ∙ ap (take width) same ∙ rw (sym (digits-length bits ∙ long)) (take-append_seam (digits bits) rest) in
    both_ways (all_binary word) other (ap all_binary here ∙ digits-binary bits)

-- digits that are there are those of the bits
pub field-some : (name word : List ℕ) → all_binary word ≡ true → field_text name (map bit_of (reverse word)) ≡ name ++ word
field-some name word binary = ap (λ w. name ++ w) (digits-bits word binary)

-- the text of fields is as long, whatever the bits are
pub fields-length : (inputs : List Input) (a b : List Bool) → width_of inputs ≤ length a → width_of inputs ≤ length b
    → length (fields_text inputs a) ≡ length (fields_text inputs b)
fields-length [] a b wide broad = refl
fields-length (input ∷ inputs) a b wide broad =
    let w = input_width input in
    let front : length (digits (take w a)) ≡ length (digits (take w b)) =
    digits-length (take w a) ∙ length-take-le w a (omega arith) ∙ sym (digits-length (take w b) ∙ length-take-le w b (omega arith)) in
    let rest : length (fields_text inputs (drop w a)) ≡ length (fields_text inputs (drop w b)) =
    fields-length inputs (drop w a) (drop w b) (omega (arith, length-drop w a)) (omega (arith, length-drop w b)) in
    omega (
      arith,
      front,
      rest,
      length-append (field_text (input_label input) (take w a)) (fields_text inputs (drop w a)),
      length-append (field_text (input_label input) (take w b)) (fields_text inputs (drop w b)),
      length-append (input_label input) (digits (take w a)),
      length-append (input_label input) (digits (take w b)),
    )

pub width-append : (before after : List Input) → width_of (before ++ after) ≡ width_of before + width_of after
width-append [] after = sym (zero-add (width_of after))
width-append (input ∷ before) after = omega (arith, width-append before after)

-- fields of some inputs and then of others
pub fields-split : (before after : List Input) (bits : List Bool)
    → fields_text (before ++ after) bits ≡ fields_text before bits ++ fields_text after (drop (width_of before) bits)
fields-split [] after bits = refl
fields-split (input ∷ before) after bits =
    ap (λ rest. field_text (input_label input) (take (input_width input) bits) ++ rest)
    (fields-split before after (drop (input_width input) bits)
    ∙ ap (λ more. fields_text before (drop (input_width input) bits) ++ fields_text after more) (drop-drop (width_of before) (input_width input) bits))
    ∙ sym (append_assoc (field_text (input_label input) (take (input_width input) bits)) (fields_text before (drop (input_width input) bits)) _)

-- one field more
pub fields-push : (before : List Input) (input : Input) (bits new : List Bool) → length bits ≡ width_of before → length new ≡ input_width input
    → fields_text (before ++ input ∷ []) (bits ++ new) ≡ fields_text before bits ++ field_text (input_label input) new
fields-push [] input bits new long wide =
    rw (nil_from_length bits long)
    (append-nil (field_text (input_label input) (take (input_width input) new))
    ∙ ap (field_text (input_label input)) (take_all (input_width input) new (omega arith)))
fields-push (first ∷ before) input bits new long wide =
    let w = input_width first in
    let here : w ≤ length bits = omega arith in
    rw (take-append-le w bits new here, drop-append-le w bits new here)
    (ap (λ rest. field_text (input_label first) (take w bits) ++ rest)
    (fields-push before input (drop w bits) new (omega (arith, length-drop w bits)) wide)
    ∙ sym (append_assoc (field_text (input_label first) (take w bits)) (fields_text before (drop w bits)) (field_text (input_label input) new)))

-- where a field isn't there, the line isn't that of any bits
pub fields-refuse : (head : List ℕ) (before : List Input) (input : Input) (after : List Input) (line rest : List ℕ) (found : List Bool)
    → length found ≡ width_of before → line ≡ head ++ (fields_text before found ++ rest)
    → ((bits : List Bool) (more : List ℕ) → length bits ≡ input_width input → rest ≢ field_text (input_label input) bits ++ more)
    → (bits : List Bool) → length bits ≡ width_of (before ++ input ∷ after) → line ≢ head ++ fields_text (before ++ input ∷ after) bits
fields-refuse head before input after line rest found long split none bits whole is =
    let n = width_of before in
    let w = input_width input in
    let all : length bits ≡ n + (w + width_of after) = whole ∙ width-append before (input ∷ after) in
    let same : fields_text before found ++ rest ≡ fields_text before bits ++ fields_text (input ∷ after) (drop n bits) =
    append_cancel_left head _ _ (sym split ∙ is) ∙ fields-split before (input ∷ after) bits in
    let parts = same_front (fields_text before found) (fields_text before bits) rest (fields_text (input ∷ after) (drop n bits))
    (fields-length before found bits (omega arith) (omega arith)) same in
    none (take w (drop n bits)) (fields_text after (drop w (drop n bits))) (length-take-le w (drop n bits) (omega (arith, length-drop n bits))) parts.1

-- nor where something follows
pub fields-over : (head : List ℕ) (inputs : List Input) (line rest : List ℕ) (found : List Bool) → length found ≡ width_of inputs
    → line ≡ head ++ (fields_text inputs found ++ rest) → 0 < length rest
    → (bits : List Bool) → length bits ≡ width_of inputs → line ≢ head ++ fields_text inputs bits
fields-over head inputs line rest found long split more bits whole is =
    let same : fields_text inputs found ++ rest ≡ fields_text inputs bits ++ [] =
    append_cancel_left head _ _ (sym split ∙ is) ∙ sym (append-nil (fields_text inputs bits)) in
    let parts = same_front (fields_text inputs found) (fields_text inputs bits) rest []
    (fields-length inputs found bits (omega arith) (omega arith)) same in
    absurd (omega (arith, ap length parts.1))

-- fields tell the bits
pub same_fields : (inputs : List Input) (a b : List Bool) → length a ≡ width_of inputs → length b ≡ width_of inputs
    → fields_text inputs a ≡ fields_text inputs b → a ≡ b
same_fields [] a b wide broad same = nil_from_length a wide ∙ sym (nil_from_length b broad)
same_fields (input ∷ inputs) a b wide broad same =
    let w = input_width input in
    let taken : length (take w a) ≡ length (take w b) = length-take-le w a (omega arith) ∙ sym (length-take-le w b (omega arith)) in
    let label = input_label input in
    let fronts : length (field_text label (take w a)) ≡ length (field_text label (take w b)) =
    length-append label (digits (take w a)) ∙ ap (λ n. length label + n) (digits-length (take w a) ∙ taken ∙ sym (digits-length (take w b))) ∙ sym (length-append label (digits (take w b))) in
    let parts = same_front (field_text label (take w a)) (field_text label (take w b)) (fields_text inputs (drop w a)) (fields_text inputs (drop w b)) fronts same in
    let first : take w a ≡ take w b = same_digits (take w a) (take w b) (append_cancel_left label (digits (take w a)) (digits (take w b)) parts.0) in
    let rest : drop w a ≡ drop w b = same_fields inputs (drop w a) (drop w b) (omega (arith, length-drop w a)) (omega (arith, length-drop w b)) parts.1 in
    sym (take-append-drop w a) ∙ ap (λ front. front ++ drop w a) first ∙ ap (λ back. take w b ++ back) rest ∙ take-append-drop w b

pub same_edges : (a b : List Bool) → length a ≡ INPUT_BITS → length b ≡ INPUT_BITS → edge_line a ≡ edge_line b → a ≡ b
unfolding edge_line
same_edges a b wide broad same = same_fields INPUTS a b wide broad (append_cancel_left (codes "edge") (fields_text INPUTS a) (fields_text INPUTS b) same)

pub same_starts : (a b : List Bool) → field_text (codes "start v ") a ≡ field_text (codes "start v ") b → a ≡ b
same_starts a b same = same_digits a b (append_cancel_left (codes "start v ") (digits a) (digits b) same)

-- a line that is one field
pub line-some : (name line word rest : List ℕ) (bits : List Bool) → line ≡ name ++ (word ++ rest) → length rest ≡ 0 → all_binary word ≡ true
    → bits ≡ map bit_of (reverse word) → line ≡ field_text name bits
line-some name line word rest bits split empty binary is =
    split ∙ ap (λ r. name ++ (word ++ r)) (nil_from_length rest empty) ∙ ap (λ w. name ++ w) (append-nil word)
    ∙ sym (ap (field_text name) is ∙ field-some name word binary)

pub line-none : (name line : List ℕ) (width : ℕ) → ((bits : List Bool) (rest : List ℕ) → length bits ≡ width → line ≢ field_text name bits ++ rest)
    → (bits : List Bool) → length bits ≡ width → line ≢ field_text name bits
line-none name line width none bits long is = none bits [] long (is ∙ sym (append-nil (field_text name bits)))

pub line-over : (name line word rest : List ℕ) → line ≡ name ++ (word ++ rest) → 0 < length rest
    → (bits : List Bool) → length bits ≡ length word → line ≢ field_text name bits
line-over name line word rest split more bits long is =
    let same : word ++ rest ≡ digits bits ++ [] = append_cancel_left name (word ++ rest) (digits bits ++ []) (sym split ∙ is ∙ ap (λ d. name ++ d) (sym (append-nil (digits bits)))) in
    let parts = same_front word (digits bits) rest [] (sym (digits-length bits ∙ long)) same in
    absurd (omega (arith, ap length parts.1))

-- a step of the writing of a line: the fields from a place on
module _ (inputs : List Input) (k : ℕ) (d : Input) (w : ℕ) (below : k < length inputs) (wide : w ≡ input_width (get_or inputs k d)) where
  pub write-step : (line new label : List ℕ) (rest front back : List Bool) (all : List ℕ)
      → label ≡ input_label (get_or inputs k d) → front ≡ take w rest → back ≡ drop w rest → new ≡ line ++ field_text label front
      → line ++ fields_text (drop k inputs) rest ≡ all → new ++ fields_text (drop (k + 1) inputs) back ≡ all
  write-step line new label rest front back all name one two next so_far =
      let input = get_or inputs k d in
      ap (λ l. l ++ fields_text (drop (k + 1) inputs) back) (next ∙ ap (λ n. line ++ field_text n front) name ∙ ap (λ f. line ++ field_text (input_label input) f) (one ∙ ap (λ n. take n rest) wide))
      ∙ append_assoc line (field_text (input_label input) (take (input_width input) rest)) (fields_text (drop (k + 1) inputs) back)
      ∙ ap (λ b. line ++ (field_text (input_label input) (take (input_width input) rest) ++ fields_text (drop (k + 1) inputs) b)) (two ∙ ap (λ n. drop n rest) wide)
      ∙ ap (λ is. line ++ fields_text is rest) (sym (drop_more inputs k d below)) ∙ so_far

  pub write-width : (rest back : List Bool) → back ≡ drop w rest → length rest ≡ width_of (drop k inputs) → length back ≡ width_of (drop (k + 1) inputs)
  write-width rest back two so_far =
      let here : width_of (drop k inputs) ≡ input_width (get_or inputs k d) + width_of (drop (k + 1) inputs) = ap width_of (drop_more inputs k d below) in
      omega (arith, ap length two, length-drop w rest)

  -- a step of the reading
  pub read-step : (head line rest more word label : List ℕ) (bits new : List Bool)
      → label ≡ input_label (get_or inputs k d) → rest ≡ label ++ (word ++ more) → length word ≡ w → all_binary word ≡ true
      → new ≡ bits ++ map bit_of (reverse word) → length bits ≡ width_of (take k inputs)
      → line ≡ head ++ (fields_text (take k inputs) bits ++ rest) → line ≡ head ++ (fields_text (take (k + 1) inputs) new ++ more)
  read-step head line rest more word label bits new name split long binary next width so_far =
      let input = get_or inputs k d in
      let before = take k inputs in
      let here : fields_text (take (k + 1) inputs) new ≡ fields_text before bits ++ (label ++ word) =
      ap (λ is. fields_text is new) (take_more inputs k d below) ∙ ap (fields_text (before ++ input ∷ [])) next
      ∙ fields-push before input bits (map bit_of (reverse word)) width (bits-length word ∙ long ∙ wide)
      ∙ ap (λ f. fields_text before bits ++ f) (ap (λ n. field_text n (map bit_of (reverse word))) (sym name) ∙ field-some label word binary) in
      so_far ∙ ap (λ r. head ++ (fields_text before bits ++ r)) (split ∙ sym (append_assoc label word more))
      ∙ ap (λ t. head ++ t) (sym (append_assoc (fields_text before bits) (label ++ word) more) ∙ ap (λ t. t ++ more) (sym here))

  pub read-width : (word : List ℕ) (bits new : List Bool) → length word ≡ w → new ≡ bits ++ map bit_of (reverse word) → length bits ≡ width_of (take k inputs)
      → length new ≡ width_of (take (k + 1) inputs)
  read-width word bits new long next width =
      let here : width_of (take (k + 1) inputs) ≡ width_of (take k inputs) + input_width (get_or inputs k d) =
      ap width_of (take_more inputs k d below) ∙ width-append (take k inputs) (get_or inputs k d ∷ []) ∙ ap (λ n. width_of (take k inputs) + n) (add-zero (input_width (get_or inputs k d))) in
      omega (arith, ap length next, length-append bits (map bit_of (reverse word)), bits-length word)

  pub read-refuse : (head line rest label : List ℕ) (bits : List Bool) → label ≡ input_label (get_or inputs k d) → length bits ≡ width_of (take k inputs)
      → line ≡ head ++ (fields_text (take k inputs) bits ++ rest)
      → ((b : List Bool) (more : List ℕ) → length b ≡ w → rest ≢ field_text label b ++ more)
      → (b : List Bool) → length b ≡ width_of inputs → line ≢ head ++ fields_text inputs b
  read-refuse head line rest label bits name width so_far none b whole is =
      let input = get_or inputs k d in
      let parts : inputs ≡ take k inputs ++ input ∷ drop (k + 1) inputs = sym (take-append-drop k inputs) ∙ ap (λ r. take k inputs ++ r) (drop_more inputs k d below) in
      fields-refuse head (take k inputs) input (drop (k + 1) inputs) line rest bits width so_far
      (λ c more long at. none c more (long ∙ sym wide) (at ∙ ap (λ n. field_text n c ++ more) (sym name)))
      b (whole ∙ ap width_of parts) (is ∙ ap (λ is. head ++ fields_text is b) parts)

-- after the last input
pub widths-read : (inputs : List Input) (k : ℕ) → length inputs ≤ k → width_of (take k inputs) ≡ width_of inputs
widths-read inputs k past = ap width_of (take_all k inputs past)

pub inputs-read : (head : List ℕ) (inputs : List Input) (k : ℕ) (line rest : List ℕ) (bits : List Bool) → length inputs ≤ k
    → line ≡ head ++ (fields_text (take k inputs) bits ++ rest) → length rest ≡ 0 → line ≡ head ++ fields_text inputs bits
inputs-read head inputs k line rest bits past so_far empty =
    so_far ∙ ap (λ is. head ++ (fields_text is bits ++ rest)) (take_all k inputs past)
    ∙ ap (λ t. head ++ t) (ap (λ r. fields_text inputs bits ++ r) (nil_from_length rest empty) ∙ append-nil (fields_text inputs bits))
