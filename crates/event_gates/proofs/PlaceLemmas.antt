-- A field's places in a bus event, by their wires.
use Rattle.std.proofs.Common.{◌≡◌, ℕ, zero, suc, ◌+◌, ◌*◌, ◌/◌, ◌<◌, ◌≤◌, ◌==◌, Bool, true, false, not, ◌&&◌, if◌then◌else◌, List, [], ◌∷◌, length, map, take, drop, get_or, slice_get, Some, refl, sym, ap, ◌∙◌, arith}
use Rattle.std.specs.List.{range_with_len}
use Rattle.std.proofs.lemmas.List.{get_or-drop, get_or-take, get_or-map, length-map, length-take, length-drop}
use Rattle.std.proofs.lemmas.List.FromFn.{fill_by_all}
use Rattle.apb_rules.specs.declared.event.BusEvent.TheVariants.{Nothing, Read, Write}
use Rattle.bit_base.specs.Numbers.{number_of}
use Rattle.field_policies.specs.declared.field.Field.{Field}
use Rattle.field_policies.specs.Bits.{bit}
use Rattle.field_policies.proofs.NumberBits.{bit_of_number}
use Rattle.gate_graph.specs.declared.wires.Wire.{Wire}
use Rattle.gate_graph.specs.declared.nodes.Node.{Node}
use Rattle.gate_graph.specs.Gates.{wire_value, IsOf, AreOf}
use Rattle.reg_machine.specs.Steps as machine
use Rattle.reg_machine.specs.Steps.{is_write_of, strobe_of, payload_of}
use Rattle.word_gates.specs.Graphs.{off}
use Rattle.word_gates.specs.Words.{values}
use Rattle.word_gates.proofs.WordLemmas.{are_of_cons, are_of_none, of_here, length-values}
use Rattle.word_gates.proofs.RippleLemmas.{values_at}
use Rattle.event_gates.specs.Events.{event_at}
use Rattle.event_gates.specs.Places.{strobes_of, payload_of_field}
use Rattle.event_gates.specs.Laws.{EnabledAreMachines, PayloadsAreMachines}

-- over a row of numbers
pub row_same : {X : Type 0} (n k : ℕ) (f g : ℕ → X) → ((i : ℕ) → i < k + n → f i ≡ g i) → map f (range_with_len k n) ≡ map g (range_with_len k n)
row_same zero k f g same = refl
row_same (suc n) k f g same = rw (same k (omega arith), row_same n (k + 1) f g (λ i lt. same i (omega arith))) refl

row_of : (nodes : List Node) (n k : ℕ) (f : ℕ → Wire) → ((i : ℕ) → i < k + n → IsOf (f i) nodes) → AreOf (map f (range_with_len k n)) nodes
row_of nodes zero k f each = are_of_none nodes
row_of nodes (suc n) k f each = are_of_cons (f k) (map f (range_with_len (k + 1) n)) nodes (each k (omega arith)) (row_of nodes n (k + 1) f (λ i lt. each i (omega arith)))

map_map : {A B C : Type 0} (g : B → C) (f : A → B) (xs : List A) → map g (map f xs) ≡ map (λ x. g (f x)) xs
map_map g f [] = refl
map_map g f (x ∷ xs) = ap (λ rest. g (f x) ∷ rest) (map_map g f xs)

-- the byte of a place is one of the bus
byte_of : (f : Field) (bytes i : ℕ) → f.lsb + f.width ≤ 8 * bytes → i < f.width → (f.lsb + i) / 8 < bytes
byte_of f bytes i inside lt = omega arith

pub strobes_are_of : (nodes : List Node) (f : Field) (strobe : List Wire) → f.lsb + f.width ≤ 8 * length strobe → AreOf strobe nodes → AreOf (strobes_of f strobe) nodes
strobes_are_of nodes f strobe inside of = row_of nodes f.width 0 (λ i. get_or strobe ((f.lsb + i) / 8) off) (λ i lt. of_here strobe nodes ((f.lsb + i) / 8) of (byte_of f (length strobe) i inside (omega arith)))

pub strobes_shown : (v : ℕ → Bool) (f : Field) (strobe : List Wire) (w : Bool) → f.lsb + f.width ≤ 8 * length strobe
    → map (λ x. x && w) (values v (strobes_of f strobe)) ≡ map (λ i. get_or (values v strobe) ((f.lsb + i) / 8) false && w) (range_with_len 0 f.width)
strobes_shown v f strobe w inside =
    let wire : ℕ → Wire = λ i. get_or strobe ((f.lsb + i) / 8) off in
    ap (map (λ x. x && w)) (map_map (wire_value v) wire (range_with_len 0 f.width))
    ∙ (map_map (λ x. x && w) (λ i. wire_value v (wire i)) (range_with_len 0 f.width)
    ∙ row_same f.width 0 (λ i. wire_value v (wire i) && w) (λ i. get_or (values v strobe) ((f.lsb + i) / 8) false && w)
    (λ i lt. ap (λ b. b && w) (sym (values_at v strobe ((f.lsb + i) / 8) (byte_of f (length strobe) i inside (omega arith))))))

-- the event by its bits
and_false : (b : Bool) → (b && false) ≡ false
and_false true = refl
and_false false = refl

and_turned : (a b : Bool) → (a && b) ≡ (b && a)
and_turned true true = refl
and_turned true false = refl
and_turned false true = refl
and_turned false false = refl

enabled_bits : (read write : Bool) (a p n j : ℕ) (bits : List Bool)
    → (get_or bits j false && is_write_of (if read then Read a else (if write then Write a p (number_of bits) else Nothing)) n)
    ≡ (is_write_of (if read then Read a else (if write then Write a p (number_of bits) else Nothing)) n && bit (strobe_of (if read then Read a else (if write then Write a p (number_of bits) else Nothing))) j)
enabled_bits true write a p n j bits = and_false (get_or bits j false)
enabled_bits false true a p n j bits = and_turned (get_or bits j false) (a == n) ∙ ap (λ b. (a == n) && b) (sym (bit_of_number bits j))
enabled_bits false false a p n j bits = and_false (get_or bits j false)

payload_bits : (read write : Bool) (a s i : ℕ) (bits : List Bool)
    → (get_or bits i false && (write && not read)) ≡ bit (payload_of (if read then Read a else (if write then Write a (number_of bits) s else Nothing))) i
payload_bits true true a s i bits = and_false (get_or bits i false) ∙ sym (bit_of_number [] i)
payload_bits true false a s i bits = and_false (get_or bits i false) ∙ sym (bit_of_number [] i)
payload_bits false true a s i bits = and_true (get_or bits i false) ∙ sym (bit_of_number bits i)
  where
    and_true : (b : Bool) → (b && true) ≡ b
    and_true true = refl
    and_true false = refl
payload_bits false false a s i bits = and_false (get_or bits i false) ∙ sym (bit_of_number [] i)

pub enabled_is : EnabledAreMachines
enabled_is v g e f is = row_same f.width 0 (λ i. get_or (values v g.strobe.items) ((f.lsb + i) / 8) false && machine.writes e f) (machine.is_enabled e f) (λ i lt.
    rw is (enabled_bits (wire_value v g.read) (wire_value v g.write) (number_of (values v g.address.items)) (number_of (values v g.payload.items)) _ ((f.lsb + i) / 8) (values v g.strobe.items)))

pub payload_is : PayloadsAreMachines
payload_is v g e f only payload is inside only_is shown =
    let wide : length payload ≡ length g.payload.items = sym (length-values v payload) ∙ (ap length shown ∙ (length-map (values v g.payload.items) (λ x. x && only) ∙ length-values v g.payload.items)) in
    let long : length (payload_of_field f payload) ≡ f.width = omega (arith, length-take f.width (drop f.lsb payload), length-drop f.lsb payload) in
    fill_by_all (λ i. bit (payload_of e.event) (f.lsb + i)) (values v (payload_of_field f payload)) f.width false (length-values v (payload_of_field f payload) ∙ long) (λ i lt.
    values_at v (payload_of_field f payload) i (omega arith)
    ∙ (ap (wire_value v) (get_or-take f.width (drop f.lsb payload) i off lt ∙ get_or-drop f.lsb payload i off)
    ∙ (sym (values_at v payload (f.lsb + i) (omega arith))
    ∙ (ap (λ l. get_or l (f.lsb + i) false) shown
    ∙ (get_or-map (λ x. x && only) (values v g.payload.items) (f.lsb + i) false false (omega (arith, length-values v g.payload.items))
    ∙ (ap (λ b. get_or (values v g.payload.items) (f.lsb + i) false && b) only_is
    ∙ rw is (payload_bits (wire_value v g.read) (wire_value v g.write) (number_of (values v g.address.items)) (number_of (values v g.strobe.items)) (f.lsb + i) (values v g.payload.items))))))))
