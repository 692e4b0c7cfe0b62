-- Words that are made place by place, and the field step by bits.
use Rattle.std.proofs.Common.{◌≡◌, ℕ, zero, suc, ◌+◌, Bool, true, false, not, ◌&&◌, ◌||◌, if◌then◌else◌, List, [], ◌∷◌, map, refl, sym, ◌∙◌, ap, arith}
use Rattle.std.specs.List.{range_with_len}
use Rattle.std.proofs.lemmas.List.FromFn.{map-range_with_len_more}
use Rattle.std.proofs.lemmas.List.Folds.{list_all-append, list_any-append}
use Rattle.bit_base.specs.Operators.{each_place, picked, is_any, are_all}
use Rattle.field_policies.specs.declared.field.Field.{Field}
use Rattle.field_policies.specs.Bits.{bit, any_below, all_below}
use Rattle.field_policies.specs.Policies.{write_bit, read_bit}
use Rattle.reg_machine.specs.Steps as machine
use Rattle.reg_machine.specs.Steps.{Edge}
use Rattle.field_gates.specs.FieldStep.{Seen, is_written, is_read, is_software, by_software, by_hardware, software_word, hardware_word, resting_word, next_word, next_used, next_known}
use Rattle.field_gates.specs.Laws.{places, Sees, IsMachines}

-- place by place
map_map : {A B C : Type 0} (g : B → C) (f : A → B) (xs : List A) → map g (map f xs) ≡ map (λ x. g (f x)) xs
map_map g f [] = refl
map_map g f (x ∷ xs) = ap (λ rest. g (f x) ∷ rest) (map_map g f xs)

each_map : (g : Bool → Bool → Bool) (a b : ℕ → Bool) (xs : List ℕ) → each_place g (map a xs) (map b xs) ≡ map (λ i. g (a i) (b i)) xs
each_map g a b [] = refl
each_map g a b (x ∷ xs) = ap (λ rest. g (a x) (b x) ∷ rest) (each_map g a b xs)

picked_map : (a b c : ℕ → Bool) (xs : List ℕ) → picked (map a xs) (map b xs) (map c xs) ≡ map (λ i. if c i then a i else b i) xs
picked_map a b c [] = refl
picked_map a b c (x ∷ xs) = ap (λ rest. (if c x then a x else b x) ∷ rest) (picked_map a b c xs)

if_map : (t : Bool) (a b : ℕ → Bool) (xs : List ℕ) → (if t then map a xs else map b xs) ≡ map (λ i. if t then a i else b i) xs
if_map true a b xs = refl
if_map false a b xs = refl

-- some bit, all bits
or_false : (b : Bool) → (b || false) ≡ b
or_false true = refl
or_false false = refl

and_true : (b : Bool) → (b && true) ≡ b
and_true true = refl
and_true false = refl

any_places : (n : ℕ) (f : ℕ → Bool) → is_any (map f (range_with_len 0 n)) ≡ any_below n f
any_places zero f = refl
any_places (suc n) f =
    let e : n + 1 ≡ suc n = omega arith in
    ap (λ m. is_any (map f (range_with_len 0 m))) (sym e)
    ∙ (ap is_any (map-range_with_len_more f 0 n n (omega arith))
    ∙ (list_any-append (λ x. x) (map f (range_with_len 0 n)) (f n ∷ [])
    ∙ (ap (λ b. is_any (map f (range_with_len 0 n)) || b) (or_false (f n)) ∙ ap (λ b. b || f n) (any_places n f))))

all_places : (n : ℕ) (f : ℕ → Bool) → are_all (map f (range_with_len 0 n)) ≡ all_below n f
all_places zero f = refl
all_places (suc n) f =
    let e : n + 1 ≡ suc n = omega arith in
    ap (λ m. are_all (map f (range_with_len 0 m))) (sym e)
    ∙ (ap are_all (map-range_with_len_more f 0 n n (omega arith))
    ∙ (list_all-append (λ x. x) (map f (range_with_len 0 n)) (f n ∷ [])
    ∙ (ap (λ b. are_all (map f (range_with_len 0 n)) && b) (and_true (f n)) ∙ ap (λ b. b && f n) (all_places n f))))

-- the sides
written_is : (e : Edge) (f : Field) (v : ℕ) (s : Seen) → Sees e f v s → is_written f s ≡ machine.is_written e f s.used
unfolding machine.is_written
written_is e f v s sees = rw (sees.allowed, sees.enabled, any_places f.width (machine.is_enabled e f)) refl

read_is : (e : Edge) (f : Field) (v : ℕ) (s : Seen) → Sees e f v s → is_read f s ≡ machine.is_read e f
unfolding machine.is_read
read_is e f v s sees = rw sees.reads refl

software_is : (e : Edge) (f : Field) (v : ℕ) (s : Seen) → Sees e f v s → is_software f s ≡ machine.is_software_active e f s.used
unfolding machine.is_software_active
software_is e f v s sees = rw (written_is e f v s sees, read_is e f v s sees) refl

by_software_is : (e : Edge) (f : Field) (v : ℕ) (s : Seen) → Sees e f v s → by_software f s ≡ machine.software_gives e f s.used v
unfolding machine.software_gives
by_software_is e f v s sees = rw (software_is e f v s sees, sees.active) refl

by_hardware_is : (e : Edge) (f : Field) (v : ℕ) (s : Seen) → Sees e f v s → by_hardware f s ≡ machine.hardware_gives e f s.used v
unfolding machine.hardware_gives
by_hardware_is e f v s sees = rw (software_is e f v s sees, sees.active) refl

-- the bits
software_places : (e : Edge) (f : Field) (v : ℕ) (s : Seen) → Sees e f v s → software_word f s ≡ places f (machine.software_bit e f s.used v)
unfolding machine.software_bit
software_places e f v s sees =
    let payload : ℕ → Bool = λ i. bit (machine.payload_of e.event) (f.lsb + i) in
    let written : picked (each_place (write_bit f.write) s.value s.payload) s.value s.enabled ≡ places f (λ i. if machine.is_enabled e f i then write_bit f.write (bit v i) (payload i) else bit v i) =
    rw (sees.value, sees.payload, sees.enabled, each_map (write_bit f.write) (bit v) payload (range_with_len 0 f.width))
    (picked_map (λ i. write_bit f.write (bit v i) (payload i)) (bit v) (machine.is_enabled e f) (range_with_len 0 f.width)) in
    let read : map (read_bit f.read) s.value ≡ places f (λ i. read_bit f.read (bit v i)) = rw sees.value (map_map (read_bit f.read) (bit v) (range_with_len 0 f.width)) in
    rw (written_is e f v s sees, written, read) (if_map (machine.is_written e f s.used) _ _ (range_with_len 0 f.width))

hardware_places : (e : Edge) (f : Field) (v : ℕ) (s : Seen) → Sees e f v s → hardware_word s ≡ places f (machine.hardware_bit e.view f v)
unfolding machine.hardware_bit
hardware_places e f v s sees = rw (sees.side, sees.value, sees.opened) (picked_map (machine.side_of e.view f v f.extra).bits (bit v) (machine.opens e.view f.bit_gate) (range_with_len 0 f.width))

resting_places : (e : Edge) (f : Field) (v : ℕ) (s : Seen) → Sees e f v s → resting_word f s ≡ places f (λ i. not f.pulse && bit v i)
resting_places e f v s sees = rw sees.value (map_map (λ x. not f.pulse && x) (bit v) (range_with_len 0 f.width))

bits_are : (e : Edge) (f : Field) (v : ℕ) (s : Seen) → Sees e f v s → next_word f s ≡ places f (machine.next_bit e f s.used v)
unfolding next_word machine.next_bit
bits_are e f v s sees =
    let xs : List ℕ = range_with_len 0 f.width in
    let hard : ℕ → Bool = machine.hardware_bit e.view f v in
    let rest : ℕ → Bool = λ i. not f.pulse && bit v i in
    let second : (if machine.hardware_gives e f s.used v then map hard xs else map rest xs) ≡ map (λ i. if machine.hardware_gives e f s.used v then hard i else rest i) xs = if_map (machine.hardware_gives e f s.used v) hard rest xs in
    rw (by_software_is e f v s sees, by_hardware_is e f v s sees, software_places e f v s sees, hardware_places e f v s sees, resting_places e f v s sees, second)
    (if_map (machine.software_gives e f s.used v) (machine.software_bit e f s.used v) (λ i. if machine.hardware_gives e f s.used v then hard i else rest i) xs)

-- the flags
used_is : (e : Edge) (f : Field) (v : ℕ) (s : Seen) → Sees e f v s → next_used f s ≡ machine.next_used e f s.used
unfolding next_used machine.next_used
used_is e f v s sees = rw (written_is e f v s sees) refl

known_is : (e : Edge) (f : Field) (v : ℕ) (s : Seen) → Sees e f v s → next_known f s ≡ machine.next_known e f s.used s.known v
unfolding next_known machine.next_known machine.becomes_known
known_is e f v s sees =
    let covered : are_all s.enabled ≡ machine.is_covered e f = ap are_all sees.enabled ∙ all_places f.width (machine.is_enabled e f) in
    rw (by_software_is e f v s sees, by_hardware_is e f v s sees, software_is e f v s sees, written_is e f v s sees, covered, sees.active, sees.whole) refl

pub step_is : (e : Edge) (f : Field) (v : ℕ) (s : Seen) → Sees e f v s → IsMachines e f v s
step_is e f v s sees = record {
  software = software_is e f v s sees;
  bits = bits_are e f v s sees;
  used = used_is e f v s sees;
  known = known_is e f v s sees;
}
