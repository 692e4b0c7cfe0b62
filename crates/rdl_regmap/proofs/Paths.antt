-- The fields of a description have paths of the form of a path, and no two have one.
use Rattle.std.proofs.Common.{◌≡◌, ◌⊎◌, inl, inr, ℕ, zero, suc, ◌+◌, ◌*◌, ◌/◌, ◌%◌, ◌^◌, ◌<◌, ◌≤◌, Bool, true, false, ◌&&◌, ◌||◌, not, nat_le, List, [], ◌∷◌, ◌++◌, length, map, Option, Some, None, is_some, bytes_eq, refl, sym, ◌∙◌, ap, subst, arith, append_assoc, append-nil, if◌then◌else◌}
use Rattle.std.specs.Prelude.{⊤}
use Rattle.std.specs.List.{list_all, IsDistinct, AllByRecursion}
use Rattle.std.specs.Option.{option_map}
use Rattle.std.specs.Fmt.{decimal}
use Rattle.std.proofs.lemmas.Bool.{cases_Bool, cases_eq, true≢false}
use Rattle.std.proofs.lemmas.Bool.Decides.{nat_tests}
use Rattle.std.proofs.lemmas.Slice.Eq.{bytes_eq-Decides}
use Rattle.std.proofs.lemmas.List.{map-append}
use Rattle.std.proofs.lemmas.List.Folds.{list_all-append}
use Rattle.std.proofs.lemmas.Fmt.{decimal_digit, decimal_by_steps, decimal_injective}
use Rattle.field_policies.specs.FieldPath.{Step, is_letter, is_digit, is_name, is_index, index_text, step_text, path_text}
use Rattle.rdl_tree.specs.declared.tree.RdlRange.{RdlRange}
use Rattle.rdl_text.specs.declared.instance.Body.{Body}
use Rattle.rdl_text.specs.declared.instance.Body.TheVariants as body
use Rattle.rdl_text.specs.Components.{Component}
use Rattle.rdl_text.specs.Instances.{kind_of, is_field, holds}
use Rattle.rdl_values.specs.OneInstance.{Instance}
use Rattle.rdl_values.specs.OneFrame.{Target, Frame, Trail}
use Rattle.rdl_values.specs.Frames.{frame_of}
use Rattle.rdl_values.specs.Instances.{instances_of, elements_in, count_of}
use Rattle.rdl_values.specs.Values.{is_array}
use Rattle.rdl_effects.specs.Limits.{number_with, number_inside, number_in}
use Rattle.rdl_effects.specs.Registers.{accesswidth_at}
use Rattle.rdl_effects.proofs.Numbers.{inside_some}
use Rattle.rdl_layout.specs.declared.size.Extent.{Extent}
use Rattle.rdl_layout.specs.Bits.{bits_of}
use Rattle.rdl_layout.specs.Laid.{Sized, size_in, extent_of}
use Rattle.rdl_layout.specs.Walks.{Gives, address_of, over, over_elements, over_instances}
use Rattle.rdl_fields.specs.declared.named.NamedField.{NamedField}
use Rattle.rdl_fields.specs.Paths.{step_of, dotted}
use Rattle.rdl_fields.specs.Registers.{field_in, fields_in, fields_by, fields_at}
use Rattle.rdl_fields.proofs.Paths.{path_dotted}
use Rattle.rdl_regmap.proofs.Has.{Has, has_none, has_cases}
use Rattle.rdl_regmap.proofs.Trails.{targets_in}
use Rattle.rdl_regmap.proofs.Depths.{one_counts, among_counts}
use Rattle.rdl_regmap.proofs.Bodies.{FineComponent}
use Rattle.rdl_regmap.proofs.Instances.{yes_left, yes_right, instance_is}
use Rattle.rdl_regmap.proofs.Places.{all_by, of_all, distinct_append}
use Rattle.rdl_regmap.proofs.Names.{same_name, names_differ}
use Rattle.rdl_regmap.proofs.Spelled.{FitsComponent, IsSpelled, is_spelled}

-- ---- texts of steps

pub record GoodStep (s : Step) : Type 0 where
  pub name : is_name s.name ≡ true
  pub index : (ds : List ℕ) → s.element ≡ Some ds → is_index ds ≡ true

abbrev pub GoodSteps : List Step → Type 0
GoodSteps ss = AllByRecursion GoodStep ss

abbrev word : ℕ → Bool
word d = is_letter d || is_digit d

-- what follows goes on with something else
abbrev Stops : (ℕ → Bool) → List ℕ → Type 0
Stops test [] = ⊤
Stops test (c ∷ cs) = test c ≡ false

one_front : (test : ℕ → Bool) (a b x y : List ℕ) → list_all test a ≡ true → list_all test b ≡ true → Stops test x → Stops test y → a ++ x ≡ b ++ y → (a ≡ b) × (x ≡ y)
one_front test [] [] x y p q r s e = (refl, e)
one_front test [] (b ∷ bs) [] y p q r s e = cc
one_front test [] (b ∷ bs) (c ∷ cs) y p q r s e =
    let same : c ≡ b = cc in absurd (true≢false (sym (yes_left (test b) _ q) ∙ ap test (sym same) ∙ r))
one_front test (a ∷ more_a) [] x [] p q r s e = cc
one_front test (a ∷ more_a) [] x (c ∷ cs) p q r s e =
    let same : a ≡ c = cc in absurd (true≢false (sym (yes_left (test a) _ p) ∙ ap test same ∙ s))
one_front test (a ∷ more_a) (b ∷ bs) x y p q r s e =
    let same : a ≡ b = cc in
    let more : more_a ++ x ≡ bs ++ y = cc in
    let n : (more_a ≡ bs) × (x ≡ y) = one_front test more_a bs x y (yes_right (test a) _ p) (yes_right (test b) _ q) r s more in
    (ap (λ c. c ∷ more_a) same ∙ ap (λ cs. b ∷ cs) n.0, n.1)

all_word : (n : List ℕ) → is_name n ≡ true → list_all word n ≡ true
all_word [] e = cc
all_word (c ∷ cs) e = both (word c) _ (left (is_letter c) (is_digit c) (yes_left (is_letter c) _ e)) (yes_right (is_letter c) _ e)
  where
    left : (a b : Bool) → a ≡ true → (a || b) ≡ true
    left true b f = refl
    left false b f = cc

    both : (a b : Bool) → a ≡ true → b ≡ true → (a && b) ≡ true
    both true true f g = refl
    both true false f g = cc
    both false b f g = cc

all_digits : (ds : List ℕ) → is_index ds ≡ true → list_all is_digit ds ≡ true
all_digits [] e = cc
all_digits (c ∷ []) e = rw e refl
all_digits (c ∷ d ∷ ds) e = both (is_digit c) (list_all is_digit (d ∷ ds)) (digit c (yes_left (nat_le 49 c && nat_le c 57) _ e)) (yes_right (nat_le 49 c && nat_le c 57) (list_all is_digit (d ∷ ds)) e)
  where
    digit : (c : ℕ) → (nat_le 49 c && nat_le c 57) ≡ true → is_digit c ≡ true
    digit c f =
        let a : nat_le 49 c ≡ true = yes_left _ _ f in
        let b : nat_le c 57 ≡ true = yes_right (nat_le 49 c) _ f in
        let g : nat_le 48 c ≡ true = grind (arith, nat_tests, a) in
        rw (g, b) refl

    both : (a b : Bool) → a ≡ true → b ≡ true → (a && b) ≡ true
    both true true f g = refl
    both true false f g = cc
    both false b f g = cc

dots_stop : (ss : List Step) → Stops word (dotted ss)
dots_stop [] = tt
dots_stop (s ∷ ss) = refl

index_stops : (o : Option (List ℕ)) (ss : List Step) → Stops word (index_text o ++ dotted ss)
index_stops None ss = dots_stop ss
index_stops (Some ds) ss = refl

unlike : (a b : ℕ) (xs ys : List ℕ) → (a ≡ b → ⊥) → a ∷ xs ≡ b ∷ ys → ⊥
unlike a b xs ys off e = off cc

same_index : (o p : Option (List ℕ)) (ss ts : List Step) → ((ds : List ℕ) → o ≡ Some ds → is_index ds ≡ true) → ((ds : List ℕ) → p ≡ Some ds → is_index ds ≡ true)
    → index_text o ++ dotted ss ≡ index_text p ++ dotted ts → (o ≡ p) × (dotted ss ≡ dotted ts)
same_index None None ss ts f g e = (refl, e)
same_index None (Some ds) [] ts f g e = cc
same_index None (Some ds) (s ∷ ss) ts f g e = absurd (unlike 46 91 _ _ (λ z. omega (arith, z)) e)
same_index (Some ds) None ss [] f g e = cc
same_index (Some ds) None ss (t ∷ ts) f g e = absurd (unlike 91 46 _ _ (λ z. omega (arith, z)) e)
same_index (Some ds) (Some es) ss ts f g e =
    let more : (ds ++ 93 ∷ []) ++ dotted ss ≡ (es ++ 93 ∷ []) ++ dotted ts = cc in
    let q : ds ++ (93 ∷ dotted ss) ≡ es ++ (93 ∷ dotted ts) = sym (append_assoc ds (93 ∷ []) (dotted ss)) ∙ more ∙ append_assoc es (93 ∷ []) (dotted ts) in
    let n : (ds ≡ es) × (93 ∷ dotted ss ≡ 93 ∷ dotted ts) = one_front is_digit ds es (93 ∷ dotted ss) (93 ∷ dotted ts) (all_digits ds (f ds refl)) (all_digits es (g es refl)) refl refl q in
    (ap (λ (x : List ℕ). Some x) n.0, tail n.1)
  where
    tail : 93 ∷ dotted ss ≡ 93 ∷ dotted ts → dotted ss ≡ dotted ts
    tail r = cc

same_step : (s t : Step) (ss ts : List Step) → GoodStep s → GoodStep t → step_text s ++ dotted ss ≡ step_text t ++ dotted ts → (s ≡ t) × (dotted ss ≡ dotted ts)
same_step s t ss ts p q e =
    let r : s.name ++ (index_text s.element ++ dotted ss) ≡ t.name ++ (index_text t.element ++ dotted ts) = sym (append_assoc s.name (index_text s.element) (dotted ss)) ∙ e ∙ append_assoc t.name (index_text t.element) (dotted ts) in
    let n : (s.name ≡ t.name) × (index_text s.element ++ dotted ss ≡ index_text t.element ++ dotted ts) =
    one_front word s.name t.name _ _ (all_word s.name p.name) (all_word t.name q.name) (index_stops s.element ss) (index_stops t.element ts) r in
    let i : (s.element ≡ t.element) × (dotted ss ≡ dotted ts) = same_index s.element t.element ss ts p.index q.index n.1 in
    (ap (λ (x : List ℕ). record { name = x; element = s.element }) n.0 ∙ ap (λ (x : Option (List ℕ)). record { name = t.name; element = x }) i.0, i.1)

same_dots : (ss ts : List Step) → GoodSteps ss → GoodSteps ts → dotted ss ≡ dotted ts → ss ≡ ts
same_dots [] [] p q e = refl
same_dots [] (t ∷ ts) p q e = cc
same_dots (s ∷ ss) [] p q e = cc
same_dots (s ∷ ss) (t ∷ ts) p q e =
    let more : step_text s ++ dotted ss ≡ step_text t ++ dotted ts = cc in
    let n : (s ≡ t) × (dotted ss ≡ dotted ts) = same_step s t ss ts p.0 q.0 more in
    ap (λ (x : Step). x ∷ ss) n.0 ∙ ap (λ (xs : List Step). t ∷ xs) (same_dots ss ts p.1 q.1 n.1)

-- a path tells its steps
pub same_steps : (s t : Step) (ss ts : List Step) → GoodSteps (s ∷ ss) → GoodSteps (t ∷ ts) → path_text (s ∷ ss) ≡ path_text (t ∷ ts) → s ∷ ss ≡ t ∷ ts
same_steps s t ss ts p q e =
    let a : path_text (s ∷ ss) ≡ step_text s ++ dotted ss = path_dotted (s ∷ ss) in
    let b : path_text (t ∷ ts) ≡ step_text t ++ dotted ts = path_dotted (t ∷ ts) in
    same_dots (s ∷ ss) (t ∷ ts) p q (ap (λ (xs : List ℕ). 46 ∷ xs) (sym a ∙ e ∙ b))

-- ---- numbers of elements

-- digits, the first above 0 for a number above 0
record IsWritten (n : ℕ) (ds : List ℕ) : Type 0 where
  digits : list_all is_digit ds ≡ true
  some : 0 < length ds
  first : (c : ℕ) (cs : List ℕ) → ds ≡ c ∷ cs → 0 < n → (nat_le 49 c && nat_le c 57) ≡ true

is_a_digit : (d : ℕ) → d < 10 → is_digit (48 + d) ≡ true
is_a_digit d lt = let a : nat_le 48 (48 + d) ≡ true = grind (arith, nat_tests) in let b : nat_le (48 + d) 57 ≡ true = grind (arith, nat_tests, lt) in rw (a, b) refl

written_one : (n : ℕ) → n < 10 → IsWritten n ((48 + n) ∷ [])
written_one n lt = record {
  digits = rw (is_a_digit n lt) refl;
  some = omega arith;
  first = λ c cs e pos.
      let s : 48 + n ≡ c = cc in
      let a : nat_le 49 c ≡ true = grind (arith, nat_tests, s, pos) in
      let b : nat_le c 57 ≡ true = grind (arith, nat_tests, s, lt) in
      rw (a, b) refl;
}

written_more : (n : ℕ) (ds : List ℕ) → 10 ≤ n → IsWritten (n / 10) ds → IsWritten n (ds ++ ((48 + n % 10) ∷ []))
written_more n [] le w = absurd (omega (arith, w.some))
written_more n (d ∷ ds) le w =
    let last : is_digit (48 + n % 10) ≡ true = is_a_digit (n % 10) (omega arith) in
    record {
      digits = list_all-append is_digit (d ∷ ds) ((48 + n % 10) ∷ []) ∙ both (list_all is_digit (d ∷ ds)) _ w.digits (rw last refl);
      some = omega arith;
      first = λ c cs e pos. let s : d ≡ c = cc in subst (λ x. (nat_le 49 x && nat_le x 57) ≡ true) s (w.first d ds refl (omega (arith, le)));
    }
  where
    both : (a b : Bool) → a ≡ true → b ≡ true → (a && b) ≡ true
    both true true f g = refl
    both true false f g = cc
    both false b f g = cc

written : (n : ℕ) → n < 2 ^ 64 → IsWritten n (decimal n)
written n lt = decimal_by_steps IsWritten written_one written_more n lt

index_by : (n : ℕ) (ds : List ℕ) → IsWritten n ds → (n ≡ 0 → length ds ≡ 1) → is_index ds ≡ true
index_by n [] w z = absurd (omega (arith, w.some))
index_by n (c ∷ []) w z = yes_left (is_digit c) _ w.digits
index_by n (c ∷ d ∷ ds) w z = elim (cases_eq n 0) [
  | inl e ↦ let one : suc (suc (length ds)) ≡ 1 = z e in absurd (omega (arith, one))
  | inr e ↦ both (nat_le 49 c && nat_le c 57) (list_all is_digit (d ∷ ds)) (w.first c (d ∷ ds) refl (omega (arith, e))) (yes_right (is_digit c) (list_all is_digit (d ∷ ds)) w.digits)
]
  where
    both : (a b : Bool) → a ≡ true → b ≡ true → (a && b) ≡ true
    both true true f g = refl
    both true false f g = cc
    both false b f g = cc

decimal_index : (n : ℕ) → n < 2 ^ 64 → is_index (decimal n) ≡ true
decimal_index n lt = index_by n (decimal n) (written n lt) (λ e. ap (λ m. length (decimal m)) e ∙ ap length (decimal_digit 0 (omega arith)))

-- ---- the step of an element

pub good_step : (targets : List Target) (i : Instance) (k : ℕ) → IsSpelled i → k < 2 ^ 64 → GoodStep (step_of (frame_of targets i k))
good_step targets i k spelled lt = record {
  name = spelled.name;
  index = by (is_array (kind_of i.component) i.inst);
}
  where
    same : (a b : List ℕ) → Some a ≡ Some b → a ≡ b
    same a b q = cc

    by : (b : Bool) (ds : List ℕ) → option_map decimal (if b then Some k else None) ≡ Some ds → is_index ds ≡ true
    by true ds e = subst (λ (xs : List ℕ). is_index xs ≡ true) (same (decimal k) ds e) (decimal_index k lt)
    by false ds e = cc

-- two elements of one step are one
same_element : (i : Instance) (k l : ℕ) (targets : List Target) → k < count_of i → l < count_of i → k < 2 ^ 64 → l < 2 ^ 64 → step_of (frame_of targets i k) ≡ step_of (frame_of targets i l) → k ≡ l
same_element i k l targets p q r s e = by (is_field (kind_of i.component)) i.inst.range refl refl (ap (λ (x : Step). x.element) e)
  where
    same : (a b : List ℕ) → Some a ≡ Some b → a ≡ b
    same a b z = cc

    by : (f : Bool) (o : Option RdlRange) → is_field (kind_of i.component) ≡ f → i.inst.range ≡ o
        → option_map decimal (if is_array (kind_of i.component) i.inst then Some k else None) ≡ option_map decimal (if is_array (kind_of i.component) i.inst then Some l else None) → k ≡ l
    by true o u v w = let a : k < 1 = subst (λ b. k < (if b then 1 else elements_in i.inst.range)) u p in let b : l < 1 = subst (λ b. l < (if b then 1 else elements_in i.inst.range)) u q in omega (arith, a, b)
    by false None u v w =
        let a : k < 1 = subst (λ b. k < elements_in b) v (subst (λ b. k < (if b then 1 else elements_in i.inst.range)) u p) in
        let b : l < 1 = subst (λ b. l < elements_in b) v (subst (λ b. l < (if b then 1 else elements_in i.inst.range)) u q) in omega (arith, a, b)
    by false (Some x) u v w =
        let arr : is_array (kind_of i.component) i.inst ≡ true = array_is (is_field (kind_of i.component)) i.inst.range u v in
        decimal_injective k l r s (same (decimal k) (decimal l) (subst (λ b. option_map decimal (if b then Some k else None) ≡ option_map decimal (if b then Some l else None)) arr w))
      where
        array_is : (f : Bool) (o : Option RdlRange) → f ≡ false → o ≡ Some x → (not f && is_some o) ≡ true
        array_is f o a b = rw (a, b) refl

-- ---- ways

abbrev pub same_path : NamedField → NamedField → Bool
same_path g h = bytes_eq g.path h.path

-- the field's path goes on by some steps
pub record HasWay (front : List Step) (g : NamedField) : Type 0 where
  pub rest : List Step
  pub path : g.path ≡ path_text (front ++ rest)
  pub good : GoodSteps (front ++ rest)
  pub some : rest ≡ [] → ⊥

-- by an element of an instance
record HasStep (front : List Step) (s : Step) (g : NamedField) : Type 0 where
  rest : List Step
  path : g.path ≡ path_text (front ++ (s ∷ rest))
  good : GoodSteps (front ++ (s ∷ rest))

to_way : (front : List Step) (s : Step) (g : NamedField) → HasStep front s g → HasWay front g
to_way front s g h = record { rest = s ∷ h.rest; path = h.path; good = h.good; some = λ e. cc }

cancel : (front xs ys : List Step) → front ++ xs ≡ front ++ ys → xs ≡ ys
cancel [] xs ys e = e
cancel (f ∷ fs) xs ys e = cancel fs xs ys (cc)

same_whole : (front : List Step) (s t : Step) (ss ts : List Step) → GoodSteps (front ++ (s ∷ ss)) → GoodSteps (front ++ (t ∷ ts)) → path_text (front ++ (s ∷ ss)) ≡ path_text (front ++ (t ∷ ts)) → front ++ (s ∷ ss) ≡ front ++ (t ∷ ts)
same_whole [] s t ss ts p q e = same_steps s t ss ts p q e
same_whole (f ∷ fs) s t ss ts p q e = same_steps f f (fs ++ (s ∷ ss)) (fs ++ (t ∷ ts)) p q e

first_same : (s t : Step) (ss ts : List Step) → s ∷ ss ≡ t ∷ ts → s ≡ t
first_same s t ss ts e = cc

differ : (front : List Step) (s t : Step) (g h : NamedField) → HasStep front s g → HasStep front t h → (s ≡ t → ⊥) → same_path g h ≡ false
differ front s t g h a b off = elim (cases_Bool (same_path g h)) [
  | inr e ↦ e
  | inl e ↦
      let p : g.path ≡ h.path = (bytes_eq-Decides g.path h.path).0 e in
      let w : front ++ (s ∷ a.rest) ≡ front ++ (t ∷ b.rest) = same_whole front s t a.rest b.rest a.good b.good (sym a.path ∙ p ∙ b.path) in
      absurd (off (first_same s t a.rest b.rest (cancel front (s ∷ a.rest) (t ∷ b.rest) w)))
]

-- ---- the fields of a register

record InInstance (up : Trail) (targets : List Target) (g : NamedField) (is : List Instance) : Type 0 where
  instance : Instance
  among : Has instance is
  number : ℕ
  below : number < count_of instance
  way : HasStep (map step_of up) (step_of (frame_of targets instance number)) g

steps_good : (up : List Step) (s : Step) → GoodSteps up → GoodStep s → GoodSteps (up ++ (s ∷ []))
steps_good [] s all here = (here, tt)
steps_good (u ∷ up) s all here = (all.0, steps_good up s all.1 here)

record OfRegister (up : Trail) (targets : List Target) (fields : List NamedField) (is : List Instance) : Type 0 where
  distinct : IsDistinct same_path fields
  each : (g : NamedField) → Has g fields → InInstance up targets g is

no_fields : IsDistinct same_path []
unfolding IsDistinct
no_fields = tt

abbrev AreFields : List Instance → Type 0
AreFields is = (i : Instance) → Has i is → is_field (kind_of i.component) ≡ true

one_field : (i : Instance) → is_field (kind_of i.component) ≡ true → 0 < count_of i
one_field i e = rw e (omega arith)

of_register : (register access : ℕ) (up : Trail) (targets : List Target) (next : ℕ) (is : List Instance) → GoodSteps (map step_of up) → ((i : Instance) → Has i is → IsSpelled i) → AreFields is → IsDistinct same_name is
    → OfRegister up targets (fields_in register access up targets next is) is
unfolding IsDistinct
of_register register access up targets next [] good spelled all d = record { distinct = no_fields; each = λ g h. absurd h }
of_register register access up targets next (i ∷ is) good spelled all d =
    let s : Step = step_of (frame_of targets i 0) in
    let g : NamedField = field_in register access up targets i (bits_of up targets next i) in
    let own : HasStep (map step_of up) (step_of (frame_of targets i 0)) (field_in register access up targets i (bits_of up targets next i)) =
    record { rest = []; path = ap path_text (map-append step_of up (frame_of targets i 0 ∷ [])); good = steps_good (map step_of up) (step_of (frame_of targets i 0)) good (good_step targets i 0 (spelled i (inl refl)) (omega arith)) } in
    let more : OfRegister up targets (fields_in register access up targets (bits_of up targets next i).end is) is =
    of_register register access up targets (bits_of up targets next i).end is good (λ j h. spelled j (inr h)) (λ j h. all j (inr h)) d.1 in
    record {
      distinct = (
        all_by (λ (h : NamedField). same_path (field_in register access up targets i (bits_of up targets next i)) h ≡ false) (fields_in register access up targets (bits_of up targets next i).end is) (λ h k.
            let x : InInstance up targets h is = more.each h k in
            differ (map step_of up) (step_of (frame_of targets i 0)) (step_of (frame_of targets x.instance x.number)) _ h own x.way (λ e.
            true≢false (sym ((bytes_eq-Decides i.inst.name.text x.instance.inst.name.text).1 (ap (λ (z : Step). z.name) e)) ∙ of_all (λ z. same_name i z ≡ false) is x.instance d.0 x.among))),
        more.distinct,
      );
      each = λ h k. elim k [
        | inl e ↦ subst (λ (z : NamedField). InInstance up targets z (i ∷ is)) (sym e) (record { instance = i; among = inl refl; number = 0; below = one_field i (all i (inl refl)); way = own })
        | inr r ↦ let x : InInstance up targets h is = more.each h r in record { instance = x.instance; among = inr x.among; number = x.number; below = x.below; way = x.way }
      ];
    }

-- ---- of a walk

pub record OfWalk (up : Trail) (fields : List NamedField) : Type 0 where
  pub distinct : IsDistinct same_path fields
  pub each : (g : NamedField) → Has g fields → HasWay (map step_of up) g

abbrev GoesOn : Gives NamedField → Trail → List Target → Instance → Type 0
GoesOn go up targets i = (a k : ℕ) → k < count_of i → OfWalk (up ++ frame_of targets i k ∷ []) (go a (up ++ frame_of targets i k ∷ []) i.component)

record ByElement (up : Trail) (targets : List Target) (i : Instance) (n : ℕ) (g : NamedField) : Type 0 where
  number : ℕ
  below : number < n
  way : HasStep (map step_of up) (step_of (frame_of targets i number)) g

to_step : (up : Trail) (f : Frame) (g : NamedField) → HasWay (map step_of (up ++ f ∷ [])) g → HasStep (map step_of up) (step_of f) g
to_step up f g w =
    let e : map step_of (up ++ f ∷ []) ++ w.rest ≡ map step_of up ++ (step_of f ∷ w.rest) = ap (λ (xs : List Step). xs ++ w.rest) (map-append step_of up (f ∷ [])) ∙ append_assoc (map step_of up) (step_of f ∷ []) w.rest in
    record { rest = w.rest; path = w.path ∙ ap path_text e; good = subst GoodSteps e w.good }

record OfElements (up : Trail) (targets : List Target) (i : Instance) (n : ℕ) (fields : List NamedField) : Type 0 where
  distinct : IsDistinct same_path fields
  each : (g : NamedField) → Has g fields → ByElement up targets i n g

of_elements : (go : Gives NamedField) (base : ℕ) (up : Trail) (targets : List Target) (i : Instance) (x : Extent) (n : ℕ) → GoesOn go up targets i → count_of i < 2 ^ 64 → n ≤ count_of i → OfElements up targets i n (over_elements go base up targets i x n)
of_elements go base up targets i x zero on few le = record { distinct = no_fields; each = λ g h. absurd h }
of_elements go base up targets i x (suc n) on few le =
    let before : OfElements up targets i n (over_elements go base up targets i x n) = of_elements go base up targets i x n on few (omega (arith, le)) in
    let here : OfWalk (up ++ frame_of targets i n ∷ []) (go (address_of base x n) (up ++ frame_of targets i n ∷ []) i.component) = on (address_of base x n) n (omega (arith, le)) in
    record {
      distinct = distinct_append same_path (over_elements go base up targets i x n) _ before.distinct here.distinct (λ g h a b.
          let p : ByElement up targets i n g = before.each g a in
          differ (map step_of up) (step_of (frame_of targets i p.number)) (step_of (frame_of targets i n)) g h p.way (to_step up (frame_of targets i n) h (here.each h b)) (λ e.
          let s : p.number ≡ n = same_element i p.number n targets (omega (arith, p.below, le)) (omega (arith, le)) (omega (arith, p.below, le, few)) (omega (arith, le, few)) e in
          omega (arith, s, p.below)));
      each = λ g h. elim (has_cases g (over_elements go base up targets i x n) _ h) [
        | inl l ↦ let p : ByElement up targets i n g = before.each g l in record { number = p.number; below = omega (arith, p.below); way = p.way }
        | inr r ↦ record { number = n; below = omega arith; way = to_step up (frame_of targets i n) g (here.each g r) }
      ];
    }

record OfInstances (up : Trail) (targets : List Target) (is : List Instance) (fields : List NamedField) : Type 0 where
  distinct : IsDistinct same_path fields
  each : (g : NamedField) → Has g fields → InInstance up targets g is

of_none : (up : Trail) (targets : List Target) (i : Instance) (is : List Instance) (fields : List NamedField) → OfInstances up targets is fields → OfInstances up targets (i ∷ is) fields
of_none up targets i is fields o = record {
  distinct = o.distinct;
  each = λ g h. let x : InInstance up targets g is = o.each g h in record { instance = x.instance; among = inr x.among; number = x.number; below = x.below; way = x.way };
}

choose : (up : Trail) (targets : List Target) (is : List Instance) (b : Bool) (xs ys : List NamedField) → (b ≡ true → OfInstances up targets is xs) → (b ≡ false → OfInstances up targets is ys) → OfInstances up targets is (if b then xs else ys)
choose up targets is true xs ys f g = f refl
choose up targets is false xs ys f g = g refl

of_instances : (go : Gives NamedField) (size : Sized) (base : ℕ) (up : Trail) (targets : List Target) (next : ℕ) (is : List Instance)
    → ((i : Instance) → Has i is → is_field (kind_of i.component) ≡ false → GoesOn go up targets i) → ((i : Instance) → Has i is → is_field (kind_of i.component) ≡ false → count_of i < 2 ^ 64) → IsDistinct same_name is
    → OfInstances up targets is (over_instances go size base up targets next is)
unfolding IsDistinct
of_instances go size base up targets next [] on few d = record { distinct = no_fields; each = λ g h. absurd h }
of_instances go size base up targets next (i ∷ is) on few d = choose up targets (i ∷ is) (is_field (kind_of i.component)) _ _
    (λ e. of_none up targets i is _ (of_instances go size base up targets next is (λ j h. on j (inr h)) (λ j h. few j (inr h)) d.1))
    (λ e.
    let x : Extent = extent_of size up targets next i in
    let here : OfElements up targets i (count_of i) (over_elements go base up targets i (extent_of size up targets next i) (count_of i)) =
    of_elements go base up targets i (extent_of size up targets next i) (count_of i) (on i (inl refl) e) (few i (inl refl) e) (omega arith) in
    let more : OfInstances up targets is (over_instances go size base up targets (extent_of size up targets next i).end is) =
    of_instances go size base up targets (extent_of size up targets next i).end is (λ j h. on j (inr h)) (λ j h. few j (inr h)) d.1 in
    record {
      distinct = distinct_append same_path (over_elements go base up targets i (extent_of size up targets next i) (count_of i)) _ here.distinct more.distinct (λ g h a b.
          let p : ByElement up targets i (count_of i) g = here.each g a in
          let q : InInstance up targets h is = more.each h b in
          differ (map step_of up) (step_of (frame_of targets i p.number)) (step_of (frame_of targets q.instance q.number)) g h p.way q.way (λ s.
          true≢false (sym ((bytes_eq-Decides i.inst.name.text q.instance.inst.name.text).1 (ap (λ (z : Step). z.name) s)) ∙ of_all (λ z. same_name i z ≡ false) is q.instance d.0 q.among)));
      each = λ g h. elim (has_cases g (over_elements go base up targets i (extent_of size up targets next i) (count_of i)) _ h) [
        | inl l ↦ let p : ByElement up targets i (count_of i) g = here.each g l in record { instance = i; among = inl refl; number = p.number; below = p.below; way = p.way }
        | inr r ↦ let q : InInstance up targets g is = more.each g r in record { instance = q.instance; among = inr q.among; number = q.number; below = q.below; way = q.way }
      ];
    })

-- ---- with room

abbrev Bounded : ℕ → Component → Type 0
Bounded zero c = ⊤
Bounded (suc room) c = number_in room c ≤ 1048576

at_most : (n m : ℕ) → n ≤ n * (1 + m)
at_most zero m = omega arith
at_most (suc n) m = let q : n ≤ n * (1 + m) = at_most n m in omega (arith, q, unary n m)
  where
    unary : (a b : ℕ) → suc a * (1 + b) ≡ (1 + b) + a * (1 + b)
    unary a b = omega arith

count_bound : (room : ℕ) (c : Component) (i : Instance) → number_in room c ≤ 1048576 → Has i (instances_of c) → is_field (kind_of i.component) ≡ false → count_of i < 2 ^ 64
count_bound room c i few h plain =
    let a : number_with (number_inside room) i ≤ number_in room c = among_counts (number_inside room) i (instances_of c) h in
    let b : count_of i * (1 + number_inside room i.component) ≤ number_with (number_inside room) i = subst (λ b. count_of i * (1 + number_inside room i.component) ≤ (if b then 0 else count_of i * (1 + number_inside room i.component))) (sym plain) (omega arith) in
    let c2 : count_of i ≤ count_of i * (1 + number_inside room i.component) = at_most (count_of i) (number_inside room i.component) in
    omega (arith, a, b, c2, few)

bounded_inside : (room : ℕ) (c : Component) (i : Instance) (k : ℕ) → number_in room c ≤ 1048576 → Has i (instances_of c) → is_field (kind_of i.component) ≡ false → k < count_of i → Bounded room i.component
bounded_inside zero c i k few h plain lt = tt
bounded_inside (suc room) c i k few h plain lt =
    let a : number_with (number_inside (suc room)) i ≤ number_in (suc room) c = among_counts (number_inside (suc room)) i (instances_of c) h in
    let b : 1 + number_inside (suc room) i.component ≤ number_with (number_inside (suc room)) i = one_counts (number_inside (suc room)) i k lt plain in
    let e : number_inside (suc room) i.component ≡ number_in room i.component = inside_some (suc room) room i.component refl in
    omega (arith, a, b, e, few)

only_fields : (c : Component) → FineComponent c → kind_of c ≡ body.Reg → AreFields (instances_of c)
only_fields c fine q i h = field_by (kind_of i.component) (subst (λ (k : Body). holds k (kind_of i.component) ≡ true) q (instance_is c i fine h).held)
  where
    field_by : (k : Body) → holds body.Reg k ≡ true → is_field k ≡ true
    field_by body.File e = cc
    field_by body.Addrmap e = cc
    field_by body.Regfile e = cc
    field_by body.Reg e = cc
    field_by body.Field e = refl

in_register : (base : ℕ) (up : Trail) (c : Component) → FineComponent c → FitsComponent c → GoodSteps (map step_of up) → OfWalk up (fields_at base up c)
in_register base up c fine fit good = by (kind_of c) refl
  where
    nothing : (k : Body) → fields_by k base up c ≡ [] → kind_of c ≡ k → OfWalk up (fields_at base up c)
    nothing k e q = subst (λ (xs : List NamedField). OfWalk up xs) (sym (ap (λ (x : Body). fields_by x base up c) q ∙ e)) (record { distinct = no_fields; each = λ g h. absurd h })

    by : (k : Body) → kind_of c ≡ k → OfWalk up (fields_at base up c)
    by body.File q = nothing body.File refl q
    by body.Addrmap q = nothing body.Addrmap refl q
    by body.Regfile q = nothing body.Regfile refl q
    by body.Reg q =
        let r : OfRegister up (targets_in c) (fields_in base (accesswidth_at up) up (targets_in c) 0 (instances_of c)) (instances_of c) =
        of_register base (accesswidth_at up) up (targets_in c) 0 (instances_of c) good (λ i h. is_spelled c i fit h) (only_fields c fine q) (names_differ c fine) in
        subst (λ (k : Body). OfWalk up (fields_by k base up c)) (sym q)
        (record { distinct = r.distinct; each = λ g h. let x : InInstance up (targets_in c) g (instances_of c) = r.each g h in to_way (map step_of up) _ g x.way })
    by body.Field q = nothing body.Field refl q

fields_or_none : (base : ℕ) (up : Trail) (c : Component) → (fields_at base up c ≡ []) ⊎ (kind_of c ≡ body.Reg)
fields_or_none base up c = by (kind_of c) refl
  where
    by : (k : Body) → kind_of c ≡ k → (fields_at base up c ≡ []) ⊎ (kind_of c ≡ body.Reg)
    by body.File q = inl (ap (λ (x : Body). fields_by x base up c) q)
    by body.Addrmap q = inl (ap (λ (x : Body). fields_by x base up c) q)
    by body.Regfile q = inl (ap (λ (x : Body). fields_by x base up c) q)
    by body.Reg q = inr q
    by body.Field q = inl (ap (λ (x : Body). fields_by x base up c) q)

inside_none : (go : Gives NamedField) (size : Sized) (base : ℕ) (up : Trail) (targets : List Target) (next : ℕ) (is : List Instance) → AreFields is → over_instances go size base up targets next is ≡ []
inside_none go size base up targets next [] all = refl
inside_none go size base up targets next (i ∷ is) all = rw (all i (inl refl)) (inside_none go size base up targets next is (λ j h. all j (inr h)))

pub of_walk : (room base : ℕ) (up : Trail) (c : Component) → FineComponent c → FitsComponent c → Bounded room c → GoodSteps (map step_of up) → OfWalk up (over fields_at room base up c)
unfolding over
of_walk zero base up c fine fit few good = in_register base up c fine fit good
of_walk (suc room) base up c fine fit few good =
    let own : OfWalk up (fields_at base up c) = in_register base up c fine fit good in
    let below : OfInstances up (targets_in c) (instances_of c) (over_instances (over fields_at room) (size_in room) base up (targets_in c) 0 (instances_of c)) =
    of_instances (over fields_at room) (size_in room) base up (targets_in c) 0 (instances_of c)
    (λ i h plain a k lt.
    of_walk room a (up ++ frame_of (targets_in c) i k ∷ []) i.component (instance_is c i fine h).fine (is_spelled c i fit h).inside (bounded_inside room c i k few h plain lt)
    (subst GoodSteps (sym (map-append step_of up (frame_of (targets_in c) i k ∷ []))) (steps_good (map step_of up) (step_of (frame_of (targets_in c) i k)) good
    (good_step (targets_in c) i k (is_spelled c i fit h) (let b : count_of i < 2 ^ 64 = count_bound room c i few h plain in omega (arith, b, lt))))))
    (λ i h plain. count_bound room c i few h plain) (names_differ c fine) in
    elim (fields_or_none base up c) [
      | inl none ↦ record {
        distinct = distinct_append same_path (fields_at base up c) _ own.distinct below.distinct (λ g h a b. absurd (has_none g (fields_at base up c) none a));
        each = λ g h. elim (has_cases g (fields_at base up c) _ h) [ inl l ↦ own.each g l | inr r ↦ let x : InInstance up (targets_in c) g (instances_of c) = below.each g r in to_way (map step_of up) _ g x.way ];
      }
      | inr reg ↦
          let nothing : over_instances (over fields_at room) (size_in room) base up (targets_in c) 0 (instances_of c) ≡ [] = inside_none (over fields_at room) (size_in room) base up (targets_in c) 0 (instances_of c) (only_fields c fine reg) in
          subst (λ (xs : List NamedField). OfWalk up (fields_at base up c ++ xs)) (sym nothing) (subst (λ (xs : List NamedField). OfWalk up xs) (sym (append-nil (fields_at base up c))) own)
    ]
