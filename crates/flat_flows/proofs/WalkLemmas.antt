-- Walks over parts of statements, one after the other and one beside the other.
use Rattle.std.proofs.Common.{◌≡◌, ℕ, Bool, true, false, not, ◌||◌, ◌&&◌, List, [], ◌∷◌, ◌++◌, refl, sym, ◌∙◌, ap, subst, append_assoc}
use Rattle.std.proofs.lemmas.List.Folds.{list_any-append}
use Rattle.std.specs.Prelude.{◌==◌, Option, Some, None, MatchOption, Result, Ok, Err, IfOk, OnOk}
use Rattle.flat_design.specs.Reads.{no_bits}
use Rattle.flat_design.specs.Flows.{Flow, before, either, reading, idle}
use Rattle.flat_orders.specs.Orders.{among}
use Rattle.flat_flows.specs.declared.found.Found.{Found}
use Rattle.flat_flows.specs.Tables.{in_table, Grows, Gains}
use Rattle.flat_flows.specs.Walks.{Same, Fixes, Adds, Walked}
use Rattle.flat_flows.proofs.Growing.{grows_none, grows_both, or_assoc}

among_both : (i : ℕ) (xs ys : List ℕ) → among i (xs ++ ys) ≡ (among i xs || among i ys)
among_both i xs ys = list_any-append (λ j. j == i) xs ys

none_gained : (a : Bool) → a ≡ a || false
none_gained true = refl
none_gained false = refl

gains_none : (old : List Bool) → Gains old no_bits old
gains_none old i = none_gained (in_table old i)

gains_both : (old mid new : List Bool) (f g : ℕ → Bool) → Gains old f mid → Gains mid g new → Gains old (λ i. f i || g i) new
gains_both old mid new f g first second i = second i ∙ ap (λ b. b || g i) (first i) ∙ or_assoc (in_table old i) (f i) (g i)

-- ---- other tables with the same numbers

pub fixes_same : (f : Flow) (sure other : List Bool) (fixed : List ℕ) → Same other sure → Fixes f other fixed → Fixes f sure fixed
fixes_same f sure other fixed same h i = h i ∙ ap (λ b. not (f.leaves i) && not b) (same i)

pub adds_same : (f : Flow) (sure other : List Bool) (old new : Found) → Same other sure → Adds f other old new → Adds f sure old new
adds_same f sure other old new same h = record { reads = λ i. h.reads i ∙ ap (λ b. in_table old.reads i || (f.reads i && not b)) (same i); drives = h.drives }

pub walked_same : (f : Flow) (sure other : List Bool) (old new : Found) (fixed : List ℕ) → Same other sure → Walked f other old new fixed → Walked f sure old new fixed
walked_same f sure other old new fixed same h = record { adds = adds_same f sure other old new same h.adds; fixes = fixes_same f sure other fixed same h.fixes }

-- ---- one after the other

first_reads : (a f l g s : Bool) → (a || (f && not s)) || (g && not (s || (not l && not s))) ≡ a || ((f || (l && g)) && not s)
first_reads true true true true true = refl
first_reads true true true true false = refl
first_reads true true true false true = refl
first_reads true true true false false = refl
first_reads true true false true true = refl
first_reads true true false true false = refl
first_reads true true false false true = refl
first_reads true true false false false = refl
first_reads true false true true true = refl
first_reads true false true true false = refl
first_reads true false true false true = refl
first_reads true false true false false = refl
first_reads true false false true true = refl
first_reads true false false true false = refl
first_reads true false false false true = refl
first_reads true false false false false = refl
first_reads false true true true true = refl
first_reads false true true true false = refl
first_reads false true true false true = refl
first_reads false true true false false = refl
first_reads false true false true true = refl
first_reads false true false true false = refl
first_reads false true false false true = refl
first_reads false true false false false = refl
first_reads false false true true true = refl
first_reads false false true true false = refl
first_reads false false true false true = refl
first_reads false false true false false = refl
first_reads false false false true true = refl
first_reads false false false true false = refl
first_reads false false false false true = refl
first_reads false false false false false = refl

first_fixes : (f g s : Bool) → (not f && not s) || (not g && not (s || (not f && not s))) ≡ not (f && g) && not s
first_fixes true true true = refl
first_fixes true true false = refl
first_fixes true false true = refl
first_fixes true false false = refl
first_fixes false true true = refl
first_fixes false true false = refl
first_fixes false false true = refl
first_fixes false false false = refl

-- what is sure after a part is what was sure before, and what the part fixes
pub adds_before : (f g : Flow) (sure after : List Bool) (old mid new : Found) (fixed : List ℕ) → Walked f sure old mid fixed → ((i : ℕ) → in_table after i ≡ (in_table sure i || among i fixed)) → Adds g after mid new → Adds (before f g) sure old new
adds_before f g sure after old mid new fixed first is second = record { reads = reads; drives = gains_both old.drives mid.drives new.drives f.drives g.drives first.adds.drives second.drives } where
  reads : Grows old.reads (before f g).reads sure new.reads
  reads i =
      second.reads i ∙ ap (λ b. b || (g.reads i && not (in_table after i))) (first.adds.reads i)
      ∙ ap (λ b. (in_table old.reads i || (f.reads i && not (in_table sure i))) || (g.reads i && not b)) (is i ∙ ap (λ b. in_table sure i || b) (first.fixes i))
      ∙ first_reads (in_table old.reads i) (f.reads i) (f.leaves i) (g.reads i) (in_table sure i)

pub fixes_before : (f g : Flow) (sure after : List Bool) (fixed more : List ℕ) → Fixes f sure fixed → ((i : ℕ) → in_table after i ≡ (in_table sure i || among i fixed)) → Fixes g after more → Fixes (before f g) sure (fixed ++ more)
fixes_before f g sure after fixed more first is second i =
    among_both i fixed more ∙ (λ j. first i j || second i j) ∙ ap (λ b. (not (f.leaves i) && not (in_table sure i)) || (not (g.leaves i) && not b)) (is i ∙ ap (λ b. in_table sure i || b) (first i))
    ∙ first_fixes (f.leaves i) (g.leaves i) (in_table sure i)

pub walked_before : (f g : Flow) (sure after : List Bool) (old mid new : Found) (fixed more : List ℕ) → Walked f sure old mid fixed → ((i : ℕ) → in_table after i ≡ (in_table sure i || among i fixed)) → Walked g after mid new more
    → Walked (before f g) sure old new (fixed ++ more)
walked_before f g sure after old mid new fixed more first is second =
    record { adds = adds_before f g sure after old mid new fixed first is second.adds; fixes = fixes_before f g sure after fixed more first.fixes is second.fixes }

no_reads : (a s : Bool) → a ≡ a || (false && not s)
no_reads true true = refl
no_reads true false = refl
no_reads false true = refl
no_reads false false = refl

pub adds_idle : (sure : List Bool) (old : Found) → Adds idle sure old old
adds_idle sure old = record { reads = grows_none old.reads sure; drives = gains_none old.drives }

pub walked_idle : (sure : List Bool) (old : Found) → Walked idle sure old old []
walked_idle sure old = record { adds = adds_idle sure old; fixes = λ i. refl }

-- after bits that are only read
pub adds_after_reading : (set : ℕ → Bool) (g : Flow) (sure : List Bool) (old mid new : Found) → Grows old.reads set sure mid.reads → old.drives ≡ mid.drives → Adds g sure mid new → Adds (before (reading set) g) sure old new
adds_after_reading set g sure old mid new first same second =
    record { reads = grows_both old.reads mid.reads new.reads sure set g.reads first second.reads; drives = λ i. second.drives i ∙ ap (λ t. in_table t i || g.drives i) (sym same) }

pub walked_after_reading : (set : ℕ → Bool) (g : Flow) (sure : List Bool) (old mid new : Found) (fixed : List ℕ) → Grows old.reads set sure mid.reads → old.drives ≡ mid.drives → Walked g sure mid new fixed → Walked (before (reading set) g) sure old new fixed
walked_after_reading set g sure old mid new fixed first same second = record { adds = adds_after_reading set g sure old mid new first same second.adds; fixes = second.fixes }

-- ---- one beside the other

either_fixes : (f g s : Bool) → (not g && not s) && (s || (not f && not s)) ≡ not (f || g) && not s
either_fixes true true true = refl
either_fixes true true false = refl
either_fixes true false true = refl
either_fixes true false false = refl
either_fixes false true true = refl
either_fixes false true false = refl
either_fixes false false true = refl
either_fixes false false false = refl

either_other : (f g s : Bool) → (not g && not s) && (s || (not f && not s)) ≡ not (g || f) && not s
either_other true true true = refl
either_other true true false = refl
either_other true false true = refl
either_other true false false = refl
either_other false true true = refl
either_other false true false = refl
either_other false false true = refl
either_other false false false = refl

pub adds_either : (f g : Flow) (sure : List Bool) (old mid new : Found) → Adds f sure old mid → Adds g sure mid new → Adds (either f g) sure old new
adds_either f g sure old mid new first second = record {
  reads = grows_both old.reads mid.reads new.reads sure f.reads g.reads first.reads second.reads;
  drives = gains_both old.drives mid.drives new.drives f.drives g.drives first.drives second.drives;
}

pub fixes_either : (f g : Flow) (sure : List Bool) (a b both : List ℕ) → Fixes f sure a → Fixes g sure b → ((i : ℕ) → among i both ≡ (among i b && (in_table sure i || among i a))) → Fixes (either f g) sure both
fixes_either f g sure a b both first second is i = is i ∙ (λ j. second i j && (in_table sure i || first i j)) ∙ either_fixes (f.leaves i) (g.leaves i) (in_table sure i)

pub walked_either : (f g : Flow) (sure : List Bool) (old mid new : Found) (a b both : List ℕ) → Walked f sure old mid a → Walked g sure mid new b → ((i : ℕ) → among i both ≡ (among i b && (in_table sure i || among i a)))
    → Walked (either f g) sure old new both
walked_either f g sure old mid new a b both first second is =
    record { adds = adds_either f g sure old mid new first.adds second.adds; fixes = fixes_either f g sure a b both first.fixes second.fixes is }

-- ---- whole statements

append_none : (xs : List ℕ) → xs ++ [] ≡ xs
append_none [] = refl
append_none (x ∷ xs) = ap (λ l. x ∷ l) (append_none xs)

-- what is sure after one statement more in a row
pub sure_more : (start sure mid after : List Bool) (fixed own : List ℕ) (i : ℕ) → in_table sure i ≡ (in_table start i || among i fixed) → in_table mid i ≡ in_table sure i → in_table after i ≡ (in_table mid i || among i own) → in_table after i ≡ (in_table start i || among i (fixed ++ own))
sure_more start sure mid after fixed own i was same is =
    is ∙ ap (λ b. b || among i own) (same ∙ was) ∙ or_assoc (in_table start i) (among i fixed) (among i own) ∙ ap (λ b. in_table start i || b) (sym (among_both i fixed own))

-- one statement more in a row
pub row_more : (f g whole : Flow) (start sure mid after : List Bool) (old now next final : Found) (fixed own more : List ℕ)
    → ((final : Found) (more : List ℕ) → Walked (before f g) sure now final more → Walked whole start old final (fixed ++ more))
    → Walked f sure now next own → Same mid sure → ((i : ℕ) → in_table after i ≡ (in_table mid i || among i own)) → Walked g after next final more → Walked whole start old final ((fixed ++ own) ++ more)
row_more f g whole start sure mid after old now next final fixed own more all one same is rest =
    subst (λ l. Walked whole start old final l) (sym (append_assoc fixed own more)) (all final (own ++ more) (walked_before f g sure after now next final own more one (λ i. is i ∙ ap (λ b. b || among i own) (same i)) rest))

pub row_end : (whole : Flow) (start sure : List Bool) (old final : Found) (fixed : List ℕ) → ((end : Found) (more : List ℕ) → Walked idle sure final end more → Walked whole start old end (fixed ++ more)) → Walked whole start old final fixed
row_end whole start sure old final fixed all = subst (λ l. Walked whole start old final l) (append_none fixed) (all final [] (walked_idle sure final))

taken_out : (s l : Bool) → (s || (not l && not s)) && not (not l && not s) ≡ s
taken_out true true = refl
taken_out true false = refl
taken_out false true = refl
taken_out false false = refl

-- what a row fixes is taken out again
pub sure_back : (f : Flow) (start sure : List Bool) (fixed : List ℕ) (i : ℕ) → in_table sure i ≡ (in_table start i || among i fixed) → Fixes f start fixed → (in_table sure i && not (among i fixed)) ≡ in_table start i
sure_back f start sure fixed i was fixes = ap (λ b. b && not (among i fixed)) was ∙ ap (λ b. (in_table start i || b) && not b) (fixes i) ∙ taken_out (in_table start i) (f.leaves i)

pub if_walked : (set : ℕ → Bool) (f g : Flow) (sure s1 s2 : List Bool) (old m1 m2 new : Found) (a b both : List ℕ) → Grows old.reads set sure m1.reads → old.drives ≡ m1.drives → Walked f sure m1 m2 a → Same s1 sure → Walked g s1 m2 new b → Same s2 s1
    → ((i : ℕ) → among i both ≡ (among i b && (in_table s2 i || among i a))) → Walked (before (reading set) (either f g)) sure old new both
if_walked set f g sure s1 s2 old m1 m2 new a b both read same first same1 second same2 is =
    walked_after_reading set (either f g) sure old m1 new both read same
    (walked_either f g sure m1 m2 new a b both first (walked_same g sure s1 m2 new b same1 second) (λ i. is i ∙ ap (λ x. among i b && (x || among i a)) (same2 i ∙ same1 i)))

pub case_walked : (set : ℕ → Bool) (d whole : Flow) (sure s1 : List Bool) (old m1 m2 new : Found) (fixed : List ℕ) → Grows old.reads set sure m1.reads → old.drives ≡ m1.drives → Adds d sure m1 m2 → Same s1 sure
    → (Adds d s1 m1 m2 → Adds whole s1 m1 new) → Fixes whole s1 fixed → Walked (before (reading set) whole) sure old new fixed
case_walked set d whole sure s1 old m1 m2 new fixed read same first same1 rest fixes =
    walked_after_reading set whole sure old m1 new fixed read same
    (walked_same whole sure s1 m1 new fixed same1 (record { adds = rest (adds_same d s1 sure m1 m2 (λ i. sym (same1 i)) first); fixes = fixes }))

-- ---- answers

pub if_ok_map : {A E : Type 0} (r : Result A E) (P Q : A → Type 0) → ((x : A) → P x → Q x) → IfOk r P → IfOk r Q
if_ok_map (Ok x) P Q f h = f x h
if_ok_map (Err e) P Q f h = h

pub if_ok_both : {A E : Type 0} (r : Result A E) (X : Type 0) (P Q : A → Type 0) → ((x : A) → X → P x → Q x) → OnOk r X → IfOk r P → IfOk r Q
if_ok_both (Ok x) X P Q f k h = f x k h
if_ok_both (Err e) X P Q f k h = h

pub match_map : {A : Type 0} (o : Option A) (P : Type 0) (Q R : A → Type 0) → ((x : A) → Q x → R x) → MatchOption o P Q → MatchOption o P R
match_map None P Q R f h = h
match_map (Some x) P Q R f h = f x h
