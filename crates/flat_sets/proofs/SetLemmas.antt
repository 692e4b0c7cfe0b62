-- Tables with one entry written, and their members.
use Rattle.std.proofs.Common.{◌≡◌, ℕ, zero, suc, ◌+◌, ◌-◌, ◌≤◌, ◌<◌, Bool, true, false, List, [], ◌∷◌, ◌++◌, length, replicate, take, slice_get, slice_set, Some, refl, sym, ◌∙◌, ap, add-one, arith}
use Rattle.std.specs.Prelude.{slice_index_or, if◌then◌else◌}
use Rattle.std.proofs.Math.Seq.{take-suc}
use Rattle.std.proofs.lemmas.List.{length-set, length-append, length-replicate}
use Rattle.bit_base.specs.Operators.{count_of_true}
use Rattle.flat_sets.specs.Sets.{cleared}

counted_more : (x : Bool) (n : ℕ) → x ≡ false → 1 + n ≡ (if x then 1 else 0) + n + 1
counted_more x n e = rw e (omega arith)

pub count_more : (table : List Bool) (k : ℕ) → slice_get table k ≡ Some false → count_of_true (slice_set table k true) ≡ count_of_true table + 1
count_more [] k h = cc
count_more (x ∷ xs) zero h = counted_more x (count_of_true xs) cc
count_more (x ∷ xs) (suc k) h = let e = count_more xs k h in omega arith

pub taken_back : (table : List Bool) (k : ℕ) → slice_get table k ≡ Some false → slice_set (slice_set table k true) k false ≡ table
taken_back [] k h = refl
taken_back (x ∷ xs) zero h = let e : x ≡ false = cc in ap (λ b. b ∷ xs) (sym e)
taken_back (x ∷ xs) (suc k) h = ap (λ l. x ∷ l) (taken_back xs k h)

pub cleared_push : (numbers : List ℕ) (number : ℕ) (table : List Bool) → cleared (numbers ++ number ∷ []) table ≡ cleared numbers (slice_set table number false)
cleared_push [] number table = refl
cleared_push (n ∷ numbers) number table = ap (λ t. slice_set t n false) (cleared_push numbers number table)

pub outside : (table : List Bool) (k : ℕ) (x : Bool) → length table ≤ k → slice_set table k x ≡ table
outside [] k x h = refl
outside (y ∷ ys) zero x h = absurd (omega arith)
outside (y ∷ ys) (suc k) x h = ap (λ l. y ∷ l) (outside ys k x (omega arith))

pub none_true : (n : ℕ) → count_of_true (replicate n false) ≡ 0
none_true zero = refl
none_true (suc n) = let e = none_true n in omega arith

before_last : (numbers : List ℕ) (i : ℕ) → i < length numbers → take (i + 1) numbers ≡ take i numbers ++ slice_index_or numbers i 0 ∷ []
before_last numbers i h = rw (add-one) (take-suc numbers i 0 h)

-- one member back: the last of them is taken out
pub one_back : (numbers : List ℕ) (i : ℕ) (table : List Bool) → 0 < i → i ≤ length numbers → cleared (take i numbers) table ≡ cleared (take (i - 1) numbers) (slice_set table (slice_index_or numbers (i - 1) 0) false)
one_back numbers i table h k =
    let e : i ≡ i - 1 + 1 = omega arith in
    ap (λ j. cleared (take j numbers) table) e ∙ ap (λ l. cleared l table) (before_last numbers (i - 1) (omega arith)) ∙ cleared_push (take (i - 1) numbers) (slice_index_or numbers (i - 1) 0) table

pub was_out : (table : List Bool) (k : ℕ) (d : Bool) → k < length table → slice_index_or table k d ≡ false → slice_get table k ≡ Some false
was_out [] k d h is = absurd (omega arith)
was_out (x ∷ xs) zero d h is = ap Some is
was_out (x ∷ xs) (suc k) d h is = was_out xs k d (omega arith) is

-- one more member: it is counted, and taken out first
pub counted_push : (table : List Bool) (members after : List ℕ) (k : ℕ) → slice_get table k ≡ Some false → after ≡ members ++ k ∷ [] → length members ≡ count_of_true table → length after ≡ count_of_true (slice_set table k true)
counted_push table members after k out is counted = ap length is ∙ (let e = count_more table k out in omega (arith, length-append members (k ∷ [])))

pub emptied_push : (table : List Bool) (members after : List ℕ) (k : ℕ) → slice_get table k ≡ Some false → after ≡ members ++ k ∷ []
    → cleared members table ≡ replicate (length table) false → cleared after (slice_set table k true) ≡ replicate (length (slice_set table k true)) false
emptied_push table members after k out is emptied =
    ap (λ l. cleared l (slice_set table k true)) is ∙ cleared_push members k (slice_set table k true) ∙ ap (cleared members) (taken_back table k out)
    ∙ emptied ∙ ap (λ n. replicate n false) (sym (length-set table k true))

pub empty_counted : (n : ℕ) (table : List Bool) (members : List ℕ) → table ≡ replicate n false → members ≡ [] → length members ≡ count_of_true table
empty_counted n table members is none = ap length none ∙ sym (none_true n) ∙ ap count_of_true (sym is)

pub empty_emptied : (n : ℕ) (table : List Bool) (members : List ℕ) → table ≡ replicate n false → members ≡ [] → cleared members table ≡ replicate (length table) false
empty_emptied n table members is none = ap (λ l. cleared l table) none ∙ is ∙ ap (λ n. replicate n false) (sym (ap length is ∙ length-replicate n false))

pub cleared_none : (n : ℕ) (before table : List Bool) (members after : List ℕ) → cleared members before ≡ replicate n false → table ≡ cleared members before → after ≡ [] → length after ≡ count_of_true table
cleared_none n before table members after all is none = empty_counted n table after (is ∙ all) none

pub cleared_nothing : (n : ℕ) (before table : List Bool) (members after : List ℕ) → cleared members before ≡ replicate n false → table ≡ cleared members before → after ≡ [] → cleared after table ≡ replicate (length table) false
cleared_nothing n before table members after all is none = empty_emptied n table after (is ∙ all) none
