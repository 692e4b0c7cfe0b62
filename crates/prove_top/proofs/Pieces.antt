-- What the text between a head and a tail is.
use Rattle.std.proofs.Common.{◌≡◌, ◌⊎◌, ℕ, ◌+◌, ◌-◌, ◌<◌, true, false, not, List, ◌++◌, length, drop, take, Some, None, refl, arith, length-append, inl, inr}
use Rattle.std.proofs.Math.Seq.{take-append_seam, drop-append_seam}
use Rattle.std.proofs.lemmas.Bool.{cond-true, cond-false, false_from_ne_true, not-true, not-false, both_ways}
use Rattle.std.proofs.lemmas.Slice.Eq.{bytes_eq-Decides}
use Rattle.std.specs.Str.{bytes_eq}
use Rattle.prove_top.specs.Texts.{between, middle_of}

pub between-text : (head m tail : List ℕ) → between head tail (head ++ (m ++ tail)) ≡ m
between-text head m tail =
    let n : length (head ++ (m ++ tail)) - length head - length tail ≡ length m = simp length-append (omega arith) in
    rw (n, drop-append_seam head (m ++ tail)) (take-append_seam m tail)

pub middle_of-text : (head m tail : List ℕ) → middle_of head tail (head ++ (m ++ tail)) ≡ Some m
unfolding middle_of
middle_of-text head m tail =
    rw (between-text head m tail)
    (cond-true (bytes_eq (head ++ (m ++ tail)) (head ++ (m ++ tail))) (Some m) None
    ((bytes_eq-Decides (head ++ (m ++ tail)) (head ++ (m ++ tail))).1 refl))

pub middle_of-none : (head tail bytes : List ℕ) → ((m : List ℕ) → bytes ≡ head ++ (m ++ tail) → ⊥) → middle_of head tail bytes ≡ None
unfolding middle_of
middle_of-none head tail bytes none =
    cond-false (bytes_eq bytes (head ++ (between head tail bytes ++ tail))) (Some (between head tail bytes)) None
    (false_from_ne_true _ (λ same. none (between head tail bytes) ((bytes_eq-Decides bytes (head ++ (between head tail bytes ++ tail))).0 same)))

-- at a text whose parts are known by position
pub middle_of-cut : (head tail bytes rest inner back : List ℕ) → bytes ≡ head ++ rest → rest ≡ inner ++ back → back ≡ tail
    → middle_of head tail bytes ≡ Some inner
middle_of-cut head tail bytes rest inner back one two three = rw (one, two, three) (middle_of-text head inner tail)

-- what a comparison of texts tells
pub same_bytes : (a b : List ℕ) → not (bytes_eq a b) ≡ false → a ≡ b
same_bytes a b h = (bytes_eq-Decides a b).0 (not-false (bytes_eq a b) h)

pub other_bytes : {Q : Type 0} (a b : List ℕ) → not (bytes_eq a b) ≡ true → a ≡ b → Q
other_bytes a b h is = absurd (both_ways (bytes_eq a b) (not-true (bytes_eq a b) h) ((bytes_eq-Decides a b).1 is))

-- the pieces of a text that is a head, a middle and a tail, by their places
pub head-piece : (head m tail bytes front : List ℕ) → bytes ≡ head ++ (m ++ tail) → front ≡ take (length head) bytes → front ≡ head
head-piece head m tail bytes front is here = rw (here, is) (take-append_seam head (m ++ tail))

pub tail-piece : (head m tail bytes rest back : List ℕ) → bytes ≡ head ++ (m ++ tail) → rest ≡ drop (length head) bytes
    → back ≡ drop (length rest - length tail) rest → back ≡ tail
tail-piece head m tail bytes rest back is one two =
    let all : rest ≡ m ++ tail = rw (one, is) (drop-append_seam head (m ++ tail)) in
    let n : length (m ++ tail) - length tail ≡ length m = simp length-append (omega arith) in
    rw (two, all, n) (drop-append_seam m tail)

pub too-short : (head m tail bytes : List ℕ) → bytes ≡ head ++ (m ++ tail) → (length bytes < length head) ⊎ (length bytes - length head < length tail) → ⊥
too-short head m tail bytes is short =
    let n : length bytes ≡ length head + (length m + length tail) = rw is (simp length-append) in
    elim short [ inl a ↦ omega arith | inr b ↦ omega arith ]
