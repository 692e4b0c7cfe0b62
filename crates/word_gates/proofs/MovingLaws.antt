-- Words moved by places.
use Rattle.std.proofs.Common.{◌≡◌, ℕ, zero, suc, ◌+◌, ◌-◌, ◌*◌, ◌^◌, ◌<◌, ◌≤◌, Bool, true, false, not, ◌&&◌, ◌||◌, cond, min, List, [], ◌∷◌, ◌++◌, length, map, take, drop, replicate, get_or, refl, sym, ap, ◌∙◌, arith, subst, inl, inr, append_assoc, length-append}
use Rattle.std.proofs.lemmas.List.{length-replicate, length-take, length-drop, drop-drop, drop-replicate, drop_all, take_all, append-nil, replicate-append-replicate, take-append-drop, take_more}
use Rattle.std.proofs.lemmas.Bool.{cases_lt}
use Rattle.std.proofs.Math.Nat.{pow-succ'}
use Rattle.bit_base.specs.Numbers.{number_of, sign_of}
use Rattle.bit_base.specs.Operators.{shifted_right, is_any}
use Rattle.bit_base.proofs.Numbers.{number_of-append, number_of-push}
use Rattle.word_gates.specs.Moving.{moved_by}

drop_over : (m : ℕ) (xs ys : List Bool) → drop m (xs ++ ys) ≡ drop m xs ++ drop (m - length xs) ys
drop_over zero [] ys = refl
drop_over zero (x ∷ xs) ys = let e : 0 - length (x ∷ xs) ≡ 0 = omega arith in ap (λ n. (x ∷ xs) ++ drop n ys) (sym e)
drop_over (suc m) [] ys = let e : suc m - 0 ≡ suc m = omega arith in ap (λ n. drop n ys) (sym e)
drop_over (suc m) (x ∷ xs) ys = let e : suc m - suc (length xs) ≡ m - length xs = omega arith in drop_over m xs ys ∙ ap (λ n. drop m xs ++ drop n ys) (sym e)

take_over : (m : ℕ) (xs ys : List Bool) → take m (xs ++ ys) ≡ take m xs ++ take (m - length xs) ys
take_over zero [] ys = refl
take_over zero (x ∷ xs) ys = let e : 0 - length (x ∷ xs) ≡ 0 = omega arith in ap (λ n. take n ys) (sym e)
take_over (suc m) [] ys = let e : suc m - 0 ≡ suc m = omega arith in ap (λ n. take n ys) (sym e)
take_over (suc m) (x ∷ xs) ys = let e : suc m - suc (length xs) ≡ m - length xs = omega arith in ap (λ l. x ∷ l) (take_over m xs ys ∙ ap (λ n. take m xs ++ take n ys) (sym e))

take_of_take : (m n : ℕ) (xs : List Bool) → take m (take n xs) ≡ take (min m n) xs
take_of_take zero n xs = let e : min 0 n ≡ 0 = omega arith in ap (λ k. take k xs) (sym e)
take_of_take (suc m) zero xs = let e : min (suc m) 0 ≡ 0 = omega arith in ap (λ k. take k xs) (sym e)
take_of_take (suc m) (suc n) [] = let e : min (suc m) (suc n) ≡ suc (min m n) = omega arith in ap (λ k. take k []) (sym e)
take_of_take (suc m) (suc n) (x ∷ xs) = let e : min (suc m) (suc n) ≡ suc (min m n) = omega arith in ap (λ l. x ∷ l) (take_of_take m n xs) ∙ ap (λ k. take k (x ∷ xs)) (sym e)

take_of_same : (m n : ℕ) (x : Bool) → take m (replicate n x) ≡ replicate (min m n) x
take_of_same zero n x = let e : min 0 n ≡ 0 = omega arith in ap (λ k. replicate k x) (sym e)
take_of_same (suc m) zero x = let e : min (suc m) 0 ≡ 0 = omega arith in ap (λ k. replicate k x) (sym e)
take_of_same (suc m) (suc n) x = let e : min (suc m) (suc n) ≡ suc (min m n) = omega arith in ap (λ l. x ∷ l) (take_of_same m n x) ∙ ap (λ k. replicate k x) (sym e)

same_twice : (m n k : ℕ) (x : Bool) (ys : List Bool) → m + n ≡ k → replicate m x ++ (replicate n x ++ ys) ≡ replicate k x ++ ys
same_twice m n k x ys h = rw (← append_assoc, replicate-append-replicate m n x, h) refl

moved_length_left : (n : ℕ) (f : Bool) (a : List Bool) → length (replicate (min n (length a)) f ++ take (length a - n) a) ≡ length a
moved_length_left n f a = rw (length-append, length-replicate, length-take) (omega arith)

moved_length_right : (n : ℕ) (f : Bool) (a : List Bool) → length (drop n a ++ replicate (min n (length a)) f) ≡ length a
moved_length_right n f a = rw (length-append, length-replicate, length-drop) (omega arith)

pub moved_length : (left : Bool) (n : ℕ) (f : Bool) (a : List Bool) → length (moved_by left n f a) ≡ length a
moved_length true n f a = moved_length_left n f a
moved_length false n f a = moved_length_right n f a

-- moved twice is moved by the sum
moved_left_twice : (m n w : ℕ) (f : Bool) (a : List Bool) → length a ≡ w
    → replicate (min m w) f ++ take (w - m) (replicate (min n w) f ++ take (w - n) a) ≡ replicate (min (n + m) w) f ++ take (w - (n + m)) a
moved_left_twice m n w f a h =
    let inner : take (w - m) (replicate (min n w) f ++ take (w - n) a) ≡ replicate (min (w - m) (min n w)) f ++ take (w - (n + m)) a =
    let places : min (w - m - min n w) (w - n) ≡ w - (n + m) = omega arith in
    rw (take_over (w - m) (replicate (min n w) f) (take (w - n) a), length-replicate (min n w) f, take_of_same (w - m) (min n w) f, take_of_take (w - m - min n w) (w - n) a, places) refl in
    rw inner (same_twice (min m w) (min (w - m) (min n w)) (min (n + m) w) f (take (w - (n + m)) a) (omega arith))

moved_right_twice : (m n w : ℕ) (f : Bool) (a : List Bool) → length a ≡ w
    → drop m (drop n a ++ replicate (min n w) f) ++ replicate (min m w) f ≡ drop (n + m) a ++ replicate (min (n + m) w) f
moved_right_twice m n w f a h =
    let total : (min n w - (m - (w - n))) + min m w ≡ min (n + m) w = omega arith in
    rw (
      drop_over m (drop n a) (replicate (min n w) f),
      drop-drop m n a,
      length-drop n a,
      h,
      drop-replicate (m - (w - n)) (min n w) f,
      append_assoc,
      replicate-append-replicate (min n w - (m - (w - n))) (min m w) f,
      total,
    ) refl

pub moved_twice : (left : Bool) (m n : ℕ) (f : Bool) (a : List Bool) → moved_by left m f (moved_by left n f a) ≡ moved_by left (n + m) f a
moved_twice true m n f a = rw (moved_length_left n f a) (moved_left_twice m n (length a) f a refl)
moved_twice false m n f a = rw (moved_length_right n f a) (moved_right_twice m n (length a) f a refl)

pub moved_none : (left : Bool) (f : Bool) (a : List Bool) → moved_by left 0 f a ≡ a
moved_none true f a =
    let none : min 0 (length a) ≡ 0 = omega arith in
    let all : length a - 0 ≡ length a = omega arith in
    rw (none, all) (take_all (length a) a (omega arith))
moved_none false f a = let none : min 0 (length a) ≡ 0 = omega arith in rw none (append-nil a)

-- a word moved by at least its width is all fill
pub moved_out : (left : Bool) (n : ℕ) (f : Bool) (a : List Bool) → length a ≤ n → moved_by left n f a ≡ replicate (length a) f
moved_out true n f a h =
    let whole : min n (length a) ≡ length a = omega arith in
    let none : length a - n ≡ 0 = omega arith in
    rw (whole, none) (append-nil (replicate (length a) f))
moved_out false n f a h =
    let whole : min n (length a) ≡ length a = omega arith in
    rw (whole, drop_all n a h) refl

-- a word that is all fill stays it
pub moved_same : (left : Bool) (n w : ℕ) (f : Bool) → moved_by left n f (replicate w f) ≡ replicate w f
moved_same true n w f =
    let total : min n w + min (w - n) w ≡ w = omega arith in
    rw (length-replicate w f, take_of_same (w - n) w f, replicate-append-replicate (min n w) (min (w - n) w) f, total) refl
moved_same false n w f =
    let total : (w - n) + min n w ≡ w = omega arith in
    rw (length-replicate w f, drop-replicate n w f, replicate-append-replicate (w - n) (min n w) f, total) refl

moved_stage : (left : Bool) (f : Bool) (a : List Bool) (b : Bool) (p n : ℕ) → cond b (moved_by left p f (moved_by left n f a)) (moved_by left n f a) ≡ moved_by left (n + cond b p 0) f a
moved_stage left f a true p n = moved_twice left p n f a
moved_stage left f a false p n = let e : n ≡ n + 0 = omega arith in ap (λ m. moved_by left m f a) e

-- one place of the amount more
pub barrel_more : (left : Bool) (f : Bool) (a amount : List Bool) (k : ℕ) → k < length amount
    → cond (get_or amount k false) (moved_by left (2 ^ k) f (moved_by left (number_of (take k amount)) f a)) (moved_by left (number_of (take k amount)) f a)
    ≡ moved_by left (number_of (take (k + 1) amount)) f a
barrel_more left f a amount k lt =
    let size : length (take k amount) ≡ k = rw length-take (omega arith) in
    let more : number_of (take (k + 1) amount) ≡ number_of (take k amount) + cond (get_or amount k false) (2 ^ k) 0 =
    ap number_of (take_more amount k false lt) ∙ (number_of-push (take k amount) (get_or amount k false) ∙ ap (λ n. number_of (take k amount) + cond (get_or amount k false) (2 ^ n) 0) size) in
    moved_stage left f a (get_or amount k false) (2 ^ k) (number_of (take k amount)) ∙ ap (λ n. moved_by left n f a) (sym more)

-- ## Amounts beyond the places that the stages read

number_without : (xs : List Bool) → is_any xs ≡ false → number_of xs ≡ 0
number_without [] h = refl
number_without (true ∷ xs) h = absurd (let e : ⊥ = cc in e)
number_without (false ∷ xs) h = omega (arith, number_without xs h)

number_with : (xs : List Bool) → is_any xs ≡ true → 1 ≤ number_of xs
number_with [] h = absurd (let e : ⊥ = cc in e)
number_with (true ∷ xs) h = omega arith
number_with (false ∷ xs) h = omega (arith, number_with xs h)

number_split : (n : ℕ) (b : List Bool) → number_of b ≡ number_of (take n b) + 2 ^ length (take n b) * number_of (drop n b)
number_split n b = ap number_of (sym (take-append-drop n b)) ∙ number_of-append (take n b) (drop n b)

near_only : (n : ℕ) (b : List Bool) → is_any (drop n b) ≡ false → number_of (take n b) ≡ number_of b
near_only n b h = let none : number_of (drop n b) ≡ 0 = number_without (drop n b) h in sym (number_split n b ∙ (rw none (let e : number_of (take n b) + 2 ^ length (take n b) * 0 ≡ number_of (take n b) = omega arith in e)))

-- an amount with a far bit set is at least 2^11
far_amount : (n : ℕ) (b : List Bool) → n ≡ min (length b) 11 → is_any (drop n b) ≡ true → (n ≡ 11) × (2048 ≤ number_of b)
far_amount n b low h = elim (cases_lt 11 (length b)) [
  | inl p ↦
      let eleven : n ≡ 11 = omega arith in
      let size : length (take n b) ≡ 11 = rw length-take (omega arith) in
      let power : 2 ^ length (take n b) ≡ 2048 = ap (λ k. 2 ^ k) size in
      let split : number_of b ≡ number_of (take n b) + 2048 * number_of (drop n b) = number_split n b ∙ ap (λ k. number_of (take n b) + k * number_of (drop n b)) power in
      (eleven, omega (arith, split, number_with (drop n b) h))
  | inr p ↦
      let past : drop n b ≡ [] = drop_all n b (omega arith) in
      absurd (let e : is_any [] ≡ true = subst (λ xs. is_any xs ≡ true) past h in let no : ⊥ = cc in no)
]

pub map_and_true : (a : List Bool) → map (λ x. x && true) a ≡ a
map_and_true [] = refl
map_and_true (true ∷ a) = ap (λ l. true ∷ l) (map_and_true a)
map_and_true (false ∷ a) = ap (λ l. false ∷ l) (map_and_true a)

pub map_and_false : (a : List Bool) → map (λ x. x && false) a ≡ replicate (length a) false
map_and_false [] = refl
map_and_false (true ∷ a) = ap (λ l. false ∷ l) (map_and_false a)
map_and_false (false ∷ a) = ap (λ l. false ∷ l) (map_and_false a)

map_or_false : (a : List Bool) → map (λ x. x || false) a ≡ a
map_or_false [] = refl
map_or_false (true ∷ a) = ap (λ l. true ∷ l) (map_or_false a)
map_or_false (false ∷ a) = ap (λ l. false ∷ l) (map_or_false a)

number_all : (a : List Bool) → number_of (map (λ x. x || true) a) + 1 ≡ 2 ^ length a
number_all [] = refl
number_all (true ∷ a) = rw (pow-succ' 2 (length a)) (omega (arith, number_all a))
number_all (false ∷ a) = rw (pow-succ' 2 (length a)) (omega (arith, number_all a))

masked_shift : (left far : Bool) (n : ℕ) (a b : List Bool) → n ≡ min (length b) 11 → length a ≤ 2048 → is_any (drop n b) ≡ far
    → moved_by left (number_of (take n b)) false (map (λ x. x && not far) a) ≡ moved_by left (number_of b) false a
masked_shift left true n a b low few h =
    let far : (n ≡ 11) × (2048 ≤ number_of b) = far_amount n b low h in
    rw (map_and_false a) (moved_same left (number_of (take n b)) (length a) false ∙ sym (moved_out left (number_of b) false a (omega (arith, far.1))))
masked_shift left false n a b low few h =
    rw (map_and_true a) (ap (λ k. moved_by left k false a) (near_only n b h))

-- a shift without sign, by the near places of the amount
pub shift_by_near : (left : Bool) (n : ℕ) (a b : List Bool) → n ≡ min (length b) 11 → length a ≤ 2048
    → moved_by left (number_of (take n b)) false (map (λ x. x && not (is_any (drop n b))) a) ≡ moved_by left (number_of b) false a
shift_by_near left n a b low few = masked_shift left (is_any (drop n b)) n a b low few refl

-- a word moved down by all but one place, or more, shows its sign alone
moved_to_sign : (n : ℕ) (a : List Bool) → 0 < length a → length a ≤ n + 1 → drop n a ++ replicate (min n (length a)) (sign_of a) ≡ replicate (length a) (sign_of a)
moved_to_sign n a some le = elim (cases_lt n (length a)) [
  | inl p ↦
      let last : n ≡ length a - 1 = omega arith in
      let one : drop n a ≡ sign_of a ∷ [] = drop_more n a p (omega arith) ∙ ap (λ k. get_or a k false ∷ []) last in
      let count : min n (length a) ≡ n = omega arith in
      let whole : suc n ≡ length a = omega arith in
      rw (one, count) (ap (λ k. replicate k (sign_of a)) whole)
  | inr p ↦ moved_out false n (sign_of a) a p
]
  where
    drop_more : (n : ℕ) (a : List Bool) → n < length a → length a ≤ n + 1 → drop n a ≡ get_or a n false ∷ []
    drop_more zero [] lt le = absurd (omega arith)
    drop_more zero (x ∷ []) lt le = refl
    drop_more zero (x ∷ y ∷ a) lt le = absurd (omega arith)
    drop_more (suc n) [] lt le = absurd (omega arith)
    drop_more (suc n) (x ∷ a) lt le = drop_more n a (omega arith) (omega arith)

forced_shift : (far : Bool) (n : ℕ) (a b : List Bool) → n ≡ min (length b) 11 → 0 < length a → length a ≤ 2048 → is_any (drop n b) ≡ far
    → moved_by false (number_of (map (λ x. x || far) (take n b))) (sign_of a) a ≡ moved_by false (number_of b) (sign_of a) a
forced_shift true n a b low some few h =
    let far : (n ≡ 11) × (2048 ≤ number_of b) = far_amount n b low h in
    let past : 11 ≤ length b = omega (arith, far.0) in
    let size : length (take n b) ≡ 11 = rw length-take (omega (arith, far.0)) in
    let power : 2 ^ length (take n b) ≡ 2048 = ap (λ k. 2 ^ k) size in
    let most : number_of (map (λ x. x || true) (take n b)) + 1 ≡ 2048 = number_all (take n b) ∙ power in
    moved_to_sign (number_of (map (λ x. x || true) (take n b))) a some (omega (arith, most)) ∙ sym (moved_to_sign (number_of b) a some (omega (arith, far.1)))
forced_shift false n a b low some few h = rw (map_or_false (take n b)) (ap (λ k. moved_by false k (sign_of a) a) (near_only n b h))

-- a shift with sign, by the near places of the amount, all set where a far one is
pub shift_by_forced : (n : ℕ) (a b : List Bool) → n ≡ min (length b) 11 → 0 < length a → length a ≤ 2048
    → moved_by false (number_of (map (λ x. x || is_any (drop n b)) (take n b))) (sign_of a) a ≡ shifted_right (number_of b) (sign_of a) a
shift_by_forced n a b low some few = forced_shift (is_any (drop n b)) n a b low some few refl

pub power_more : (k p : ℕ) → p ≡ 2 ^ k → p * 2 ≡ 2 ^ (k + 1)
power_more k p h =
    let one : k + 1 ≡ suc k = omega arith in
    let twice : 2 ^ suc k ≡ 2 * 2 ^ k = pow-succ' 2 k in
    (let e : p * 2 ≡ 2 * 2 ^ k = omega (arith, h) in e) ∙ (sym twice ∙ ap (λ n. 2 ^ n) (sym one))

-- ## Gates of shifts: of n places of amount, near are read one by one

pub shift_bound : (w n near beyond stages width : ℕ) → near ≡ min n 11 → beyond ≡ n - near → stages ≡ near → width ≡ w
    → (beyond + w * 1) + stages * (3 * width) ≤ 3 * w * min n 11 + n + w
shift_bound w n near beyond stages width h d t s =
    let product : stages * (3 * width) ≡ 3 * w * min n 11 = rw (t, s, h) (let e : min n 11 * (3 * w) ≡ 3 * w * min n 11 = omega arith in e) in
    omega (arith, product, d)

pub forced_bound : (w n near beyond stages width : ℕ) → near ≡ min n 11 → beyond ≡ n - near → stages ≡ near → width ≡ near
    → (beyond + stages * 1) + width * (3 * w) ≤ 3 * w * min n 11 + n + w
forced_bound w n near beyond stages width h d t s =
    let product : width * (3 * w) ≡ 3 * w * min n 11 = rw (s, h) (let e : min n 11 * (3 * w) ≡ 3 * w * min n 11 = omega arith in e) in
    omega (arith, product, d, t, h)
