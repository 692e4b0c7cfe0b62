-- The counts of a pass are those of the fronts of the list.
use Rattle.std.proofs.Common.{◌≡◌, ℕ, ◌+◌, ◌<◌, ◌≤◌, ◌^◌, inl, inr, nat_lt, nat_le, Bool, true, false, cond, ◌&&◌, ◌||◌, not, [], ◌∷◌, ◌++◌, length, take, drop, get_or, fold, refl, sym, ◌∙◌, ap, subst, append_assoc, append-nil, length-append, arith, if◌then◌else◌}
use Rattle.std.specs.Prelude.{count_by}
use Rattle.std.specs.List.{list_any}
use Rattle.std.proofs.lemmas.List.Folds.{list_any-append}
use Rattle.std.proofs.lemmas.List.{length-take-le}
use Rattle.std.proofs.lemmas.Bool.Decides.{nat_tests}
use Rattle.vlog_tree.specs.declared.token.VToken.{VToken}
use Rattle.vlog_tree.specs.Terminals.{Tokens}
use Rattle.vlog_parse.specs.declared.depth.Counts.{Counts}
use Rattle.vlog_parse.specs.Depth.{since_from, since, counted, open_with, bracket_with, open_after, brackets_after, is_module, is_semi, is_else, begins_process, since_module, is_in_header, ends_part, unended, elses, IsWithin, IsOver, IsShallow, IsFirstDeep}
use Rattle.vlog_parse.specs.Counts.{IsSmall, counts_after, counts_with, is_over}
use Rattle.vlog_parse.proofs.Fronts.{split_at, take_one, each_front, each_front_of}

fold_one : (f : ℕ → VToken → ℕ) (n : ℕ) (ts : Tokens) (t : VToken) → fold f n (ts ++ t ∷ []) ≡ f (fold f n ts) t
fold_one f n [] t = refl
fold_one f n (x ∷ ts) t = fold_one f (f n x) ts t

-- the tokens since the last of a sort, with one more
since_from_one : (test : Tokens → VToken → Bool) (before found ts : Tokens) (t : VToken)
    → since_from test before found (ts ++ t ∷ []) ≡ (if test (before ++ ts) t then [] else since_from test before found ts ++ t ∷ [])
unfolding since_from
since_from_one test before found [] t = rw append-nil refl
since_from_one test before found (x ∷ ts) t =
    since_from_one test (before ++ x ∷ []) (if test before x then [] else found ++ x ∷ []) ts t
    ∙ ap (λ us. if test us t then [] else since_from test (before ++ x ∷ []) (if test before x then [] else found ++ x ∷ []) ts ++ t ∷ []) (append_assoc before (x ∷ []) ts)

since_one : (test : Tokens → VToken → Bool) (ts : Tokens) (t : VToken) → since test (ts ++ t ∷ []) ≡ (if test ts t then [] else since test ts ++ t ∷ [])
since_one test ts t = since_from_one test [] [] ts t

-- ---- each count, with one token more

brackets_if : (is_new : Bool) (xs : Tokens) (t : VToken) → brackets_after (if is_new then [] else xs ++ t ∷ []) ≡ (if is_new then 0 else bracket_with (brackets_after xs) t)
brackets_if true xs t = refl
brackets_if false xs t = fold_one bracket_with 0 xs t

any_one_more : (p : VToken → Bool) (xs : Tokens) (t : VToken) → list_any p (xs ++ t ∷ []) ≡ (list_any p xs || p t)
any_one_more p xs t = list_any-append p xs (t ∷ []) ∙ ap (λ b. list_any p xs || b) (or_false (p t))
  where
    or_false : (b : Bool) → (b || false) ≡ b
    or_false true = refl
    or_false false = refl

header_cases : (is_new some semi ends : Bool) → ((some || is_new) && not (if is_new then false else (semi || ends))) ≡ (is_new || ((some && not semi) && not ends))
header_cases true true semi ends = refl
header_cases true false semi ends = refl
header_cases false true true ends = refl
header_cases false true false ends = refl
header_cases false false semi ends = refl

any_if : (p : VToken → Bool) (is_new : Bool) (xs : Tokens) (t : VToken) → list_any p (if is_new then [] else xs ++ t ∷ []) ≡ (if is_new then false else (list_any p xs || p t))
any_if p true xs t = refl
any_if p false xs t = any_one_more p xs t

header_one : (ts : Tokens) (t : VToken) → is_in_header (ts ++ t ∷ []) ≡ (is_module t || (is_in_header ts && not (is_semi t)))
header_one ts t =
    rw (any_one_more is_module ts t, since_one (λ _. is_module) ts t, any_if is_semi (is_module t) (since_module ts) t)
    (header_cases (is_module t) (list_any is_module ts) (list_any is_semi (since_module ts)) (is_semi t))

unended_if : (is_new : Bool) (xs : Tokens) (t : VToken) → length (if is_new then [] else xs ++ t ∷ []) ≡ (if is_new then 0 else length xs + 1)
unended_if true xs t = refl
unended_if false xs t = length-append xs (t ∷ [])

count_one : (p : VToken → Bool) (xs : Tokens) (t : VToken) → count_by p (xs ++ t ∷ []) ≡ (if p t then count_by p xs + 1 else count_by p xs)
count_one p xs t = fold_one (λ n x. n + cond (p x) 1 0) 0 xs t ∙ plus (p t)
  where
    plus : (b : Bool) → count_by p xs + cond b 1 0 ≡ (if b then count_by p xs + 1 else count_by p xs)
    plus true = refl
    plus false = omega arith

elses_if : (is_new : Bool) (xs : Tokens) (t : VToken) → count_by is_else (if is_new then [] else xs ++ t ∷ []) ≡ (if is_new then 0 else if is_else t then count_by is_else xs + 1 else count_by is_else xs)
elses_if true xs t = refl
elses_if false xs t = count_one is_else xs t

pub counts_one : (ts : Tokens) (t : VToken) → counts_after (ts ++ t ∷ []) ≡ counts_with (counts_after ts) t
unfolding counts_with
counts_one ts t =
    rw (
      fold_one open_with 0 ts t,
      header_one ts t,
      since_one (λ _. is_module) ts t,
      brackets_if (is_module t) (since_module ts) t,
      since_one ends_part ts t,
      unended_if (ends_part ts t) (since ends_part ts) t,
      since_one (λ _. begins_process) ts t,
      elses_if (begins_process t) (since (λ _. begins_process) ts) t,
    ) refl

-- ---- the brackets are few enough to count

counted_few : (is_opening is_closing : Bool) (n : ℕ) → counted is_opening is_closing n ≤ n + 1
counted_few true is_closing n = omega arith
counted_few false true n = omega arith
counted_few false false n = omega arith

brackets_few : (n : ℕ) (ts : Tokens) → fold bracket_with n ts ≤ n + length ts
unfolding bracket_with
brackets_few n [] = omega arith
brackets_few n (t ∷ ts) =
    let rest : fold bracket_with (bracket_with n t) ts ≤ bracket_with n t + length ts = brackets_few (bracket_with n t) ts in
    let here : bracket_with n t ≤ n + 1 = counted_few _ _ n in
    omega arith

since_few : (test : Tokens → VToken → Bool) (before found ts : Tokens) → length (since_from test before found ts) ≤ length found + length ts
unfolding since_from
since_few test before found [] = omega arith
since_few test before found (t ∷ ts) =
    let rest : length (since_from test (before ++ t ∷ []) (if test before t then [] else found ++ t ∷ []) ts) ≤ length (if test before t then [] else found ++ t ∷ []) + length ts
    = since_few test (before ++ t ∷ []) (if test before t then [] else found ++ t ∷ []) ts in
    let here : length (if test before t then [] else found ++ t ∷ []) ≤ length found + 1 = kept (test before t) in
    omega arith
  where
    kept : (b : Bool) → length (if b then [] else found ++ t ∷ []) ≤ length found + 1
    kept true = omega arith
    kept false = rw (length-append found (t ∷ [])) (omega arith)

pub small_after : (ts : Tokens) (i : ℕ) (now : Counts) → now ≡ counts_after (take i ts) → IsWithin (take i ts) → i < length ts → length ts < 2 ^ 64 → IsSmall now
small_after ts i now e within below most =
    let cut : length (take i ts) ≡ i = length-take-le i ts (omega arith) in
    let few : brackets_after (since_module (take i ts)) ≤ 0 + length (since_module (take i ts)) = brackets_few 0 (since_module (take i ts)) in
    let fewer : length (since_module (take i ts)) ≤ 0 + length (take i ts) = since_few (λ _. is_module) [] [] (take i ts) in
    rw e (record { nested_is = within.open_is; brackets_are = omega arith; unended_is = within.unended_is; elses_are = within.elses_are })

-- ---- within the limits, or not

pub within_of : (front : Tokens) (now : Counts) → now ≡ counts_after front → is_over now ≡ false → IsWithin front
within_of front now e h =
    let at : is_over (counts_after front) ≡ false = subst (λ c. is_over c ≡ false) e h in
    record { open_is = grind (arith, nat_tests); unended_is = grind (arith, nat_tests); elses_are = grind (arith, nat_tests) }

pub over_of : (front : Tokens) (now : Counts) → now ≡ counts_after front → is_over now ≡ true → IsOver front
over_of front now e h =
    let at : is_over (counts_after front) ≡ true = subst (λ c. is_over c ≡ true) e h in
    cases (nat_lt 64 (open_after front)) (nat_lt 2048 (unended front)) (nat_lt 1024 (elses front)) at refl refl refl
  where
    cases : (a b c : Bool) → (a || b || c) ≡ true → nat_lt 64 (open_after front) ≡ a → nat_lt 2048 (unended front) ≡ b → nat_lt 1024 (elses front) ≡ c → IsOver front
    cases true b c h x y z = inl (grind (arith, nat_tests))
    cases false true c h x y z = inr (inl (grind (arith, nat_tests)))
    cases false false true h x y z = inr (inr (grind (arith, nat_tests)))
    cases false false false h x y z = absurd (cc)

-- one front more is within the limits
pub within_more : (ts : Tokens) (i : ℕ) (now : Counts) → now ≡ counts_after (take (i + 1) ts) → is_over now ≡ false → ((k : ℕ) → k ≤ i → IsWithin (take k ts)) → (k : ℕ) → k ≤ i + 1 → IsWithin (take k ts)
within_more ts i now e h below k le = at_most (nat_le k i) refl
  where
    at_most : (less : Bool) → nat_le k i ≡ less → IsWithin (take k ts)
    at_most true x = below k (grind (arith, nat_tests))
    at_most false x = let same : k ≡ i + 1 = grind (arith, nat_tests) in subst (λ n. IsWithin (take n ts)) (sym same) (within_of (take (i + 1) ts) now e h)

pub next_counts : (ts : Tokens) (i : ℕ) (t : VToken) (before now : Counts) → i < length ts → t ≡ get_or ts i t → before ≡ counts_after (take i ts) → now ≡ counts_with before t → now ≡ counts_after (take (i + 1) ts)
next_counts ts i t before now below e was is = rw (take_one ts i t below e, is, was) (sym (counts_one (take i ts) t))

pub none_taken : (ts : Tokens) (k : ℕ) → k ≤ 0 → IsWithin (take k ts)
unfolding since_from
none_taken ts k le = let e : k ≡ 0 = omega arith in subst (λ n. IsWithin (take n ts)) (sym e) (record { open_is = omega arith; unended_is = omega arith; elses_are = omega arith })

pub nothing_counted : record { nested = 0; brackets = 0; in_header = false; unended = 0; elses = 0 } ≡ counts_after []
unfolding since_from
nothing_counted = refl

pub found_deep : (ts : Tokens) (i : ℕ) (t : VToken) (before now : Counts) → i < length ts → t ≡ get_or ts i t → before ≡ counts_after (take i ts) → ((k : ℕ) → k ≤ i → IsWithin (take k ts)) → now ≡ counts_with before t → is_over now ≡ true
    → IsFirstDeep ts t.place
found_deep ts i t before now below e was within is over = record {
  front = take i ts;
  token = t;
  more = drop (i + 1) ts;
  split = split_at ts i t below e;
  here = refl;
  over = subst IsOver (take_one ts i t below e) (over_of (take (i + 1) ts) now (next_counts ts i t before now below e was is) over);
  shallow = each_front_of IsWithin ts i below within;
}

pub all_shallow : (ts : Tokens) (n : ℕ) → length ts ≤ n → ((k : ℕ) → k ≤ n → IsWithin (take k ts)) → IsShallow ts
all_shallow ts n long within = each_front IsWithin ts n long within
