-- Plain numbers, by the lemmas of std on decimal texts.
use Rattle.std.proofs.Common.{◌≡◌, ℕ, ◌^◌, ◌<◌, List, Some, None, ◌∙◌, ap}
use Rattle.std.proofs.lemmas.Bool.{cond-true, cond-false, false_from_ne_true, lt-ltb, ltb-true, and_from, and_parts}
use Rattle.std.proofs.lemmas.Slice.Eq.{bytes_eq-Decides}
use Rattle.std.proofs.lemmas.Fmt.{decimal_is_IsNumeral}
use Rattle.std.specs.Str.Parse.{digits_value}
use Rattle.std.specs.Fmt.{decimal}
use Rattle.prove_top.specs.Numbers.{plain_value}

pub plain_value-decimal : (n : ℕ) (bytes : List ℕ) → n < 2 ^ 64 → bytes ≡ decimal n → plain_value bytes ≡ Some n
unfolding plain_value
plain_value-decimal n bytes small is =
    let value : digits_value 10 bytes ≡ n = ap (digits_value 10) is ∙ (decimal_is_IsNumeral n small).1 in
    rw value
    (cond-true _ (Some n) None
    (and_from _ _ (lt-ltb n (2 ^ 64) small) ((bytes_eq-Decides bytes (decimal n)).1 is)))

pub plain_value-none : (bytes : List ℕ) → ((n : ℕ) → n < 2 ^ 64 → bytes ≡ decimal n → ⊥) → plain_value bytes ≡ None
unfolding plain_value
plain_value-none bytes none =
    cond-false _ (Some (digits_value 10 bytes)) None
    (false_from_ne_true _ (λ both.
    let parts = and_parts _ _ both in
    none (digits_value 10 bytes) (ltb-true _ _ parts.0) ((bytes_eq-Decides bytes (decimal (digits_value 10 bytes))).0 parts.1)))
