-- Registers (SystemRDL 2.0, clause 10): the effective `regwidth`, 32 without one, and `accesswidth`, the lesser of that and 32
-- without one. A register narrower than an access is refused.
use Rattle.std.specs.Prelude.{ℕ, Bool, min, nat_lt, Option, Some, None}
use Rattle.rdl_text.specs.declared.property.Property.TheVariants as p
use Rattle.rdl_values.specs.OneFrame.{Trail}
use Rattle.rdl_values.specs.Values.{number_at}

abbrev pub number_or : ℕ → Option ℕ → ℕ
number_or other None = other
number_or other (Some n) = n

abbrev pub regwidth_at : Trail → ℕ
regwidth_at t = number_or 32 (number_at t p.Regwidth)

abbrev pub accesswidth_at : Trail → ℕ
accesswidth_at t = number_or (min (regwidth_at t) 32) (number_at t p.Accesswidth)

abbrev pub is_narrow : Trail → Bool
is_narrow t = nat_lt (regwidth_at t) (accesswidth_at t)
