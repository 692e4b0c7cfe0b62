-- The description of the first form (SystemRDL 2.0: one addrmap with one register of one field of eight
-- bits, sw=rw and hw=r).
use Rattle.std.specs.Prelude.{ℕ, nat_lt, if◌then◌else◌, Option, Some, None, List, ◌++◌}
use Rattle.std.specs.Option.{option_and_then}
use Rattle.std.specs.Fmt.{decimal}
use Rattle.prove_top.specs.Numbers.{plain_value}
use Rattle.prove_top.specs.Texts.{middle_of}
use Rattle.prove_top.specs.declared.description.TheConstants.{DESCRIPTION_HEAD, DESCRIPTION_TAIL}

-- its text, for a reset value
abbrev pub description_text : ℕ → List ℕ
description_text reset = DESCRIPTION_HEAD.now ++ (decimal reset ++ DESCRIPTION_TAIL.now)

-- the reset value that a text of this form gives: a plain number below 256
abbrev pub small : Option ℕ → Option ℕ
small (Some value) = if nat_lt value 256 then Some value else None
small None = None

unfoldable pub reset_of : List ℕ → Option ℕ
reset_of bytes = option_and_then (λ number. small (plain_value number)) (middle_of DESCRIPTION_HEAD.now DESCRIPTION_TAIL.now bytes)
