-- What the gates of counters and interrupt fields compute, bit by bit. (The steps themselves are stated by numbers; these
-- serve within the crate.)
use Rattle.std.specs.Prelude.{Bool, not, ◌&&◌, ◌||◌, if◌then◌else◌, List, map}
use Rattle.bit_base.specs.Operators.{and_of, or_of}

-- the bits, all true where the count stops above, and all false where it stops below
abbrev pub held_bits : Bool → Bool → List Bool → List Bool
held_bits above below bits = map (λ x. x && not below) (map (λ x. x || above) bits)

-- what an interrupt field takes
abbrev pub taken_bits : Bool → Bool → List Bool → List Bool → List Bool
taken_bits sticky active value payload = if sticky then (if active then payload else value) else or_of value payload

-- what reaches the interrupt of the register
abbrev pub cut_bits : Bool → List Bool → List Bool → List Bool
cut_bits high value filter = and_of value (if high then filter else map not filter)
