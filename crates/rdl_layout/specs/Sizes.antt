-- Numbers of bytes. An address space ends at 2^32: what lies beyond counts as 2^32 + 1, however far it is.
use Rattle.std.specs.Prelude.{ℕ, zero, suc, ◌+◌, ◌-◌, ◌*◌, ◌/◌, ◌==◌, min, nat_le, if◌then◌else◌, Option, Some, None}
use Rattle.rdl_tree.specs.declared.tree.RdlMarked.{RdlMarked}
use Rattle.rdl_text.specs.declared.instance.Body.{Body}
use Rattle.rdl_text.specs.declared.instance.Body.TheVariants as body

abbrev pub beyond : ℕ
beyond = 4294967297

abbrev pub capped : ℕ → ℕ
capped n = min n 4294967297

-- the least multiple that isn't below a number
abbrev pub round_up : ℕ → ℕ → ℕ
round_up n m = if m == 0 then n else (n + (m - 1)) / m * m

-- the first of p, 2p, 4p, .. that isn't below a number, looked for so often
unfoldable pub doubled : ℕ → ℕ → ℕ → ℕ
doubled zero p n = p
doubled (suc left) p n = if nat_le n p then p else doubled left (p + p) n

-- a size rounded up to a power of two
abbrev pub power_from : ℕ → ℕ
power_from n = capped (doubled 33 1 n)

-- clause 5.1.2.2: an instance without an address stands at a multiple of its `%=`; else a register at one of its bytes, and
-- anything else at one of its size rounded up to a power of two
abbrev pub align_of : Body → Option RdlMarked → ℕ → ℕ
align_of kind (Some a) size = capped a.number.value
align_of body.Reg None size = size
align_of _ None size = power_from size

-- it stands there behind the end of the instance before
abbrev pub start_of : Option RdlMarked → ℕ → ℕ → ℕ
start_of (Some a) next m = capped a.number.value
start_of None next m = capped (round_up next m)

-- elements of an array stand as far apart as `+=` says, else one behind the other
abbrev pub stride_of : Option RdlMarked → ℕ → ℕ
stride_of (Some a) size = capped a.number.value
stride_of None size = size

-- where an element ends, or begins where it has no size
abbrev pub reach : ℕ → ℕ → ℕ → ℕ → ℕ
reach start stride k size = capped (start + stride * k + size)
