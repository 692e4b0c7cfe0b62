-- Flat bits: the bits of all nets in one row, and where the places of a net lie among them (IEEE 1364-2005, 4.3 and 5.2.1).
use Rattle.std.specs.Prelude.{◌≡◌, ℕ, zero, suc, ◌+◌, ◌-◌, ◌^◌, Bool, true, false, ◌&&◌, nat_lt, nat_le, if◌then◌else◌, List, [], ◌∷◌, length, map, sum, slice_index_or}
use Rattle.bit_base.specs.Numbers.{number_of, sign_of}
use Rattle.flat_design.specs.declared.net.Net.{Net}
use Rattle.flat_design.specs.declared.net.NetKind.TheVariants.{Wire}

-- a set of flat bits, by their numbers
abbrev pub Set : Type 0
Set = ℕ → Bool

-- a valuation: what each flat bit is
abbrev pub Values : Type 0
Values = ℕ → Bool

-- two valuations have the same bits in a set
abbrev pub Agree : Set → Values → Values → Type 0
Agree set v w = (i : ℕ) → set i ≡ true → v i ≡ w i

-- how many of the flat bits below a number are in a set
abbrev pub count_below : ℕ → Set → ℕ
count_below zero set = 0
count_below (suc n) set = count_below n set + (if set n then 1 else 0)

-- ---- nets

-- the net of a number; one without bits where there is none
abbrev pub net_at : List Net → ℕ → Net
net_at nets n = slice_index_or nets n (record { path = []; width = 0; lsb = 0; first = 0; kind = Wire; output = false })

-- how many flat bits there are
abbrev pub bits_in : List Net → ℕ
bits_in nets = sum (map (λ n. n.width) nets)

-- the bits of a net
abbrev pub of_net : Net → Set
of_net net i = nat_le net.first i && nat_lt i (net.first + net.width)

-- ---- selects

-- where a select begins: with the offset (plus, minus) its bit k is bit plus + k - minus of the net
abbrev pub Offset : Type 0
Offset = ℕ × ℕ

-- by its index, read by the index's sign, in the numbering of the declaration
abbrev pub offset_of : Bool → List Bool → ℕ → Offset
offset_of signed index lsb = if signed && sign_of index then (number_of index, lsb + 2 ^ length index) else (number_of index, lsb)

-- bit k lies inside the net
abbrev pub lies_inside : Net → Offset → ℕ → Bool
lies_inside net o k = nat_le o.1 (o.0 + k) && nat_lt (o.0 + k - o.1) net.width

-- what bit k reads: false outside the net
abbrev pub bit_at : Values → Net → Offset → ℕ → Bool
bit_at v net o k = lies_inside net o k && v (net.first + (o.0 + k - o.1))

-- the flat bits of a select of so many bits
abbrev pub selected : Net → Offset → ℕ → Set
selected net o width i = of_net net i && (nat_le o.0 (i - net.first + o.1) && nat_lt (i - net.first + o.1 - o.0) width)

-- so many bits by their places, from one on
abbrev pub bits_from : (ℕ → Bool) → ℕ → ℕ → List Bool
bits_from f start zero = []
bits_from f start (suc count) = f start ∷ bits_from f (start + 1) count
