-- Tables of flat bits as valuations.
use Rattle.std.specs.Prelude.{Bool, false, List, slice_index_or}
use Rattle.flat_design.specs.Bits.{Values}

-- the valuation of a table: false past its end
abbrev pub in_table : List Bool → Values
in_table bits i = slice_index_or bits i false
