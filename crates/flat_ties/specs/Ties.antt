-- Plain port connections: a port is the whole of a net of its width (IEEE 1364-2005, 12.3.3 and 12.3.9.1).
use Rattle.std.specs.Prelude.{ℕ, List, [], ◌∷◌, Option, Some, None, ◌==◌, slice_index_or, if◌then◌else◌}
use Rattle.flat_design.specs.declared.expr.FlatExpr.{FlatExpr}
use Rattle.flat_design.specs.declared.stmt.FlatLeft.{FlatLeft}
use Rattle.flat_design.specs.declared.item.FlatItem.{FlatItem}
use Rattle.flat_design.specs.declared.item.FlatItem.TheVariants as I
use Rattle.flat_ties.specs.declared.tie.Tie.{Tie}
use Rattle.flat_ties.specs.Shapes.{whole_net}

-- the net that a left side is the whole of
abbrev pub part_net : ℕ → Option FlatExpr → Option ℕ
part_net n None = Some n
part_net n (Some index) = None

abbrev pub left_net : List FlatLeft → Option ℕ
left_net [] = None
left_net (l ∷ []) = part_net l.net l.index
left_net (l ∷ m ∷ left) = None

abbrev pub tie_by : Option ℕ → Option ℕ → Option Tie
tie_by None from = None
tie_by (Some to) None = None
tie_by (Some to) (Some from) = Some (record { to = to; from = from })

-- what an item ties, if it is a plain port connection; a port of another width has a `Resize` about the net
abbrev pub tie_of : FlatItem → Option Tie
tie_of (I.Assign place targets left val connection) = if connection then tie_by (left_net left) (whole_net val) else None
tie_of (I.Comb place targets body) = None
tie_of (I.Clocked place targets events body) = None

-- the net to which a tie holds a net, if it is about that net; else what else ties it
abbrev pub tied_by : Option Tie → ℕ → Option ℕ → Option ℕ
tied_by None m other = other
tied_by (Some t) m other = if m == t.to then Some t.from else other

-- the net to which a net is tied: by the first of the plain connections that drive it
abbrev pub tied : List FlatItem → ℕ → Option ℕ
tied [] m = None
tied (x ∷ items) m = tied_by (tie_of x) m (tied items m)

-- the table has no net for a number past its end
abbrev pub net_in : List (Option ℕ) → ℕ → Option ℕ
net_in table m = slice_index_or table m None
