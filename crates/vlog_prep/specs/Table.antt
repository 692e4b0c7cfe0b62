-- What the table of macros has. No public contract cites it.
use Rattle.std.specs.Prelude.{ℕ, List, Option, option_map, bytes_eq}
use Rattle.std.specs.HashMap.{get_by}
use Rattle.vlog_prep.specs.declared.piece.Piece.{Piece}
use Rattle.vlog_prep.specs.declared.macros.Macros.{Macros}

abbrev pub found : Macros → List ℕ → Option (List Piece)
found m q = option_map (λ r. r.now) (get_by (λ k. bytes_eq q k.now) m.table)
