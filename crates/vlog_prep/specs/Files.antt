-- What reading the files gives, step by step. No public contract cites it.
use Rattle.std.specs.Prelude.{◌≡◌, List, [], Result, Ok, Err}
use Rattle.vlog_tree.specs.declared.token.VToken.{VToken}
use Rattle.vlog_tree.specs.declared.fault.VlogCode.TheVariants.{VlogByte, VlogSize}
use Rattle.vlog_tree.specs.declared.fault.VlogFault.{VlogFault}
use Rattle.vlog_tree.specs.declared.fault.VlogFault.TheVariants.{NoMemory, At}
use Rattle.vlog_prep.specs.declared.piece.Piece.{Piece}
use Rattle.vlog_prep.specs.Reading.{State, finished, prepared}
use Rattle.vlog_prep.specs.Prepared.{Files, IsFirstLong, IsBadAt}

abbrev pub IsLong : Files → VlogFault → Type 0
IsLong files NoMemory = ⊥
IsLong files (At VlogSize place names path) = IsFirstLong files place × (names ≡ []) × (path ≡ [])
IsLong files (At _ place names path) = ⊥

abbrev pub IsBadFault : Files → VlogFault → Type 0
IsBadFault files NoMemory = Unit {0}
IsBadFault files (At VlogByte place names path) = IsBadAt files place × (names ≡ []) × (path ≡ [])
IsBadFault files (At _ place names path) = ⊥

-- The meaning of all pieces.
abbrev pub Means : List Piece → Result (List VToken) VlogFault → Type 0
Means pieces (Ok tokens) = prepared pieces ≡ Ok tokens
Means pieces (Err NoMemory) = Unit {0}
Means pieces (Err (At code place names path)) = prepared pieces ≡ Err (At code place names path)

-- The answer at the end of the pieces.
abbrev pub Ends : State → Result (List VToken) VlogFault → Type 0
Ends s (Ok tokens) = finished (Ok s) ≡ Ok tokens
Ends s (Err NoMemory) = Unit {0}
Ends s (Err (At code place names path)) = finished (Ok s) ≡ Err (At code place names path)
