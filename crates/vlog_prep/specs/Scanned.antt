-- What reading one file does. No public contract cites it.
use Rattle.std.specs.Prelude.{◌≡◌, ℕ, Bool, true, false, List, [], ◌∷◌, ◌++◌}
use Rattle.bit_base.specs.declared.place.Place.{Place}
use Rattle.vlog_tree.specs.declared.fault.VlogCode.TheVariants.{VlogByte}
use Rattle.vlog_tree.specs.declared.fault.VlogFault.{VlogFault}
use Rattle.vlog_tree.specs.declared.fault.VlogFault.TheVariants.{NoMemory, At}
use Rattle.vlog_prep.specs.declared.lexeme.Lexeme.{Lexeme}
use Rattle.vlog_prep.specs.declared.lexeme.Lexeme.TheVariants.{Continued}
use Rattle.vlog_prep.specs.declared.directive.Line.{Line}
use Rattle.vlog_prep.specs.declared.directive.Line.TheVariants.{Defined}
use Rattle.vlog_prep.specs.declared.piece.Piece.{Piece}
use Rattle.vlog_prep.specs.declared.piece.Piece.TheVariants.{LineEnd}
use Rattle.vlog_prep.specs.Places.{place_after}
use Rattle.vlog_prep.specs.Pieces.{Reads, IsBad}

abbrev pub strays : Line → Lexeme → Bool
strays Defined lexeme = false
strays line Continued = true
strays line lexeme = false

-- The pieces of a file and the end of its last line stand behind those that were there.
pub record Appends (file : ℕ) (bytes : List ℕ) (old new : List Piece) : Type 0 where
  pub more : List Piece
  pub read : Reads file bytes more bytes []
  pub same : new ≡ old ++ (more ++ LineEnd ∷ [])

-- At this place of the file nothing can be read.
pub record IsBadPlace (file : ℕ) (bytes : List ℕ) (place : Place) : Type 0 where
  pub found : List Piece
  pub front : List ℕ
  pub rest : List ℕ
  pub read : Reads file bytes found front rest
  pub bad : IsBad found rest
  pub here : place ≡ place_after file front

abbrev pub IsBadIn : ℕ → List ℕ → VlogFault → Type 0
IsBadIn file bytes NoMemory = Unit {0}
IsBadIn file bytes (At VlogByte place names path) = IsBadPlace file bytes place × (names ≡ []) × (path ≡ [])
IsBadIn file bytes (At _ place names path) = ⊥
