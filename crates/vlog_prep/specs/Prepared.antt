-- What preparing the files answers.
use Rattle.std.specs.Prelude.{◌≡◌, ◌≢◌, ◌≤◌, ◌<◌, ◌⊎◌, ◌-◌, ℕ, List, [], ◌∷◌, ◌++◌, length, get_or, Result, Ok, Err}
use Rattle.bit_base.specs.declared.place.Place.{Place}
use Rattle.vlog_tree.specs.declared.fault.VlogCode.{VlogCode}
use Rattle.vlog_tree.specs.declared.fault.VlogCode.TheVariants.{VlogByte, VlogDirective, VlogSize}
use Rattle.vlog_tree.specs.declared.fault.VlogFault.{VlogFault}
use Rattle.vlog_tree.specs.declared.fault.VlogFault.TheVariants.{NoMemory, At}
use Rattle.vlog_tree.specs.declared.token.VTokens.{VTokens}
use Rattle.vlog_prep.specs.declared.piece.Piece.{Piece}
use Rattle.vlog_prep.specs.Places.{place_after}
use Rattle.vlog_prep.specs.Pieces.{Reads, IsBad, AreRead}
use Rattle.vlog_prep.specs.Reading.{prepared}

-- The longest file that is read, in bytes (1 MiB).
abbrev pub most_bytes : ℕ
most_bytes = 1048576

abbrev pub Files : Type 0
Files = List (List ℕ)

-- No file is too long.
abbrev pub AreSmall : Files → Type 0
AreSmall files = (number : ℕ) → length (get_or files number []) ≤ most_bytes

-- The place is 0:0 of the first file that is too long.
pub record IsFirstLong (files : Files) (place : Place) : Type 0 where
  pub before : Files
  pub bytes : List ℕ
  pub more : Files
  pub split : files ≡ before ++ bytes ∷ more
  pub small : AreSmall before
  pub long : most_bytes < length bytes
  pub here : place ≡ record { file = length before; line = 0; column = 0 }

-- The place after the last byte of the last file; 1:1 of file 0 where there is none.
abbrev pub end_of : Files → Place
end_of files = place_after (length files - 1) (get_or files (length files - 1) [])

-- The tokens of files of which none is too long: what all their pieces mean.
pub record ArePrepared (files : Files) (tokens : VTokens) : Type 0 where
  pub small : AreSmall files
  pub pieces : List Piece
  pub read : AreRead files pieces
  pub meaning : prepared pieces ≡ Ok tokens.list
  pub same_end : tokens.end ≡ end_of files

-- At this place stands what begins no token, blank, comment, attribute or directive, or a comment or attribute that isn't closed; all before it is read.
pub record IsBadAt (files : Files) (place : Place) : Type 0 where
  pub small : AreSmall files
  pub before : Files
  pub bytes : List ℕ
  pub more : Files
  pub split : files ≡ before ++ bytes ∷ more
  pub pieces : List Piece
  pub read : AreRead before pieces
  pub found : List Piece
  pub front : List ℕ
  pub rest : List ℕ
  pub read_here : Reads (length before) bytes found front rest
  pub bad : IsBad found rest
  pub here : place ≡ place_after (length before) front

-- All pieces can be read, and their meaning is this refusal.
pub record AreRefused (files : Files) (code : VlogCode) (place : Place) : Type 0 where
  pub small : AreSmall files
  pub pieces : List Piece
  pub read : AreRead files pieces
  pub meaning : prepared pieces ≡ Err (At code place [] [])

-- A fault with this code names no net and has a place of this sort.
abbrev pub WithCode : VlogCode → (Place → Type 0) → VlogFault → Type 0
WithCode code P NoMemory = Unit {0}
WithCode code P (At other place names path) = other ≡ code → P place × (names ≡ []) × (path ≡ [])

abbrev pub IsTooLargeAt : Files → Place → Type 0
IsTooLargeAt files place = IsFirstLong files place ⊎ AreRefused files VlogSize place

-- The codes that come.
abbrev pub HasOwnCode : VlogFault → Type 0
HasOwnCode NoMemory = Unit {0}
HasOwnCode (At VlogByte place names path) = Unit {0}
HasOwnCode (At VlogDirective place names path) = Unit {0}
HasOwnCode (At VlogSize place names path) = Unit {0}
HasOwnCode (At _ place names path) = ⊥

pub record Refuses (files : Files) (fault : VlogFault) : Type 0 where
  pub bad_byte : WithCode VlogByte (IsBadAt files) fault
  pub directive : WithCode VlogDirective (AreRefused files VlogDirective) fault
  pub too_large : WithCode VlogSize (IsTooLargeAt files) fault
  pub codes : HasOwnCode fault

abbrev pub Answers : Files → Result VTokens VlogFault → Type 0
Answers files (Ok tokens) = ArePrepared files tokens
Answers files (Err fault) = Refuses files fault

-- But for want of memory, the bytes of the files determine the answer.
abbrev pub OneAnswer : Type 0
OneAnswer =
    (files : Files) (a b : Result VTokens VlogFault) → Answers files a → Answers files b → a ≢ Err NoMemory → b ≢ Err NoMemory → a ≡ b
