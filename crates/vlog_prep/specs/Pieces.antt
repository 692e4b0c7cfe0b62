-- The pieces of a text: its tokens, its directives and the ends of its lines, blanks, comments and attributes left out.
use Rattle.std.specs.Prelude.{◌≡◌, ◌≢◌, ℕ, Bool, false, ◌==◌, if◌then◌else◌, List, [], ◌∷◌, ◌++◌, length, drop, fold, bytes_eq, codes}
use Rattle.std.specs.List.{list_all}
use Rattle.bit_base.specs.declared.place.Place.{Place}
use Rattle.vlog_tree.specs.declared.token.VTokenKind.{VTokenKind}
use Rattle.vlog_tree.specs.declared.token.VTokenKind.TheVariants.{Name, Word, Number, System, Mark}
use Rattle.vlog_tree.specs.declared.token.VToken.{VToken}
use Rattle.vlog_prep.specs.declared.lexeme.Lexeme.{Lexeme}
use Rattle.vlog_prep.specs.declared.lexeme.Lexeme.TheVariants.{Blank, Passed, Continued, Tick, Identifier, Numeral, SystemName, Symbol}
use Rattle.vlog_prep.specs.declared.piece.Piece.{Piece}
use Rattle.vlog_prep.specs.declared.piece.Piece.TheVariants.{Token, Directive, LineEnd}
use Rattle.vlog_prep.specs.declared.directive.Command.{Command}
use Rattle.vlog_prep.specs.declared.directive.Command.TheVariants as command
use Rattle.vlog_prep.specs.declared.directive.Line.{Line}
use Rattle.vlog_prep.specs.declared.directive.Line.TheVariants as line_
use Rattle.vlog_prep.specs.Lexemes.{is_in_line, IsLongest, BeginsNone}
use Rattle.vlog_prep.specs.Places.{place_after}

-- 19, the directives by their names; any other name uses a macro.
unfoldable pub command_of : List ℕ → Command
command_of name =
    if bytes_eq name (codes "define") then command.Define
    else if bytes_eq name (codes "undef") then command.Undef
    else if bytes_eq name (codes "ifdef") then command.Ifdef
    else if bytes_eq name (codes "ifndef") then command.Ifndef
    else if bytes_eq name (codes "elsif") then command.Elsif
    else if bytes_eq name (codes "else") then command.Else
    else if bytes_eq name (codes "endif") then command.Endif
    else if bytes_eq name (codes "timescale") then command.PassedLine
    else if bytes_eq name (codes "default_nettype") then command.PassedLine
    else if bytes_eq name (codes "celldefine") then command.PassedWord
    else if bytes_eq name (codes "endcelldefine") then command.PassedWord
    else command.Use

-- To what a line belongs from its directive on: the first `define`, or the first directive whose line is passed over.
abbrev pub begun : Command → Line
begun command.Define = line_.Defined
begun command.PassedLine = line_.Ignored
begun _ = line_.Plain

abbrev pub line_after : Line → Piece → Line
line_after line LineEnd = line_.Plain
line_after line_.Plain (Directive name place) = begun (command_of name)
line_after line _ = line

abbrev pub line_of : List Piece → Line
line_of pieces = fold line_after line_.Plain pieces

-- A line ends within this blank, comment or attribute.
abbrev pub line_end : List ℕ → List Piece
line_end text = if list_all is_in_line text then [] else LineEnd ∷ []

abbrev pub begins_with : ℕ → List ℕ → Bool
begins_with c [] = false
begins_with c (b ∷ bs) = b == c

-- The lexeme of a token's kind: names and words are spelled alike.
abbrev pub lexeme_of : VTokenKind → Lexeme
lexeme_of Name = Identifier
lexeme_of Word = Identifier
lexeme_of Number = Numeral
lexeme_of System = SystemName
lexeme_of Mark = Symbol

pub record IsTokenOf (place : Place) (lexeme : Lexeme) (text : List ℕ) (token : VToken) : Type 0 where
  pub kind : lexeme_of token.kind ≡ lexeme
  pub same_text : token.text ≡ text
  pub here : token.place ≡ place

abbrev pub AreToken : Place → List ℕ → Lexeme → List ℕ → List Piece → Type 0
AreToken place after lexeme text (Token token called ∷ []) = IsTokenOf place lexeme text token × (called ≡ begins_with 40 after)
AreToken place after lexeme text _ = ⊥

-- The pieces, none or one, that a lexeme makes, with this text, at this place, before the bytes `after`.
abbrev pub Makes : Place → List ℕ → Lexeme → List ℕ → List Piece → Type 0
Makes place after Blank text pieces = pieces ≡ line_end text
Makes place after Passed text pieces = pieces ≡ line_end text
Makes place after Continued text pieces = pieces ≡ []
Makes place after Tick text pieces = pieces ≡ Directive (drop 1 text) place ∷ []
Makes place after lexeme text pieces = AreToken place after lexeme text pieces

-- A continued line is one of a `define`.
abbrev pub IsAllowed : List Piece → Lexeme → Type 0
IsAllowed pieces Continued = line_of pieces ≡ line_.Defined
IsAllowed pieces _ = Unit {0}

-- Nothing can be read here: nothing stands here, though bytes are left, or a line is continued that isn't one of a `define`.
pub data IsBad (pieces : List Piece) (rest : List ℕ) : Type 0 where
  begins_none : rest ≢ [] → BeginsNone rest → IsBad pieces rest
  continued : (text after : List ℕ) → IsLongest rest Continued text after → line_of pieces ≢ line_.Defined → IsBad pieces rest

-- `pieces` are the pieces of `front`, the part of the file's bytes that is read, and `rest` is what is left of them: longest match after longest match is read.
pub data Reads (file : ℕ) (bytes : List ℕ) : List Piece → List ℕ → List ℕ → Type 0 where
  start : Reads file bytes [] [] bytes
  next : (pieces : List Piece) (front rest : List ℕ) (lexeme : Lexeme) (text after : List ℕ) (more : List Piece) → Reads file bytes pieces front rest
      → IsLongest rest lexeme text after → IsAllowed pieces lexeme → Makes (place_after file front) after lexeme text more → Reads file bytes (pieces ++ more) (front ++ text) after

-- The pieces of files, which are numbered from 0; the end of a file ends a line.
pub data AreRead : List (List ℕ) → List Piece → Type 0 where
  none : AreRead [] []
  file : (files : List (List ℕ)) (pieces : List Piece) (bytes : List ℕ) (more : List Piece) → AreRead files pieces → Reads (length files) bytes more bytes []
      → AreRead (files ++ bytes ∷ []) (pieces ++ (more ++ LineEnd ∷ []))
