-- The pieces behind those that belong to a directive. That they are is proved in proofs/Behind. No public contract cites it.
use Rattle.std.specs.Prelude.{if◌then◌else◌, List, [], ◌∷◌, drop}
use Rattle.std.specs.List.{prefix_len}
use Rattle.vlog_tree.specs.declared.token.VTokenKind.TheVariants.{Name}
use Rattle.vlog_tree.specs.Tokens.{is_kind}
use Rattle.vlog_prep.specs.declared.piece.Piece.{Piece}
use Rattle.vlog_prep.specs.declared.piece.Piece.TheVariants.{Token, Directive, LineEnd}
use Rattle.vlog_prep.specs.Reading.{is_within_line, Part, Rest, Named, Own}

abbrev pub behind_line : List Piece → List Piece
behind_line pieces = drop (prefix_len is_within_line pieces) pieces

unfoldable pub behind_name : List Piece → List Piece
behind_name [] = []
behind_name (LineEnd ∷ pieces) = behind_name pieces
behind_name (Token token called ∷ pieces) = if is_kind Name token then pieces else Token token called ∷ pieces
behind_name (Directive name place ∷ pieces) = Directive name place ∷ pieces

abbrev pub behind : Part → List Piece → List Piece
behind Rest pieces = behind_line pieces
behind Named pieces = behind_name pieces
behind Own pieces = pieces
