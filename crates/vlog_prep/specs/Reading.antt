-- What pieces mean: macros are replaced, conditions leave pieces out, tokens are kept (IEEE 1364-2005, 19.3 and 19.4).
use Rattle.std.specs.Prelude.{ℕ, zero, suc, ◌+◌, Bool, true, false, nat_lt, nat_le, if◌then◌else◌, List, [], ◌∷◌, ◌++◌, length, Option, Some, None, is_some, take, not, ◌&&◌, Result, Ok, Err, bytes_eq}
use Rattle.std.specs.List.{prefix_len}
use denote.Enum.Bare.{sameb}
use Rattle.vlog_prep.specs.contracts.condition.Choice.{the_type}
use Rattle.bit_base.specs.declared.place.Place.{Place}
use Rattle.vlog_tree.specs.declared.token.VTokenKind.TheVariants.{Name}
use Rattle.vlog_tree.specs.declared.token.VToken.{VToken}
use Rattle.vlog_tree.specs.declared.fault.VlogCode.{VlogCode}
use Rattle.vlog_tree.specs.declared.fault.VlogCode.TheVariants.{VlogDirective, VlogSize}
use Rattle.vlog_tree.specs.declared.fault.VlogFault.{VlogFault}
use Rattle.vlog_tree.specs.declared.fault.VlogFault.TheVariants.{At}
use Rattle.vlog_tree.specs.Tokens.{is_kind}
use Rattle.vlog_prep.specs.declared.piece.Piece.{Piece}
use Rattle.vlog_prep.specs.declared.piece.Piece.TheVariants.{Token, Directive, LineEnd}
use Rattle.vlog_prep.specs.declared.directive.Command.{Command}
use Rattle.vlog_prep.specs.declared.directive.Command.TheVariants.{Define, Undef, Ifdef, Ifndef, Elsif, Else, Endif, PassedLine, PassedWord, Use}
use Rattle.vlog_prep.specs.declared.condition.Choice.{Choice}
use Rattle.vlog_prep.specs.declared.condition.Choice.TheVariants.{Seeking, Reading, Done, Skipped}
use Rattle.vlog_prep.specs.declared.condition.Condition.{Condition}
use Rattle.vlog_prep.specs.Pieces.{command_of}

-- The most tokens, where each use of a macro counts as one more, and the most levels of macros.
abbrev pub most_tokens : ℕ
most_tokens = 200000

abbrev pub most_levels : ℕ
most_levels = 64

-- The most tokens and directives that all uses of macros together are replaced by, and the most conditions that are open at once.
abbrev pub most_substituted : ℕ
most_substituted = 4000000

abbrev pub most_conditions : ℕ
most_conditions = 1024

-- What has been read: the macros that are defined, the open conditions, innermost first, the tokens, how many tokens and uses of macros there were, and how many tokens and directives the
-- texts of the macros that were used have together.
pub record State : Type 0 where
  pub macros : List ℕ → Option (List Piece)
  pub conditions : List Condition
  pub tokens : List VToken
  pub count : ℕ
  pub substituted : ℕ

abbrev pub Outcome : Type 0
Outcome = Result State VlogFault

abbrev pub refuse : VlogCode → Place → Outcome
refuse code place = Err (At code place [] [])

-- A refusal of all the files.
abbrev pub whole : Place
whole = record { file = 0; line = 0; column = 0 }

-- No condition leaves out what stands here.
abbrev pub is_read : List Condition → Bool
is_read [] = true
is_read (c ∷ cs) = sameb the_type c.choice Reading

abbrev pub with_macro : List ℕ → Option (List Piece) → State → State
with_macro name body s = record s { macros = λ other. if bytes_eq name other then body else s.macros other }

abbrev pub with_conditions : List Condition → State → State
with_conditions conditions s = record s { conditions = conditions }

-- Of pieces that come from a macro, all stand at the place of the outermost use.
abbrev pub place_at : Option Place → Place → Place
place_at None place = place
place_at (Some use_) place = use_

-- What stands in a part that is left out has no effect.
abbrev pub where_read : State → Outcome → Outcome
where_read s outcome = if is_read s.conditions then outcome else Ok s

-- One more token, or one more use of a macro.
abbrev pub counted : State → Outcome → Outcome
counted s outcome = if nat_lt s.count most_tokens then outcome else refuse VlogSize whole

-- A token at a place.
abbrev pub keep : Place → VToken → State → Outcome
keep place token s = where_read s (counted s (Ok (record s { tokens = s.tokens ++ record token { place = place } ∷ []; count = s.count + 1 })))

-- The pieces up to the end of the line.
abbrev pub is_within_line : Piece → Bool
is_within_line LineEnd = false
is_within_line _ = true

abbrev pub line : List Piece → List Piece
line pieces = take (prefix_len is_within_line pieces) pieces

-- The next name; it may stand on a later line.
unfoldable pub next_name : List Piece → Option (List ℕ)
next_name [] = None
next_name (LineEnd ∷ pieces) = next_name pieces
next_name (Token token called ∷ pieces) = if is_kind Name token then Some token.text else None
next_name (Directive name place ∷ pieces) = None

-- 19.3.1, what a line behind `define` defines: a name, no `(` directly after it, and the macro's pieces.
abbrev pub definition : List Piece → Option (List ℕ × List Piece)
definition (Token token called ∷ pieces) = if is_kind Name token && not called then Some (token.text, pieces) else None
definition _ = None

abbrev pub define_ : Place → Option (List ℕ × List Piece) → State → Outcome
define_ place None s = refuse VlogDirective place
define_ place (Some found) s = Ok (with_macro found.0 (Some found.1) s)

-- 19.3.2.
abbrev pub undefine : Place → Option (List ℕ) → State → Outcome
undefine place None s = refuse VlogDirective place
undefine place (Some name) s = Ok (with_macro name None s)

-- 19.4: whether a part is read whose name must be defined, or must not be.
abbrev pub chosen : Bool → State → List ℕ → Choice
chosen wanted s name = if is_some (s.macros name) then (if wanted then Reading else Seeking) else (if wanted then Seeking else Reading)

-- One more condition is open.
abbrev pub open_ : Place → Choice → State → Outcome
open_ place choice s =
    if nat_lt (length s.conditions) most_conditions
    then Ok (with_conditions (record { place = place; choice = choice; last = false } ∷ s.conditions) s)
    else refuse VlogSize whole

-- `ifdef` and `ifndef`. Where the part is left out, so are all of the condition's, and no name is asked for.
abbrev pub begin : Place → Bool → Option (List ℕ) → State → Outcome
begin place wanted None s = if is_read s.conditions then refuse VlogDirective place else open_ place Skipped s
begin place wanted (Some name) s = open_ place (if is_read s.conditions then chosen wanted s name else Skipped) s

-- The choice of a further part, by its name; by none for `else`.
abbrev pub turned : Choice → Choice → Choice
turned Seeking choice = choice
turned Reading choice = Done
turned Done choice = Done
turned Skipped choice = Skipped

-- `elsif`, on the innermost condition, whose `else` must not have come.
abbrev pub turn : Place → Option (List ℕ) → State → List Condition → Outcome
turn place name s [] = refuse VlogDirective place
turn place None s (c ∷ cs) =
    if not c.last && sameb the_type c.choice Skipped then Ok s else refuse VlogDirective place
turn place (Some name) s (c ∷ cs) =
    if c.last then refuse VlogDirective place else Ok (with_conditions (record c { choice = turned c.choice (chosen true s name) } ∷ cs) s)

-- `else`.
abbrev pub turn_last : Place → State → List Condition → Outcome
turn_last place s [] = refuse VlogDirective place
turn_last place s (c ∷ cs) =
    if c.last then refuse VlogDirective place else Ok (with_conditions (record { place = c.place; choice = turned c.choice Reading; last = true } ∷ cs) s)

-- `endif`.
abbrev pub close : Place → State → List Condition → Outcome
close place s [] = refuse VlogDirective place
close place s (c ∷ cs) = Ok (with_conditions cs s)

-- 19.3.1, the use of a macro at a place: `expand` gives the macro's pieces their meaning.
abbrev pub expanded : (List Piece → State → Outcome) → Place → Option (List Piece) → State → Outcome
expanded expand place None s = refuse VlogDirective place
expanded expand place (Some body) s = expand body s

-- A directive, and the pieces behind it.
unfoldable pub obey : (Place → List Piece → State → Outcome) → Command → List ℕ → Place → List Piece → State → Outcome
obey expand Define name place behind s = where_read s (define_ place (definition (line behind)) s)
obey expand Undef name place behind s = where_read s (undefine place (next_name behind) s)
obey expand Ifdef name place behind s = begin place true (next_name behind) s
obey expand Ifndef name place behind s = begin place false (next_name behind) s
obey expand Elsif name place behind s = turn place (next_name behind) s s.conditions
obey expand Else name place behind s = turn_last place s s.conditions
obey expand Endif name place behind s = close place s s.conditions
obey expand PassedLine name place behind s = Ok s
obey expand PassedWord name place behind s = Ok s
obey expand Use name place behind s = where_read s (expanded (expand place) place (s.macros name) s)

-- What the pieces behind a directive are: of its line, its name, or pieces of their own.
pub data Part : Type 0 where
  Rest : Part
  Named : Part
  Own : Part

abbrev pub part_behind : Command → Part
part_behind Define = Rest
part_behind PassedLine = Rest
part_behind Undef = Named
part_behind Ifdef = Named
part_behind Ifndef = Named
part_behind Elsif = Named
part_behind _ = Own

abbrev pub then_read : Outcome → (State → Outcome) → Outcome
then_read (Ok s) more = more s
then_read (Err fault) more = Err fault

-- The pieces in order: each has its meaning, but for those that belong to a directive before.
unfoldable pub read_by : (Place → List Piece → State → Outcome) → Option Place → Part → List Piece → State → Outcome
read_by expand at part [] s = Ok s
read_by expand at Rest (LineEnd ∷ pieces) s = read_by expand at Own pieces s
read_by expand at Rest (piece ∷ pieces) s = read_by expand at Rest pieces s
read_by expand at Named (LineEnd ∷ pieces) s = read_by expand at Named pieces s
read_by expand at Named (Token token called ∷ pieces) s =
    if is_kind Name token then read_by expand at Own pieces s else then_read (keep (place_at at token.place) token s) (read_by expand at Own pieces)
read_by expand at part (Token token called ∷ pieces) s = then_read (keep (place_at at token.place) token s) (read_by expand at Own pieces)
read_by expand at part (Directive name place ∷ pieces) s =
    then_read (obey expand (command_of name) name (place_at at place) pieces s) (read_by expand at (part_behind (command_of name)) pieces)
read_by expand at part (LineEnd ∷ pieces) s = read_by expand at Own pieces s

-- One more use of a macro. Its pieces are all tokens and directives, since the end of a line isn't among them; they count whether they are read or left out.
abbrev pub substitute : List Piece → State → Outcome
substitute body s =
    counted s (if nat_le (s.substituted + length body) most_substituted
    then Ok (record s { count = s.count + 1; substituted = s.substituted + length body })
    else refuse VlogSize whole)

-- The meaning of a macro's pieces at the place of its use, where macros may nest so many levels deep.
unfoldable pub expansion : ℕ → Place → List Piece → State → Outcome
expansion zero place body s = refuse VlogDirective place
expansion (suc levels) place body s = then_read (substitute body s) (read_by (expansion levels) (Some place) Own body)

abbrev pub start : State
start = record { macros = λ name. None; conditions = []; tokens = []; count = 0; substituted = 0 }

-- At the end no condition may be open.
abbrev pub ended : List Condition → List VToken → Result (List VToken) VlogFault
ended [] tokens = Ok tokens
ended (c ∷ cs) tokens = Err (At VlogDirective c.place [] [])

abbrev pub finished : Outcome → Result (List VToken) VlogFault
finished (Ok s) = ended s.conditions s.tokens
finished (Err fault) = Err fault

-- The tokens after directives and macros.
unfoldable pub prepared : List Piece → Result (List VToken) VlogFault
prepared pieces = finished (read_by (expansion most_levels) None Own pieces start)
