-- That reading pieces is refused by 202 or 213 alone, and names no nets.
use Rattle.std.proofs.Common.{◌≡◌, ℕ, zero, suc, ◌+◌, Bool, true, false, List, [], ◌∷◌, length, cond, refl}
use Rattle.std.specs.Prelude.{◌&&◌, not, nat_lt, nat_le, Option, Some, None, Result, Ok, Err}
use denote.Enum.Bare.{sameb}
use Rattle.vlog_prep.specs.contracts.condition.Choice.{the_type}
use Rattle.bit_base.specs.declared.place.Place.{Place}
use Rattle.vlog_tree.specs.declared.token.VTokenKind.TheVariants.{Name}
use Rattle.vlog_tree.specs.declared.token.VToken.{VToken}
use Rattle.vlog_tree.specs.declared.fault.VlogCode.TheVariants.{VlogDirective, VlogSize}
use Rattle.vlog_tree.specs.declared.fault.VlogFault.{VlogFault}
use Rattle.vlog_tree.specs.declared.fault.VlogFault.TheVariants.{NoMemory, At}
use Rattle.vlog_tree.specs.Tokens.{is_kind}
use Rattle.vlog_prep.specs.declared.piece.Piece.{Piece}
use Rattle.vlog_prep.specs.declared.piece.Piece.TheVariants.{Token, Directive, LineEnd}
use Rattle.vlog_prep.specs.declared.directive.Command.{Command}
use Rattle.vlog_prep.specs.declared.directive.Command.TheVariants.{Define, Undef, Ifdef, Ifndef, Elsif, Else, Endif, PassedLine, PassedWord, Use}
use Rattle.vlog_prep.specs.declared.condition.Choice.{Choice}
use Rattle.vlog_prep.specs.declared.condition.Choice.TheVariants.{Skipped}
use Rattle.vlog_prep.specs.declared.condition.Condition.{Condition}
use Rattle.vlog_prep.specs.Pieces.{command_of}
use Rattle.vlog_prep.specs.Reading.{State, Outcome, most_tokens, most_substituted, most_conditions, open_, is_read, where_read, counted, place_at, keep, line, next_name, definition, define_, undefine, begin, turn, turn_last, close, substitute, expanded, obey, Part, Rest, Named, Own, part_behind, then_read, read_by, expansion, start, most_levels, ended, finished, prepared}

abbrev pub IsRefusal : VlogFault → Type 0
IsRefusal NoMemory = ⊥
IsRefusal (At VlogDirective place names path) = (names ≡ []) × (path ≡ [])
IsRefusal (At VlogSize place names path) = (names ≡ []) × (path ≡ [])
IsRefusal (At _ place names path) = ⊥

abbrev pub IsFine : {A : Type 0} → Result A VlogFault → Type 0
IsFine (Ok a) = Unit {0}
IsFine (Err fault) = IsRefusal fault

Expand : Type 0
Expand = Place → List Piece → State → Outcome

cond-fine : (t : Bool) (a b : Outcome) → IsFine a → IsFine b → IsFine (cond t a b)
cond-fine true a b h g = h
cond-fine false a b h g = g

where-fine : (s : State) (o : Outcome) → IsFine o → IsFine (where_read s o)
where-fine s o h = cond-fine (is_read s.conditions) o (Ok s) h tt

counted-fine : (s : State) (o : Outcome) → IsFine o → IsFine (counted s o)
counted-fine s o h = cond-fine (nat_lt s.count most_tokens) o _ h (refl, refl)

keep-fine : (place : Place) (token : VToken) (s : State) → IsFine (keep place token s)
keep-fine place token s = where-fine s _ (counted-fine s _ tt)

define-fine : (place : Place) (found : Option (List ℕ × List Piece)) (s : State) → IsFine (define_ place found s)
define-fine place None s = (refl, refl)
define-fine place (Some found) s = tt

undefine-fine : (place : Place) (name : Option (List ℕ)) (s : State) → IsFine (undefine place name s)
undefine-fine place None s = (refl, refl)
undefine-fine place (Some name) s = tt

open-fine : (place : Place) (choice : Choice) (s : State) → IsFine (open_ place choice s)
open-fine place choice s = cond-fine (nat_lt (length s.conditions) most_conditions) _ _ tt (refl, refl)

begin-fine : (place : Place) (wanted : Bool) (name : Option (List ℕ)) (s : State) → IsFine (begin place wanted name s)
begin-fine place wanted None s = cond-fine (is_read s.conditions) _ _ (refl, refl) (open-fine place Skipped s)
begin-fine place wanted (Some name) s = open-fine place _ s

turn-fine : (place : Place) (name : Option (List ℕ)) (s : State) (cs : List Condition) → IsFine (turn place name s cs)
turn-fine place name s [] = (refl, refl)
turn-fine place None s (c ∷ cs) = cond-fine (not c.last && sameb the_type c.choice Skipped) _ _ tt (refl, refl)
turn-fine place (Some name) s (c ∷ cs) = cond-fine c.last _ _ (refl, refl) tt

turn_last-fine : (place : Place) (s : State) (cs : List Condition) → IsFine (turn_last place s cs)
turn_last-fine place s [] = (refl, refl)
turn_last-fine place s (c ∷ cs) = cond-fine c.last _ _ (refl, refl) tt

close-fine : (place : Place) (s : State) (cs : List Condition) → IsFine (close place s cs)
close-fine place s [] = (refl, refl)
close-fine place s (c ∷ cs) = tt

expanded-fine : (expand : List Piece → State → Outcome) → ((body : List Piece) (s : State) → IsFine (expand body s)) → (place : Place) (body : Option (List Piece)) (s : State) → IsFine (expanded expand place body s)
expanded-fine expand fine place None s = (refl, refl)
expanded-fine expand fine place (Some body) s = fine body s

module _ (expand : Place → List Piece → State → Outcome) (fine : (place : Place) (body : List Piece) (s : State) → IsFine (expand place body s)) where
  obey-fine : (command : Command) (name : List ℕ) (place : Place) (behind : List Piece) (s : State) → IsFine (obey expand command name place behind s)
  unfolding obey
  obey-fine Define name place behind s = where-fine s _ (define-fine place (definition (line behind)) s)
  obey-fine Undef name place behind s = where-fine s _ (undefine-fine place (next_name behind) s)
  obey-fine Ifdef name place behind s = begin-fine place true (next_name behind) s
  obey-fine Ifndef name place behind s = begin-fine place false (next_name behind) s
  obey-fine Elsif name place behind s = turn-fine place (next_name behind) s s.conditions
  obey-fine Else name place behind s = turn_last-fine place s s.conditions
  obey-fine Endif name place behind s = close-fine place s s.conditions
  obey-fine PassedLine name place behind s = tt
  obey-fine PassedWord name place behind s = tt
  obey-fine Use name place behind s = where-fine s _ (expanded-fine (expand place) (fine place) place (s.macros name) s)

  then-fine : (o : Outcome) (more : State → Outcome) → IsFine o → ((s : State) → IsFine (more s)) → IsFine (then_read o more)
  then-fine (Ok s) more h g = g s
  then-fine (Err fault) more h g = h

  read_by-fine : (at : Option Place) (part : Part) (pieces : List Piece) (s : State) → IsFine (read_by expand at part pieces s)
  unfolding read_by
  read_by-fine at Rest [] s = tt
  read_by-fine at Named [] s = tt
  read_by-fine at Own [] s = tt
  read_by-fine at Rest (LineEnd ∷ pieces) s = read_by-fine at Own pieces s
  read_by-fine at Named (LineEnd ∷ pieces) s = read_by-fine at Named pieces s
  read_by-fine at Own (LineEnd ∷ pieces) s = read_by-fine at Own pieces s
  read_by-fine at Rest (Token token called ∷ pieces) s = read_by-fine at Rest pieces s
  read_by-fine at Named (Token token called ∷ pieces) s =
      cond-fine (is_kind Name token) _ _ (read_by-fine at Own pieces s) (then-fine _ _ (keep-fine (place_at at token.place) token s) (λ s. read_by-fine at Own pieces s))
  read_by-fine at Own (Token token called ∷ pieces) s = then-fine _ _ (keep-fine (place_at at token.place) token s) (λ s. read_by-fine at Own pieces s)
  read_by-fine at Rest (Directive name place ∷ pieces) s = read_by-fine at Rest pieces s
  read_by-fine at Named (Directive name place ∷ pieces) s =
      then-fine _ _ (obey-fine (command_of name) name (place_at at place) pieces s) (λ s. read_by-fine at (part_behind (command_of name)) pieces s)
  read_by-fine at Own (Directive name place ∷ pieces) s =
      then-fine _ _ (obey-fine (command_of name) name (place_at at place) pieces s) (λ s. read_by-fine at (part_behind (command_of name)) pieces s)

substitute-fine : (body : List Piece) (s : State) → IsFine (substitute body s)
substitute-fine body s = counted-fine s _ (cond-fine (nat_le (s.substituted + length body) most_substituted) _ _ tt (refl, refl))

expansion-fine : (levels : ℕ) (place : Place) (body : List Piece) (s : State) → IsFine (expansion levels place body s)
unfolding expansion
expansion-fine zero place body s = (refl, refl)
expansion-fine (suc levels) place body s = then-fine (expansion levels) (expansion-fine levels) (substitute body s) _ (substitute-fine body s) (λ t. read_by-fine (expansion levels) (expansion-fine levels) (Some place) Own body t)

ended-fine : (cs : List Condition) (tokens : List VToken) → IsFine (ended cs tokens)
ended-fine [] tokens = tt
ended-fine (c ∷ cs) tokens = (refl, refl)

finished-fine : (o : Outcome) → IsFine o → IsFine (finished o)
finished-fine (Ok s) h = ended-fine s.conditions s.tokens
finished-fine (Err fault) h = h

pub prepared-fine : (pieces : List Piece) → IsFine (prepared pieces)
unfolding prepared
prepared-fine pieces = finished-fine _ (read_by-fine (expansion most_levels) (expansion-fine most_levels) None Own pieces start)
