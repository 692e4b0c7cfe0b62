-- What the pieces behind a directive mean.
use Rattle.std.proofs.Common.{◌≡◌, ℕ, suc, ◌+◌, ◌≤◌, Bool, true, false, List, [], ◌∷◌, length, drop, cond, refl, sym, ◌∙◌, ap, arith, one-add}
use Rattle.std.specs.Prelude.{Option, Ok, Err}
use Rattle.std.specs.List.{prefix_len}
use Rattle.std.proofs.lemmas.List.{length-drop}
use Rattle.bit_base.specs.declared.place.Place.{Place}
use Rattle.vlog_tree.specs.declared.token.VTokenKind.TheVariants.{Name}
use Rattle.vlog_tree.specs.declared.token.VToken.{VToken}
use Rattle.vlog_tree.specs.declared.fault.VlogFault.{VlogFault}
use Rattle.vlog_tree.specs.declared.fault.VlogFault.TheVariants.{NoMemory, At}
use Rattle.vlog_tree.specs.Tokens.{is_kind}
use Rattle.vlog_prep.specs.declared.piece.Piece.{Piece}
use Rattle.vlog_prep.specs.declared.piece.Piece.TheVariants.{Token, Directive, LineEnd}
use Rattle.vlog_prep.specs.Pieces.{command_of}
use Rattle.vlog_prep.specs.Reading.{State, Outcome, place_at, keep, is_within_line, obey, Part, Rest, Named, Own, part_behind, then_read, read_by, expansion}
use Rattle.vlog_prep.specs.Behind.{behind_line, behind_name, behind}
use Rattle.vlog_prep.specs.Seen.{Follows, Goes}

drop_one : (n : ℕ) (piece : Piece) (pieces : List Piece) → drop (1 + n) (piece ∷ pieces) ≡ drop n pieces
drop_one n piece pieces = rw one-add refl

module _ (expand : Place → List Piece → State → Outcome) (at : Option Place) where
  line-behind : (pieces : List Piece) (s : State) → read_by expand at Rest pieces s ≡ read_by expand at Own (behind_line pieces) s
  unfolding read_by
  line-behind [] s = refl
  line-behind (LineEnd ∷ pieces) s = refl
  line-behind (Token token called ∷ pieces) s = rw (drop_one (prefix_len is_within_line pieces) (Token token called) pieces) (line-behind pieces s)
  line-behind (Directive name place ∷ pieces) s = rw (drop_one (prefix_len is_within_line pieces) (Directive name place) pieces) (line-behind pieces s)

  name_by : (t : Bool) (token : VToken) (called : Bool) (pieces : List Piece) (s : State)
      → cond t (read_by expand at Own pieces s) (then_read (keep (place_at at token.place) token s) (read_by expand at Own pieces))
      ≡ read_by expand at Own (cond t pieces (Token token called ∷ pieces)) s
  unfolding read_by
  name_by true token called pieces s = refl
  name_by false token called pieces s = refl

  name-behind : (pieces : List Piece) (s : State) → read_by expand at Named pieces s ≡ read_by expand at Own (behind_name pieces) s
  unfolding read_by behind_name
  name-behind [] s = refl
  name-behind (LineEnd ∷ pieces) s = name-behind pieces s
  name-behind (Token token called ∷ pieces) s = name_by (is_kind Name token) token called pieces s
  name-behind (Directive name place ∷ pieces) s = refl

  part-behind : (part : Part) (pieces : List Piece) (s : State) → read_by expand at part pieces s ≡ read_by expand at Own (behind part pieces) s
  part-behind Rest pieces s = line-behind pieces s
  part-behind Named pieces s = name-behind pieces s
  part-behind Own pieces s = refl

  directive-read : (name : List ℕ) (here : Place) (pieces : List Piece) (s : State)
      → read_by expand at Own (Directive name here ∷ pieces) s
      ≡ then_read (obey expand (command_of name) name (place_at at here) pieces s) (read_by expand at (part_behind (command_of name)) pieces)
  unfolding read_by
  directive-read name here pieces s = refl

  token-read : (token : VToken) (called : Bool) (pieces : List Piece) (s : State)
      → read_by expand at Own (Token token called ∷ pieces) s ≡ then_read (keep (place_at at token.place) token s) (read_by expand at Own pieces)
  unfolding read_by
  token-read token called pieces s = refl

  end-read : (pieces : List Piece) (s : State) → read_by expand at Own (LineEnd ∷ pieces) s ≡ read_by expand at Own pieces s
  unfolding read_by
  end-read pieces s = refl

  pub nothing-read : (s : State) → read_by expand at Own [] s ≡ Ok s
  unfolding read_by
  nothing-read s = refl

name-shorter : (pieces : List Piece) → length (behind_name pieces) ≤ length pieces
unfolding behind_name
name-shorter [] = omega arith
name-shorter (LineEnd ∷ pieces) = omega (arith, name-shorter pieces)
name-shorter (Token token called ∷ pieces) = by_test (is_kind Name token)
  where
    by_test : (t : Bool) → length (cond t pieces (Token token called ∷ pieces)) ≤ suc (length pieces)
    by_test true = omega arith
    by_test false = omega arith
name-shorter (Directive name place ∷ pieces) = omega arith

pub part-shorter : (part : Part) (pieces : List Piece) → length (behind part pieces) ≤ length pieces
part-shorter Rest pieces = omega (arith, length-drop (prefix_len is_within_line pieces) pieces)
part-shorter Named pieces = name-shorter pieces
part-shorter Own pieces = omega arith

-- What a directive gives and what is read behind it are what the directive and all pieces behind it give.
module _ (levels : ℕ) (at : Option Place) where
  pub directive-goes : (name : List ℕ) (here place : Place) (pieces rest : List Piece) (old new : State) → place_at at here ≡ place
      → obey (expansion levels) (command_of name) name place pieces old ≡ Ok new → rest ≡ behind (part_behind (command_of name)) pieces
      → read_by (expansion levels) at Own (Directive name here ∷ pieces) old ≡ read_by (expansion levels) at Own rest new
  directive-goes name here place pieces rest old new at_place done is =
      let given : obey (expansion levels) (command_of name) name (place_at at here) pieces old ≡ Ok new = rw at_place done in
      directive-read (expansion levels) at name here pieces old
      ∙ ap (λ o. then_read o (read_by (expansion levels) at (part_behind (command_of name)) pieces)) given
      ∙ part-behind (expansion levels) at (part_behind (command_of name)) pieces new
      ∙ ap (λ w. read_by (expansion levels) at Own w new) (sym is)

  pub directive-fails : (name : List ℕ) (here place : Place) (pieces : List Piece) (old : State) (fault : VlogFault) → place_at at here ≡ place
      → obey (expansion levels) (command_of name) name place pieces old ≡ Err fault
      → read_by (expansion levels) at Own (Directive name here ∷ pieces) old ≡ Err fault
  directive-fails name here place pieces old fault at_place failed =
      let given : obey (expansion levels) (command_of name) name (place_at at here) pieces old ≡ Err fault = rw at_place failed in
      directive-read (expansion levels) at name here pieces old ∙ ap (λ o. then_read o (read_by (expansion levels) at (part_behind (command_of name)) pieces)) given

  pub token-goes : (token : VToken) (called : Bool) (place : Place) (pieces : List Piece) (old new : State) → place ≡ place_at at token.place → keep place token old ≡ Ok new
      → read_by (expansion levels) at Own (Token token called ∷ pieces) old ≡ read_by (expansion levels) at Own pieces new
  token-goes token called place pieces old new is done =
      let given : keep (place_at at token.place) token old ≡ Ok new = rw (sym is) done in
      token-read (expansion levels) at token called pieces old ∙ ap (λ o. then_read o (read_by (expansion levels) at Own pieces)) given

  pub token-fails : (token : VToken) (called : Bool) (pieces : List Piece) (old : State) (fault : VlogFault) → keep (place_at at token.place) token old ≡ Err fault
      → read_by (expansion levels) at Own (Token token called ∷ pieces) old ≡ Err fault
  token-fails token called pieces old fault failed = token-read (expansion levels) at token called pieces old ∙ ap (λ o. then_read o (read_by (expansion levels) at Own pieces)) failed

  pub end-goes : (pieces : List Piece) (s : State) → read_by (expansion levels) at Own (LineEnd ∷ pieces) s ≡ read_by (expansion levels) at Own pieces s
  end-goes pieces s = end-read (expansion levels) at pieces s

  -- The same of a fault.
  pub directive-err : (A : Type 0) (name : List ℕ) (here place : Place) (pieces : List Piece) (old new : State) (fault : VlogFault) → place_at at here ≡ place
      → Follows {A = A} (obey (expansion levels) (command_of name) name place pieces old) (Err fault) new → Goes levels at (Directive name here ∷ pieces) old (Err fault) new
  directive-err A name here place pieces old new NoMemory at_place failed = tt
  directive-err A name here place pieces old new (At code there names path) at_place failed = directive-fails name here place pieces old (At code there names path) at_place failed

  pub token-err : (A : Type 0) (token : VToken) (called : Bool) (place : Place) (pieces : List Piece) (old new : State) (fault : VlogFault) → place ≡ place_at at token.place
      → Follows {A = A} (keep place token old) (Err fault) new → Goes levels at (Token token called ∷ pieces) old (Err fault) new
  token-err A token called place pieces old new NoMemory is failed = tt
  token-err A token called place pieces old new (At code there names path) is failed =
      token-fails token called pieces old (At code there names path) (rw (sym is) failed)
