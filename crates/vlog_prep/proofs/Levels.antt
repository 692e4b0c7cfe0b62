-- What the use of a macro gives.
use Rattle.std.proofs.Common.{◌≡◌, ℕ, zero, suc, ◌-◌, ◌<◌, true, List, [], refl, sym, ◌∙◌, ap, arith}
use Rattle.std.specs.Prelude.{Option, Some, Ok, Err, option_map}
use Rattle.bit_base.specs.declared.place.Place.{Place}
use Rattle.vlog_tree.specs.declared.fault.VlogCode.TheVariants.{VlogDirective}
use Rattle.vlog_tree.specs.declared.fault.VlogFault.{VlogFault}
use Rattle.vlog_tree.specs.declared.fault.VlogFault.TheVariants.{NoMemory, At}
use Rattle.vlog_prep.specs.declared.piece.Piece.{Piece}
use Rattle.vlog_prep.specs.Reading.{State, is_read, substitute, Own, then_read, read_by, expansion}
use Rattle.vlog_prep.specs.Seen.{Follows, used, IsUse}

module _ (place : Place) (name : List ℕ) (body : List Piece) (s : State) (reads : is_read s.conditions ≡ true) (defined : s.macros name ≡ Some body) where
  pub used-none : (levels : ℕ) → levels ≡ 0 → used levels place name s ≡ Err (At VlogDirective place [] [])
  unfolding expansion
  used-none levels e = rw (reads, defined, e) refl

  pub used-some : (levels : ℕ) → 0 < levels → used levels place name s ≡ then_read (substitute body s) (read_by (expansion (levels - 1)) (Some place) Own body)
  unfolding expansion
  used-some zero h = absurd (omega (arith, h))
  used-some (suc levels) h = let e : suc levels - 1 ≡ levels = omega arith in rw (reads, defined, e) refl

  pub used-more : (levels : ℕ) → 0 < levels → (new : State) → substitute body s ≡ Ok new → used levels place name s ≡ read_by (expansion (levels - 1)) (Some place) Own body new
  used-more levels h new e = used-some levels h ∙ ap (λ o. then_read o (read_by (expansion (levels - 1)) (Some place) Own body)) e

  pub used-refused : (levels : ℕ) → 0 < levels → (fault : VlogFault) → substitute body s ≡ Err fault → used levels place name s ≡ Err fault
  used-refused levels h fault e = used-some levels h ∙ ap (λ o. then_read o (read_by (expansion (levels - 1)) (Some place) Own body)) e

  pub use-refused : (levels : ℕ) → 0 < levels → (fault : VlogFault) (t new : State) → Follows {A = Unit {0}} (substitute body s) (Err fault) t → IsUse levels place name s (Err fault) new
  use-refused levels h NoMemory t new e = tt
  use-refused levels h (At code here names path) t new e = used-refused levels h (At code here names path) e

pub found-some : {A B : Type 0} (f : A → B) (o : Option A) (x : A) (found : Option B) → o ≡ Some x → option_map f o ≡ found → found ≡ Some (f x)
found-some f o x found e h = sym h ∙ ap (option_map f) e
