-- What no edge changes.
use Rattle.std.proofs.Common.{◌≡◌, ℕ, ◌+◌, false, cond, List, map, Some, slice_get, get_or, refl, arith, ap, ◌∙◌}
use Rattle.std.specs.List.{enumerate_from}
use Rattle.std.proofs.lemmas.List.{get_or-map}
use Rattle.std.proofs.lemmas.List.FromFn.{get_or-enumerate_from, length-enumerate_from}
use Rattle.std.proofs.lemmas.Option.{slice_get_within, get_or_from_slice_get}
use Rattle.field_policies.specs.declared.field.Field.{Field}
use Rattle.reg_machine.specs.Steps.{next_used, next_known}
use Rattle.reg_machine.specs.States.{for_each, next_state}
use Rattle.reg_machine.specs.Starts.{ResetKeepsStart, EdgeKeepsStart}

mapped_at : {A B : Type 0} (f : A → B) (xs : List A) (i : ℕ) (x : A) (d : B) → slice_get xs i ≡ Some x → get_or (map f xs) i d ≡ f x
mapped_at f xs i x d at =
    get_or-map f xs i x d (slice_get_within xs i x at) ∙ ap f (get_or_from_slice_get xs i x x at)

each_at : {A : Type 0} (each : ℕ → Field → A) (fields : List Field) (i : ℕ) (f : Field) (d : A) → slice_get fields i ≡ Some f → get_or (for_each each fields) i d ≡ each i f
each_at each fields i f d at =
    let within = slice_get_within fields i f at in
    get_or-map (λ p. each p.0 p.1) (enumerate_from 0 fields) i (0, f) d (rw (length-enumerate_from 0 fields) within)
    ∙ ap (λ p. each p.0 p.1) (get_or-enumerate_from 0 fields i (0, f) within)
    ∙ ap (λ g. each (0 + i) g) (get_or_from_slice_get fields i f f at)
    ∙ ap (λ n. each n f) (omega arith)

pub reset_keeps_start : ResetKeepsStart
reset_keeps_start fields = record {
  wire = λ n f at on. mapped_at _ fields n f 0 at ∙ ap (λ b. cond b 0 f.reset) on;
  unused = λ n f at off. mapped_at _ fields n f false at;
  known = λ n f at on. mapped_at _ fields n f false at ∙ on;
}

pub edge_keeps_start : EdgeKeepsStart
unfolding next_state next_used next_known
edge_keeps_start e s keeps = record {
  wire = λ n f at on. each_at _ e.view.fields n f 0 at ∙ rw on (keeps.wire n f at on);
  unused = λ n f at off. each_at _ e.view.fields n f false at ∙ rw (off, keeps.unused n f at off) refl;
  known = λ n f at on. each_at _ e.view.fields n f false at ∙ rw (keeps.known n f at on) refl;
}
