-- What a field of the map shows, by its number.
use Rattle.std.proofs.Common.{◌≡◌, ℕ, ◌+◌, ◌-◌, Bool, true, false, not, ◌&&◌, List, Some, None, slice_get, refl, ap, sym, ◌∙◌, eqb, leb, ltb}
use Rattle.std.specs.Prelude.{slice_index_or}
use Rattle.std.specs.Option.{option_map_or}
use Rattle.field_policies.specs.declared.field.Field.{Field}
use Rattle.field_policies.specs.declared.extra.Extra.{Extra}
use Rattle.field_policies.specs.declared.extra.Intr.{Intr}
use Rattle.field_policies.specs.declared.extra.Extra.TheVariants as extra
use Rattle.field_policies.specs.Bits.{bit}
use Rattle.field_policies.specs.Fields.{filter_of}
use Rattle.field_policies.specs.Expressions.{value_of}
use Rattle.field_extras.specs.Interrupts.{interrupt_bits}
use Rattle.reg_machine.specs.Steps.{View, Edge, reads}
use Rattle.reg_machine.specs.Machines.{shows_one, hides, is_read_at, raises, filter_value}
use Rattle.reg_machine.proofs.BitMoves.{joined_true, joined_false}

pub flip : (a b : Bool) → a ≡ not b → b ≡ not a
flip true true p = p
flip true false p = refl
flip false true p = refl
flip false false p = p

pub shows_here : (e : Edge) (known : List Bool) (j n : ℕ) (f : Field) → slice_get e.view.fields n ≡ Some f
    → shows_one e known j n ≡ (is_read_at e f j && slice_index_or known n false && bit (value_of e.view.values e.view.hw n f) (j - f.lsb))
shows_here e known j n f at = ap (λ o. option_map_or (λ f. is_read_at e f j && slice_index_or known n false && bit (value_of e.view.values e.view.hw n f) (j - f.lsb)) o false) at

pub hides_here : (e : Edge) (known : List Bool) (j n : ℕ) (f : Field) → slice_get e.view.fields n ≡ Some f
    → hides e known j n ≡ (is_read_at e f j && not (slice_index_or known n false))
hides_here e known j n f at = ap (λ o. option_map_or (λ f. is_read_at e f j && not (slice_index_or known n false)) o false) at

pub shown_there : (e : Edge) (known : List Bool) (j n v : ℕ) (f : Field) (r : Bool) → slice_get e.view.fields n ≡ Some f → v ≡ value_of e.view.values e.view.hw n f → r ≡ reads e f
    → (r && f.readable && slice_index_or known n false) ≡ true → (leb f.lsb j && ltb j (f.lsb + f.width) && bit v (j - f.lsb)) ≡ shows_one e known j n
shown_there e known j n v f r at p q h = ap (λ x. leb f.lsb j && ltb j (f.lsb + f.width) && bit x (j - f.lsb)) p
    ∙ joined_true (reads e f) f.readable (slice_index_or known n false) (leb f.lsb j && ltb j (f.lsb + f.width)) _ (ap (λ x. x && f.readable && slice_index_or known n false) (sym q) ∙ h)
    ∙ sym (shows_here e known j n f at)

pub not_shown : (e : Edge) (known : List Bool) (j n : ℕ) (f : Field) (r : Bool) → slice_get e.view.fields n ≡ Some f → r ≡ reads e f
    → (r && f.readable && slice_index_or known n false) ≡ false → false ≡ shows_one e known j n
not_shown e known j n f r at q h =
    joined_false (reads e f) f.readable (slice_index_or known n false) (leb f.lsb j && ltb j (f.lsb + f.width)) _ (ap (λ x. x && f.readable && slice_index_or known n false) (sym q) ∙ h)
    ∙ sym (shows_here e known j n f at)

and_true : (b : Bool) → (b && true) ≡ b
and_true true = refl
and_true false = refl

hidden_true : (r d k h : Bool) → (r && d && k) ≡ true → h ≡ (r && d && h && k)
hidden_true true true true h p = sym (and_true h)
hidden_true true true false h p = cc
hidden_true true false k h p = cc
hidden_true false d k h p = cc

hidden_false : (r d k h : Bool) → (r && d && k) ≡ false → false ≡ (r && d && h && k)
hidden_false true true true h p = cc
hidden_false true true false true p = refl
hidden_false true true false false p = refl
hidden_false true false k h p = refl
hidden_false false d k h p = refl

pub hidden_there : (e : Edge) (known : List Bool) (j n : ℕ) (f : Field) (r : Bool) → slice_get e.view.fields n ≡ Some f → r ≡ reads e f
    → (r && f.readable && not (slice_index_or known n false)) ≡ true → (leb f.lsb j && ltb j (f.lsb + f.width)) ≡ hides e known j n
hidden_there e known j n f r at q h = hidden_true (reads e f) f.readable (not (slice_index_or known n false)) _ (ap (λ x. x && f.readable && not (slice_index_or known n false)) (sym q) ∙ h)
    ∙ sym (hides_here e known j n f at)

pub not_hidden : (e : Edge) (known : List Bool) (j n : ℕ) (f : Field) (r : Bool) → slice_get e.view.fields n ≡ Some f → r ≡ reads e f
    → (r && f.readable && not (slice_index_or known n false)) ≡ false → false ≡ hides e known j n
not_hidden e known j n f r at q h = hidden_false (reads e f) f.readable (not (slice_index_or known n false)) (leb f.lsb j && ltb j (f.lsb + f.width)) (ap (λ x. x && f.readable && not (slice_index_or known n false)) (sym q) ∙ h)
    ∙ sym (hides_here e known j n f at)

pub raises_here : (w : View) (n : ℕ) (f : Field) → slice_get w.fields n ≡ Some f
    → raises w n ≡ not (eqb (interrupt_bits (filter_of f.extra) f.width (value_of w.values w.hw n f) (filter_value w (filter_of f.extra))) 0)
unfolding raises
raises_here w n f at = ap (λ o. option_map_or (λ f. not (eqb (interrupt_bits (filter_of f.extra) f.width (value_of w.values w.hw n f) (filter_value w (filter_of f.extra))) 0)) o false) at

pub no_filter : (x : Extra) → ((n : Intr) → x ≡ extra.Intr n → ⊥) → filter_of x ≡ None
no_filter extra.Plain h = refl
no_filter (extra.Counter k) h = refl
no_filter (extra.Intr n) h = absurd (h n refl)

-- an interrupt field raises where its bits aren't all 0; a field of another kind where its value isn't
pub raises_intr : (w : View) (n v m b : ℕ) (f : Field) (k : Intr) → slice_get w.fields n ≡ Some f → f.extra ≡ extra.Intr k → v ≡ value_of w.values w.hw n f → m ≡ filter_value w k.filter
    → b ≡ interrupt_bits k.filter f.width v m → not (eqb b 0) ≡ raises w n
raises_intr w n v m b f k at is p q r =
    ap (λ x. not (eqb x 0)) (r ∙ ap (λ x. interrupt_bits k.filter f.width x m) p ∙ ap (λ x. interrupt_bits k.filter f.width (value_of w.values w.hw n f) x) q
    ∙ ap (λ x. interrupt_bits (filter_of x) f.width (value_of w.values w.hw n f) (filter_value w (filter_of x))) (sym is))
    ∙ sym (raises_here w n f at)

pub raises_other : (w : View) (n v : ℕ) (f : Field) → slice_get w.fields n ≡ Some f → ((k : Intr) → f.extra ≡ extra.Intr k → ⊥) → v ≡ value_of w.values w.hw n f → not (eqb v 0) ≡ raises w n
raises_other w n v f at other p =
    ap (λ x. not (eqb x 0)) p ∙ ap (λ x. not (eqb (interrupt_bits x f.width (value_of w.values w.hw n f) (filter_value w x)) 0)) (sym (no_filter f.extra other))
    ∙ sym (raises_here w n f at)
