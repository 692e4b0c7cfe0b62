-- The fields of a map one by one, each with the field of the description that it is made of.
use Rattle.std.proofs.Common.{◌≡◌, ◌≢◌, ◌⊎◌, inl, inr, ℕ, zero, suc, ◌+◌, ◌^◌, ◌<◌, ◌≤◌, Bool, true, false, ◌&&◌, ◌||◌, not, List, [], ◌∷◌, length, Option, Some, None, is_some, slice_get, sum_by, refl, sym, ◌∙◌, ap, subst, arith, codes, bytes_eq}
use Rattle.field_policies.specs.declared.field.Field.{Field}
use Rattle.field_policies.specs.declared.policy.ReadEffect.TheVariants as read
use Rattle.field_policies.specs.Maps.{AreResets, AreWires, IsSmall}
use Rattle.rdl_tree.specs.declared.token.RdlToken.{RdlToken}
use Rattle.rdl_tree.specs.declared.tree.RdlProp.{RdlProp}
use Rattle.rdl_tree.specs.Tree.{is_text}
use Rattle.rdl_text.specs.declared.property.Property.{Property}
use Rattle.rdl_text.specs.declared.property.Property.TheVariants as p
use Rattle.rdl_text.specs.Components.{Component}
use Rattle.rdl_values.specs.declared.access.SwAccess.{SwAccess}
use Rattle.rdl_values.specs.OneFrame.{Trail}
use Rattle.rdl_values.specs.Values.{assigned_at, reset_at, in_effect, any_in_effect, is_set}
use Rattle.rdl_values.specs.Accesses.{sw_word, sw_by, sw_at, word_at, read_of, read_given, read_at}
use Rattle.rdl_values.specs.Fields.{takes_data, has_data, is_read_only, is_acted_on, is_wire, starts_known}
use Rattle.rdl_fields.specs.declared.named.NamedField.{NamedField}
use Rattle.rdl_fields.specs.Parts.{read_if, reset_if}
use Rattle.rdl_map.specs.Signals.{count_at, number_if, numbers_from}
use Rattle.rdl_map.specs.Fields.{IsFieldWith, IsFieldOf, AreFrom}
use Rattle.rdl_regmap.proofs.Has.{Has, has_at}
use Rattle.rdl_regmap.proofs.Instances.{no_left, no_right, yes_left, yes_right, no_by_not, same_bytes}
use Rattle.rdl_regmap.proofs.Givens.{IsGiven, IsField, trail_of, field_is}
use Rattle.rdl_regmap.proofs.Words.{AreValued, are_valued, AreNumbers, are_numbers}
use Rattle.rdl_regmap.proofs.Sums.{width_in, sum_cons}
use Rattle.rdl_regmap.proofs.MapTold.{AreParts, given_of, widths_below, few_fields, few_words}

-- ---- one by one

-- so many inputs stand before those of the field of a number
abbrev pub base_at : ℕ → List NamedField → ℕ → ℕ
base_at base [] k = base
base_at base (g ∷ gs) zero = base
base_at base (g ∷ gs) (suc k) = base_at (base + count_at g) gs k

pub record IsMade (words : List ℕ) (all gs : List NamedField) (base n k : ℕ) (f : Field) : Type 0 where
  pub field : NamedField
  pub here : slice_get gs k ≡ Some field
  pub is : IsFieldOf words all n (base_at base gs k) field f

some_field : (a b : Field) → Some a ≡ Some b → a ≡ b
some_field a b e = cc

made_from : (words : List ℕ) (all : List NamedField) (number base : ℕ) (gs : List NamedField) (fs : List Field) (k n : ℕ) (f : Field) → n ≡ number + k → AreFrom words all number base gs fs → slice_get fs k ≡ Some f
    → IsMade words all gs base n k f
made_from words all number base [] [] k n f same from e = cc
made_from words all number base [] (x ∷ fs) k n f same from e = absurd from
made_from words all number base (g ∷ gs) [] k n f same from e = absurd from
made_from words all number base (g ∷ gs) (x ∷ fs) zero n f same from e =
    let z : n ≡ number = omega (arith, same) in
    record { field = g; here = refl; is = subst (λ (y : Field). IsFieldOf words all n base g y) (some_field x f e) (subst (λ m. IsFieldOf words all m base g x) (sym z) from.0) }
made_from words all number base (g ∷ gs) (x ∷ fs) (suc k) n f same from e =
    let r : IsMade words all gs (base + count_at g) n k f = made_from words all (number + 1) (base + count_at g) gs fs k n f (omega (arith, same)) from.1 e in
    record { field = r.field; here = r.here; is = r.is }

pub made : (words : List ℕ) (all : List NamedField) (fs : List Field) (k : ℕ) (f : Field) → AreFrom words all 0 0 all fs → slice_get fs k ≡ Some f → IsMade words all all 0 k k f
made words all fs k f from e = made_from words all 0 0 all fs k k f (omega arith) from e

pub as_many : (words : List ℕ) (all : List NamedField) (number base : ℕ) (gs : List NamedField) (fs : List Field) → AreFrom words all number base gs fs → length fs ≡ length gs
as_many words all number base [] [] from = refl
as_many words all number base [] (x ∷ fs) from = absurd from
as_many words all number base (g ∷ gs) [] from = absurd from
as_many words all number base (g ∷ gs) (x ∷ fs) from = ap suc (as_many words all (number + 1) (base + count_at g) gs fs from.1)

pub widths_are : (words : List ℕ) (all : List NamedField) (number base : ℕ) (gs : List NamedField) (fs : List Field) → AreFrom words all number base gs fs → sum_by (λ (f : Field). f.width) fs ≡ sum_by width_in gs
widths_are words all number base [] [] from = refl
widths_are words all number base [] (x ∷ fs) from = absurd from
widths_are words all number base (g ∷ gs) [] from = absurd from
widths_are words all number base (g ∷ gs) (x ∷ fs) from =
    let e : sum_by (λ (f : Field). f.width) fs ≡ sum_by width_in gs = widths_are words all (number + 1) (base + count_at g) gs fs from.1 in
    let a : sum_by (λ (f : Field). f.width) (x ∷ fs) ≡ (0 + x.width) + sum_by (λ (f : Field). f.width) fs = sum_cons (λ (f : Field). f.width) x fs in
    let b : sum_by width_in (g ∷ gs) ≡ (0 + width_in g) + sum_by width_in gs = sum_cons width_in g gs in
    let w : x.width ≡ g.spot.width = from.0.position.width in
    omega (arith, a, b, e, w)

-- the parts of a map of a clear description
pub record IsMap (top : Component) (words : List ℕ) (given : List NamedField) (fields : List Field) : Type 0 where
  pub parts : AreParts top words given
  pub from : AreFrom words given 0 0 given fields

-- a field of the map, and what it is made of
pub record Here (top : Component) (words : List ℕ) (given : List NamedField) (k : ℕ) (f : Field) : Type 0 where
  pub field : NamedField
  pub at : slice_get given k ≡ Some field
  pub among : Has field given
  pub is : IsFieldWith words given k (numbers_from (base_at 0 given k) field.inputs) field f
  pub source : IsGiven top field
  pub own : IsField top (trail_of top field source) source.field.instance
  pub numbers : AreNumbers top field source
  pub valued : AreValued (trail_of top field source)

pub here : (top : Component) (words : List ℕ) (given : List NamedField) (fields : List Field) → IsMap top words given fields → (k : ℕ) (f : Field) → slice_get fields k ≡ Some f → Here top words given k f
here top words given fields m k f e =
    let d : IsMade words given given 0 k k f = made words given fields k f m.from e in
    let h : Has d.field given = has_at given k d.field d.here in
    let i : IsGiven top d.field = given_of top words given m.parts d.field h in
    let o : IsField top (trail_of top d.field i) i.field.instance = field_is top d.field m.parts.clear i in
    record { field = d.field; at = d.here; among = h; is = d.is; source = i; own = o; numbers = are_numbers top d.field m.parts.clear i; valued = are_valued (trail_of top d.field i) o.valued }

-- ---- small

pub is_small : (top : Component) (words : List ℕ) (given : List NamedField) (fields : List Field) → IsMap top words given fields → IsSmall words fields
is_small top words given fields m =
    let a : sum_by (λ (f : Field). f.width) fields ≡ sum_by width_in given = widths_are words given 0 0 given fields m.from in
    let b : sum_by width_in given ≤ 4096 = widths_below top words given m.parts in
    let c : length fields ≡ length given = as_many words given 0 0 given fields m.from in
    let d : length given ≤ 4096 = few_fields top words given m.parts in
    record { few_words = few_words top words given m.parts; few_bits = omega (arith, a, b); few_fields = omega (arith, c, d) }

pub below_power : (a b c d : ℕ) → a ≡ c → b ≡ d → c < 2 ^ d → a < 2 ^ b
below_power a b c d e f lt = rw (e, f) lt

-- ---- resets

unknown_reset : (t : Trail) (w : Bool) (o : Option ℕ) → reset_at t ≡ o → (w || is_some o) ≡ false → reset_if w t ≡ 0
unknown_reset t true o e out = cc
unknown_reset t false None e out = rw e refl
unknown_reset t false (Some n) e out = cc

pub known_wire : (w : Bool) (o : Bool) → w ≡ true → (w || o) ≡ true
known_wire true o e = refl
known_wire false o e = cc

pub are_resets : (top : Component) (words : List ℕ) (given : List NamedField) (fields : List Field) → IsMap top words given fields → AreResets fields
are_resets top words given fields m = record {
  fits = λ k f e.
      let h : Here top words given k f = here top words given fields m k f e in
      let r : f.reset ≡ h.field.start.reset = h.is.position.reset in
      let w : f.width ≡ h.field.spot.width = h.is.position.width in
      below_power f.reset f.width h.field.start.reset h.field.spot.width r w h.numbers.reset;
  unknown = λ k f e out.
      let h : Here top words given k f = here top words given fields m k f e in
      let t : Trail = trail_of top h.field h.source in
      let known : h.field.start.known ≡ starts_known (trail_of top h.field h.source) = ap (λ (x : NamedField). x.start.known) h.source.field.is in
      let reset : h.field.start.reset ≡ reset_if (is_wire (trail_of top h.field h.source)) (trail_of top h.field h.source) = ap (λ (x : NamedField). x.start.reset) h.source.field.is in
      h.is.position.reset ∙ reset ∙ unknown_reset (trail_of top h.field h.source) (is_wire (trail_of top h.field h.source)) (reset_at (trail_of top h.field h.source)) refl (sym known ∙ sym h.is.rest.starts_known ∙ out);
  wires = λ k f e on.
      let h : Here top words given k f = here top words given fields m k f e in
      let known : h.field.start.known ≡ starts_known (trail_of top h.field h.source) = ap (λ (x : NamedField). x.start.known) h.source.field.is in
      let wire : h.field.start.wire ≡ is_wire (trail_of top h.field h.source) = ap (λ (x : NamedField). x.start.wire) h.source.field.is in
      h.is.rest.starts_known ∙ known ∙ known_wire (is_wire (trail_of top h.field h.source)) _ (sym wire ∙ sym h.is.rest.wire ∙ on);
}

-- ---- wires

pub none_in_effect : (t : Trail) (qs : List Property) (q : Property) → any_in_effect t qs ≡ false → Has q qs → in_effect t q ≡ false
none_in_effect t [] q out h = absurd h
none_in_effect t (x ∷ qs) q out h = elim h [ inl e ↦ ap (in_effect t) e ∙ no_left _ _ out | inr r ↦ none_in_effect t qs q (no_right (in_effect t x) _ out) r ]

both_no : (a b : Bool) → (not a && not b) ≡ false → (a ≡ true) ⊎ (b ≡ true)
both_no true b e = inl refl
both_no false true e = inr refl
both_no false false e = cc

once_by_text : (w : List ℕ) → (w ≡ codes "r") ⊎ (w ≡ codes "na") → (bytes_eq w (codes "rw1") || bytes_eq w (codes "w1")) ≡ false
once_by_text w (inl e) = rw e refl
once_by_text w (inr e) = rw e refl

once_word : (w : RdlToken) → (sw_word w).writable ≡ false → (sw_word w).once ≡ false
unfolding sw_word
once_word w out = once_by_text w.text (elim (both_no (is_text (codes "r") w) (is_text (codes "na") w) out) [
  | inl e ↦ inl (same_bytes w.text (codes "r") e)
  | inr e ↦ inr (same_bytes w.text (codes "na") e)
])

once_by : (o : Option RdlToken) → (sw_by o).writable ≡ false → (sw_by o).once ≡ false
once_by None out = cc
once_by (Some w) out = once_word w out

kept_of : (x : RdlProp) → is_set (Some x) ≡ false → read_of x ≡ read.Keep
kept_of x out = rw out refl

kept_given : (o : Option RdlProp) → is_set o ≡ false → read_given o ≡ read.Keep
kept_given None out = refl
kept_given (Some x) out = kept_of x out

kept_if : (r : Bool) (t : Trail) → read_at t ≡ read.Keep → read_if r t ≡ read.Keep
kept_if true t e = e
kept_if false t e = refl

not_writable : (s : SwAccess) → is_read_only s ≡ true → s.writable ≡ false
not_writable s on = no_by_not s.writable (yes_right s.readable _ on)

pub right_holds : (a b : Bool) → b ≡ true → (a || b) ≡ true
right_holds true b e = refl
right_holds false b e = e

pub some_number : (b : Bool) (n : ℕ) → b ≡ true → number_if b n ≢ None
some_number true n e q = cc
some_number false n e q = cc

pub record WireFacts (t : Trail) : Type 0 where
  pub fed : takes_data t ≡ true
  pub read_only : is_read_only (sw_at t) ≡ true
  pub alone : is_acted_on t ≡ false

pub wire_facts : (t : Trail) → is_wire t ≡ true → WireFacts t
wire_facts t on = record {
  fed = yes_left (takes_data t) _ (yes_left _ (not (is_acted_on t)) on);
  read_only = yes_right (takes_data t) _ (yes_left _ (not (is_acted_on t)) on);
  alone = no_by_not (is_acted_on t) (yes_right (takes_data t && is_read_only (sw_at t)) _ on);
}

pub wire_of : (top : Component) (words : List ℕ) (given : List NamedField) (k : ℕ) (f : Field) → (h : Here top words given k f) → f.wire ≡ is_wire (trail_of top h.field h.source)
wire_of top words given k f h = h.is.rest.wire ∙ ap (λ (x : NamedField). x.start.wire) h.source.field.is

pub are_wires : (top : Component) (words : List ℕ) (given : List NamedField) (fields : List Field) → IsMap top words given fields → AreWires fields
are_wires top words given fields m = record {
  sources = λ k f e on.
      let h : Here top words given k f = here top words given fields m k f e in
      let w : WireFacts (trail_of top h.field h.source) = wire_facts (trail_of top h.field h.source) (sym (wire_of top words given k f h) ∙ on) in
      let d : h.field.inputs.has_data ≡ has_data (trail_of top h.field h.source) = ap (λ (x : NamedField). x.inputs.has_data) h.source.field.is in
      let yes_data : h.field.inputs.has_data ≡ true = d ∙ right_holds (in_effect (trail_of top h.field h.source) p.Intr) _ w.fed in
      λ q. some_number h.field.inputs.has_data (base_at 0 given k) yes_data (sym h.is.rest.data_in ∙ q);
  unwritable = λ k f e on.
      let h : Here top words given k f = here top words given fields m k f e in
      let w : WireFacts (trail_of top h.field h.source) = wire_facts (trail_of top h.field h.source) (sym (wire_of top words given k f h) ∙ on) in
      h.is.rest.writable ∙ ap (λ (x : NamedField). x.software.writable) h.source.field.is ∙ not_writable (sw_at (trail_of top h.field h.source)) w.read_only;
  repeated = λ k f e on.
      let h : Here top words given k f = here top words given fields m k f e in
      let w : WireFacts (trail_of top h.field h.source) = wire_facts (trail_of top h.field h.source) (sym (wire_of top words given k f h) ∙ on) in
      h.is.rest.once ∙ ap (λ (x : NamedField). x.software.once) h.source.field.is ∙ once_by (word_at (trail_of top h.field h.source) p.Sw) (not_writable (sw_at (trail_of top h.field h.source)) w.read_only);
  kept = λ k f e on.
      let h : Here top words given k f = here top words given fields m k f e in
      let t : Trail = trail_of top h.field h.source in
      let w : WireFacts (trail_of top h.field h.source) = wire_facts (trail_of top h.field h.source) (sym (wire_of top words given k f h) ∙ on) in
      let out : in_effect (trail_of top h.field h.source) p.Onread ≡ false = none_in_effect (trail_of top h.field h.source) (p.Intr ∷ p.We ∷ p.Wel ∷ p.Hwset ∷ p.Hwclr ∷ p.Hwenable ∷ p.Hwmask ∷ p.Onread ∷ p.Singlepulse ∷ []) p.Onread w.alone (inr (inr (inr (inr (inr (inr (inr (inl refl)))))))) in
      h.is.rest.read ∙ ap (λ (x : NamedField). x.software.read) h.source.field.is
      ∙ kept_if (sw_at (trail_of top h.field h.source)).readable (trail_of top h.field h.source) (kept_given (assigned_at (trail_of top h.field h.source) p.Onread) out);
}
