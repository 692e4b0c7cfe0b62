-- The map of a description that nothing refuses is orderly.
use Rattle.std.proofs.Common.{◌≡◌, inr, ℕ, Bool, true, false, not, List, [], ◌∷◌, ◌++◌, Option, Some, None, slice_get, refl, sym, ◌∙◌, ap, subst, arith}
use Rattle.field_policies.specs.declared.field.Field.{Field}
use Rattle.field_policies.specs.declared.signal.HwInput.{HwInput}
use Rattle.field_policies.specs.Maps.{IsBus, AreInWords, input_width}
use Rattle.rdl_tree.specs.declared.tree.RdlFile.{RdlFile}
use Rattle.rdl_tree.specs.declared.tree.RdlItem.{RdlItem, out-RdlItem}
use Rattle.rdl_tree.specs.declared.tree.RdlItem.TheOpen.{RdlItem-F}
use Rattle.rdl_tree.specs.declared.tree.RdlDef.{RdlDef}
use Rattle.rdl_text.specs.Components.{Component}
use Rattle.rdl_text.specs.Names.{can_be_top, has_top}
use Rattle.rdl_values.specs.Instances.{top_by, top_from, top_of}
use Rattle.rdl_layout.specs.Registers.{registers_below}
use Rattle.rdl_words.specs.Words.{spots_of}
use Rattle.rdl_words.specs.Clashes.{IsClash}
use Rattle.rdl_fields.specs.declared.named.NamedField.{NamedField}
use Rattle.rdl_numbers.specs.Inputs.{inputs_of}
use Rattle.rdl_map.specs.declared.map.Parts.{Parts}
use Rattle.rdl_map.specs.Maps.{IsMapOf, bus_of}
use Rattle.rdl_elab.specs.Unlike.{IsUnlike}
use Rattle.rdl_elab.specs.Refusals.{IsFine}
use Rattle.rdl_regmap.specs.Laws.{AreInputs, IsOrderly}
use Rattle.rdl_regmap.proofs.Has.{OptionCase, option_case, Has, has_at}
use Rattle.rdl_regmap.proofs.Fine.{is_few}
use Rattle.rdl_regmap.proofs.MapTold.{AreParts, parts_are}
use Rattle.rdl_regmap.proofs.Made.{IsMap, Here, here, is_small, are_resets, are_wires}
use Rattle.rdl_regmap.proofs.Counts.{are_counters, are_interrupts, are_members}
use Rattle.rdl_regmap.proofs.Inputs.{IsInput, input_is, signals_apart, IsData, is_data}
use Rattle.rdl_regmap.proofs.Exprs.{are_in_range}
use Rattle.rdl_regmap.proofs.Places.{IsPlain, is_bus_of}
use Rattle.rdl_regmap.proofs.Standing.{are_in_words}

-- ---- there is a top

no_top_by : (before : List RdlItem) (y : RdlItem-F RdlItem RdlDef) → top_by before y ≡ None → can_be_top y ≡ false
no_top_by before (RdlItem-F.Def d) e = by (can_be_top (RdlItem-F.Def d)) refl
  where
    by : (b : Bool) → can_be_top (RdlItem-F.Def d) ≡ b → can_be_top (RdlItem-F.Def d) ≡ false
    by true t = let off = rw t at e in cc
    by false t = t
no_top_by before (RdlItem-F.Use u) e = refl
no_top_by before (RdlItem-F.Enum n) e = refl
no_top_by before (RdlItem-F.Default a b d) e = refl
no_top_by before (RdlItem-F.Prop a b) e = refl
no_top_by before (RdlItem-F.Dynamic a b d f) e = refl

pub no_top : (before xs : List RdlItem) → top_from before xs ≡ None → has_top xs ≡ false
no_top before [] e = refl
no_top before (x ∷ xs) e = elim (option_case (top_from (before ++ x ∷ []) xs)) [
  | OptionCase.IsSome m t ↦ let off = rw t at e in cc
  | OptionCase.IsNone t ↦ rw (no_top_by before (out-RdlItem x) (rw t at e)) (no_top (before ++ x ∷ []) xs t)
]

-- ---- its registers

pub is_plain : (file : RdlFile) (top : Component) → IsFine file → top_of file ≡ Some top → IsPlain top
is_plain file top fine e = record {
  unlike = λ q u. fine.values q (inr (is_few file fine, inr (subst (λ (o : Option Component). IsUnlike (registers_below o) q) (sym e) u)));
  clash = λ q c. fine.places q (is_few file fine, inr (subst (λ (o : Option Component). IsClash (spots_of (registers_below o)) q) (sym e) c));
}

-- ---- its inputs

same_given : (a b : NamedField) → Some a ≡ Some b → a ≡ b
same_given a b e = cc

are_inputs : (top : Component) (words : List ℕ) (given : List NamedField) (fields : List Field) (inputs : List HwInput) → IsMap top words given fields → inputs ≡ inputs_of given → AreInputs fields inputs
are_inputs top words given fields inputs m same = record {
  signals = λ i j h k e f. signals_apart given i j h k (ap (λ (xs : List HwInput). slice_get xs i) (sym same) ∙ e) (ap (λ (xs : List HwInput). slice_get xs j) (sym same) ∙ f);
  sources = λ i k f h e d q.
      let r : Here top words given i f = here top words given fields m i f e in
      let x : IsData given k r.field = is_data given i k r.field r.at (sym r.is.rest.data_in ∙ d) in
      x.bits h (ap (λ (xs : List HwInput). slice_get xs k) (sym same) ∙ q) ∙ sym r.is.position.width;
  bits = λ k h f e q.
      let x : IsInput given 0 h = input_is 0 given h (subst (λ (xs : List HwInput). Has h xs) same (has_at inputs k h e)) in
      let r : Here top words given h.field f = here top words given fields m h.field f q in
      let n : h.field ≡ x.at = omega (arith, x.numbered) in
      let s : x.field ≡ r.field = same_given x.field r.field (sym x.here ∙ ap (slice_get given) (sym n) ∙ r.at) in
      x.width ∙ ap (λ (g : NamedField). input_width h.signal g.spot.width) s ∙ ap (input_width h.signal) (sym r.is.position.width);
}

pub orderly : (file : RdlFile) (m : Parts) → IsFine file → IsMapOf file m → IsOrderly m
orderly file m fine is = elim (option_case (top_of file)) [
  | OptionCase.IsNone e ↦ absurd (fine.names file.end (inr (ap not (no_top [] file.items e), refl)))
  | OptionCase.IsSome top e ↦
      let parts : AreParts top m.words.items is.given = parts_are file top m.words.items is.given fine e is.words is.order in
      let all : IsMap top m.words.items is.given m.fields.items = record { parts = parts; from = is.fields } in
      let plain : IsPlain top = is_plain file top fine e in
      let bus : m.bus_width ≡ bus_of (registers_below (Some top)) = is.bus_width ∙ ap (λ (o : Option Component). bus_of (registers_below o)) e in
      record {
        bus = subst (λ n. IsBus n m.words.items) (sym bus) (is_bus_of top m.words.items is.given parts plain is.words.order);
        in_words = subst (λ n. AreInWords n m.words.items m.fields.items) (sym bus) (are_in_words top m.words.items is.given m.fields.items all plain is.words.order is.order.order);
        fits = are_resets top m.words.items is.given m.fields.items all;
        in_range = are_in_range top m.words.items is.given m.fields.items m.inputs.items all is.inputs;
        own_inputs = are_inputs top m.words.items is.given m.fields.items m.inputs.items all is.inputs;
        wires = are_wires top m.words.items is.given m.fields.items all;
        counters = are_counters top m.words.items is.given m.fields.items all;
        interrupts = are_interrupts top m.words.items is.given m.fields.items all;
        members = are_members top m.words.items is.given m.fields.items all;
        small = is_small top m.words.items is.given m.fields.items all;
      }
]
