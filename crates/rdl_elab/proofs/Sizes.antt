-- What is too large is refused as a whole.
use Rattle.std.proofs.Common.{◌≡◌, inl, inr, Bool, true, false, List, length, map, refl, sym, ap, subst, ◌∙◌}
use Rattle.std.proofs.lemmas.Bool.{true≢false}
use Rattle.std.proofs.lemmas.Option.{same_Some}
use Rattle.std.proofs.lemmas.List.{length-map}
use Rattle.bit_base.specs.declared.place.Place.{Place}
use Rattle.bit_base.specs.Places.{is_before}
use Rattle.bit_base.proofs.Places.{not_before_itself}
use Rattle.rdl_tree.specs.declared.tree.RdlFile.{RdlFile}
use Rattle.rdl_effects.specs.Limits.{has_too_many}
use Rattle.rdl_layout.specs.declared.register.Register.{Register}
use Rattle.rdl_layout.specs.Registers.{registers_of}
use Rattle.rdl_words.specs.declared.word.Word.{Word}
use Rattle.rdl_words.specs.Words.{spot, spots_of}
use Rattle.rdl_elab.specs.Firsts.{IsFirstOf}
use Rattle.rdl_elab.specs.Refusals as spec

pub counted : (ws : List Word) (rs : List Register) → map spot ws ≡ spots_of rs → length ws ≡ length (spots_of rs)
counted ws rs e = sym (length-map ws spot) ∙ ap length e

pub sized : (file : RdlFile) (t : Bool) → (t ≡ true → spec.IsLarge file) → (t ≡ false → spec.IsLarge file → ⊥) → IsFirstOf (spec.IsSize file) (spec.whole_if t)
sized file true large small = record {
  some = λ p e. (large refl, sym (same_Some spec.whole p e));
  first = λ p q e h. subst (λ (x : Place). is_before q x ≡ false) (same_Some spec.whole p e) (subst (λ (x : Place). is_before x spec.whole ≡ false) (sym h.1) (not_before_itself spec.whole));
  none = λ q e h. cc;
}
sized file false large small = record { some = λ p e. cc; first = λ p q e h. cc; none = λ q e h. small refl h.0 }

pub many_sized : (file : RdlFile) → has_too_many file ≡ true → IsFirstOf (spec.IsSize file) (spec.whole_if true)
many_sized file many = sized file true (λ e. inl many) (λ e h. true≢false e)

pub few_sized : (file : RdlFile) (t : Bool) → spec.IsFew file → t ≡ spec.is_large (registers_of file) → IsFirstOf (spec.IsSize file) (spec.whole_if t)
few_sized file t few same = sized file t (λ e. inr (sym same ∙ e)) (λ e h. elim h [ inl many ↦ true≢false (sym many ∙ few) | inr over ↦ true≢false (sym over ∙ sym same ∙ e) ])
