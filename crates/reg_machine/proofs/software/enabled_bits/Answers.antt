use Rattle.std.proofs.Common.{◌≡◌, ℕ, ◌/◌, ◌+◌, ◌&&◌, false, eqb, refl, sym, ◌∙◌, ap, slice_index}
use Rattle.std.proofs.lemmas.Bool.{ne_eqb}
use Rattle.std.proofs.lemmas.Grind.{get_or_default_zero}
use Rattle.apb_rules.specs.declared.event.BusEvent.{BusEvent}
use Rattle.apb_rules.specs.declared.event.BusEvent.TheVariants.{Nothing, Read, Write}
use Rattle.field_policies.specs.Bits.{bit}
use Rattle.field_policies.proofs.BitLemmas.{no_bits, same_bits}
use Rattle.reg_machine.specs.Steps.{is_write_of, strobe_of}
use Rattle.reg_machine.proofs.software.enabled_bits.Goals as goal

pub returns-else-address-index-clause-bits : goal.returns-else-address-index-clause-bits
returns-else-address-index-clause-bits c = λ values hw.
    let read : c.index.result.now ≡ slice_index c.args.map.now.words.items c.args.field.now.word = c.index.ensures ∙ get_or_default_zero _ _ _ c.requires.field.there in
    let unlike : eqb c.in-Write.address (slice_index c.args.map.now.words.items c.args.field.now.word) ≡ false = ne_eqb _ _ (λ e. c.if-address-index.false (e ∙ sym read)) in
    let none : is_write_of c.args.event (slice_index c.args.map.now.words.items c.args.field.now.word) ≡ false = ap (λ e. is_write_of e (slice_index c.args.map.now.words.items c.args.field.now.word)) c.in-Write.is ∙ unlike in
    same_bits c.args.field.now.width 0 _ _ (λ i h. ap (λ b. b && bit (strobe_of c.args.event) ((c.args.field.now.lsb + i) / 8)) (sym none)) (no_bits c.args.field.now.width)

not_write : (e : BusEvent) (a : ℕ) → ((x y z : ℕ) → e ≡ Write x y z → ⊥) → is_write_of e a ≡ false
not_write Nothing a h = refl
not_write (Read b) a h = refl
not_write (Write b p s) a h = absurd (h b p s refl)

pub returns-in_default-clause-bits : goal.returns-in_default-clause-bits
returns-in_default-clause-bits c = λ values hw. same_bits c.args.field.now.width 0 _ _ (λ i h. ap (λ b. b && bit (strobe_of c.args.event) ((c.args.field.now.lsb + i) / 8)) (sym (not_write c.args.event _ c.in_default.not-Write))) (no_bits c.args.field.now.width)
