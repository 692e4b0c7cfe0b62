use Rattle.std.proofs.Common.{◌⊎◌, List, Contains, ◌∙◌, subst}
use Rattle.rdl_layout.specs.declared.register.Register.{Register}
use Rattle.rdl_layout.specs.Registers.{registers_of, misplaced_of}
use Rattle.rdl_words.specs.Words.{spots_of}
use Rattle.rdl_words.specs.Clashes.{IsClash}
use Rattle.rdl_elab.specs.Firsts.{IsFirstOf}
use Rattle.rdl_elab.proofs.Firsts.{either, counts, listed}
use Rattle.rdl_elab.proofs.description.first_place_of.Goals as goal

pub returns : goal.returns
returns c =
    let clash : IsFirstOf (IsClash (spots_of (registers_of c.args.file.now))) c.in_ok-clash.clash =
    subst (λ (rs : List Register). IsFirstOf (IsClash (spots_of rs)) c.in_ok-clash.clash) (c.as_slice-2.ensures.value ∙ c.requires.registers) c.in_ok-clash.ensures in
    rw c.earlier_of.ensures
    (counts c.args.file.now (λ p. Contains (misplaced_of c.args.file.now) p ⊎ IsClash (spots_of (registers_of c.args.file.now)) p) _ c.requires.few
    (either (λ p. Contains (misplaced_of c.args.file.now) p) (IsClash (spots_of (registers_of c.args.file.now))) _ _
    (listed (misplaced_of c.args.file.now) _ _ (c.as_slice.ensures.value ∙ c.requires.misplaced) c.first_of-misplaced.ensures.first c.first_of-misplaced.ensures.none)
    clash))
