use Rattle.std.proofs.Common.{◌⊎◌, List, ◌∙◌, subst}
use Rattle.rdl_text.specs.declared.text.Check.TheVariants as check
use Rattle.rdl_text.specs.Refusals.{IsFault}
use Rattle.rdl_effects.specs.declared.effect.Effect.TheVariants as effect
use Rattle.rdl_effects.specs.Refusals.{IsConflict}
use Rattle.rdl_layout.specs.declared.register.Register.{Register}
use Rattle.rdl_layout.specs.Registers.{registers_of}
use Rattle.rdl_elab.specs.Firsts.{IsFirstOf}
use Rattle.rdl_elab.specs.Unlike.{IsUnlike}
use Rattle.rdl_elab.specs.Refusals.{IsFew}
use Rattle.rdl_elab.proofs.Firsts.{either, counts}
use Rattle.rdl_elab.proofs.description.first_value_of.Goals as goal

pub returns : goal.returns
returns c =
    let unlike : IsFirstOf (IsUnlike (registers_of c.args.file.now)) c.in_ok-unlike.unlike =
    subst (λ (rs : List Register). IsFirstOf (IsUnlike rs) c.in_ok-unlike.unlike) (c.as_slice.ensures.value ∙ c.requires.registers) c.in_ok-unlike.ensures in
    rw (c.earlier_of-2.ensures, c.earlier_of.ensures)
    (either (IsFault check.Values c.args.file.now) (λ p. IsFew c.args.file.now × (IsConflict effect.Values c.args.file.now p ⊎ IsUnlike (registers_of c.args.file.now) p)) _ _
    c.in_ok-text.ensures
    (counts c.args.file.now (λ p. IsConflict effect.Values c.args.file.now p ⊎ IsUnlike (registers_of c.args.file.now) p) _ c.requires.few
    (either (IsConflict effect.Values c.args.file.now) (IsUnlike (registers_of c.args.file.now)) _ _ c.in_ok-effect.ensures unlike)))
