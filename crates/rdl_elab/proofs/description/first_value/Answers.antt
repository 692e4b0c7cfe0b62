use Rattle.std.proofs.Common.{◌⊎◌}
use Rattle.rdl_text.specs.declared.text.Check.TheVariants as check
use Rattle.rdl_text.specs.Refusals.{IsFault}
use Rattle.rdl_effects.specs.declared.effect.Effect.TheVariants as effect
use Rattle.rdl_effects.specs.Refusals.{IsConflict}
use Rattle.rdl_layout.specs.Registers.{registers_of}
use Rattle.rdl_elab.specs.Unlike.{IsUnlike}
use Rattle.rdl_elab.proofs.Firsts.{passed}
use Rattle.rdl_elab.proofs.description.first_value.Goals as goal

pub returns-in_ok-text-in-None : goal.returns-in_ok-text-in-None
returns-in_ok-text-in-None c =
    passed c.args.file.now (IsFault check.Values c.args.file.now) (λ p. IsConflict effect.Values c.args.file.now p ⊎ IsUnlike (registers_of c.args.file.now) p) _
    (rw c.in-None.is at c.requires) c.in_ok-text-in-None.ensures
