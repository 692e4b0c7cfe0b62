use Rattle.std.proofs.Common.{sym, ◌∙◌}
use Rattle.rdl_text.specs.declared.text.Check.TheVariants as check
use Rattle.rdl_text.specs.Refusals.{IsFault}
use Rattle.rdl_effects.specs.declared.effect.Effect.TheVariants as effect
use Rattle.rdl_effects.specs.Refusals.{IsConflict}
use Rattle.rdl_elab.specs.Refusals.{IsFew}
use Rattle.rdl_elab.proofs.Firsts.{either, counts, passed}
use Rattle.rdl_elab.proofs.description.first_property.Goals as goal

pub returns-then-many : goal.returns-then-many
returns-then-many c = passed c.args.file.now (IsFault check.Properties c.args.file.now) (IsConflict effect.Properties c.args.file.now) _ (sym c.requires ∙ c.if-many.true) c.in_ok-text.ensures

pub returns : goal.returns
returns c =
    rw c.earlier_of.ensures (either (IsFault check.Properties c.args.file.now) (λ p. IsFew c.args.file.now × IsConflict effect.Properties c.args.file.now p) _ _
    c.in_ok-text.ensures (counts c.args.file.now (IsConflict effect.Properties c.args.file.now) _ (sym c.requires ∙ c.if-many.false) c.in_ok-effect.ensures))
