use Rattle.std.proofs.Common.{◌≡◌, ◌∙◌, sym, arith, ap, length}
use Rattle.std.specs.Prelude.{Some, false, slice_get}
use Rattle.flat_sets.proofs.SetLemmas.{was_out, counted_push, emptied_push}
use Rattle.flat_sets.proofs.NumberSet.add.Goals as goal

pub invariant_of-self-inside-2 : goal.invariant_of-self-inside-2
invariant_of-self-inside-2 c =
    let out : slice_get c.self.inside.table.items c.args.number ≡ Some false = was_out c.self.inside.table.items c.args.number c.index.result.now (omega (arith, ap length c.self.view_is)) (sym c.index.ensures ∙ c.if-index.false) in (
      counted_push c.self.inside.table.items c.self.inside.members.items _ c.args.number out c.in_ok-push.ensures.items c.self.inside.counted,
      (emptied_push c.self.inside.table.items c.self.inside.members.items _ c.args.number out c.in_ok-push.ensures.items c.self.inside.emptied, tt),
    )
