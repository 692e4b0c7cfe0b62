use Rattle.std.proofs.Common.{◌≡◌, ◌∙◌, ap, length}
use Rattle.flat_sets.specs.Sets.{cleared}
use Rattle.flat_sets.proofs.SetLemmas.{cleared_none, cleared_nothing}
use Rattle.flat_sets.proofs.NumberSet.clear.Goals as goal

pub invariant_of-self-inside : goal.invariant_of-self-inside
invariant_of-self-inside c =
    let all : c.clear_members.new.table.items ≡ cleared c.self.inside.members.items c.self.inside.table.items = c.clear_members.ensures ∙ ap (λ l. cleared l c.self.inside.table.items) c.as_slice.ensures.value in (
      cleared_none (length c.self.inside.table.items) c.self.inside.table.items _ c.self.inside.members.items _ c.self.inside.emptied all c.clear.ensures.items,
      (cleared_nothing (length c.self.inside.table.items) c.self.inside.table.items _ c.self.inside.members.items _ c.self.inside.emptied all c.clear.ensures.items, tt),
    )
