use Rattle.std.proofs.Common.{◌∙◌, arith, subst, length, List, ℕ}
use Rattle.reg_machine.specs.Conditions.{edge_of}
use Rattle.reg_machine.specs.Nexts.{AreNext}
use Rattle.reg_machine.specs.States.{state_of}
use Rattle.reg_machine.proofs.NextLemmas.{next_all, next_fits}
use Rattle.reg_machine.proofs.machine.Machine.step.Goals as goal

-- the new state, over the machine's own values
next : (c : goal.After-replace_all) → AreNext (edge_of c.args.map.now c.args.self.now.values.items c.args.hw.now c.args.event) c.args.self.now.values.items c.args.self.now.used.items c.args.self.now.known.items
    (length c.args.map.now.fields.items) c.step_flags.new.next c.step_flags.new.used.items c.step_flags.new.known.items
next c = subst (λ (values : List ℕ). AreNext (edge_of c.args.map.now values c.args.hw.now c.args.event) values c.args.self.now.used.items c.args.self.now.known.items
    (length c.args.map.now.fields.items) c.step_flags.new.next c.step_flags.new.used.items c.step_flags.new.known.items) c.as_slice.ensures.value c.step_flags.ensures.next

pub returns-clause-next : goal.returns-clause-next
returns-clause-next c = next_all (edge_of c.args.map.now c.args.self.now.values.items c.args.hw.now c.args.event) (state_of c.args.self.now) c.step_flags.new.next _ _ _
    c.requires.state.values_of.one_each (omega (arith, c.args.map.now.small.few_fields)) c.replace_all.ensures (c.step_flags.ensures.used_kept ∙ c.requires.state.used_of) (c.step_flags.ensures.known_kept ∙ c.requires.state.known_of) (next c)

pub returns-clause-state : goal.returns-clause-state
returns-clause-state c = next_fits (edge_of c.args.map.now c.args.self.now.values.items c.args.hw.now c.args.event) c.args.self.now.values.items _ _ c.step_flags.new.next _ _ _
    c.requires.state.values_of.one_each (omega (arith, c.args.map.now.small.few_fields)) c.replace_all.ensures (c.step_flags.ensures.used_kept ∙ c.requires.state.used_of) (c.step_flags.ensures.known_kept ∙ c.requires.state.known_of) (next c)
