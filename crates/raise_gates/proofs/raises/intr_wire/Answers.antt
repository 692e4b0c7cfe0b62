use Rattle.std.proofs.Common.{◌≡◌, [], refl, ap, sym, ◌∙◌}
use Rattle.std.proofs.lemmas.Result.{IfOk-weaker}
use Rattle.field_policies.specs.Fields.{members_of}
use Rattle.gate_graph.proofs.GateLemmas.{extends_none, means_zero}
use Rattle.reg_machine.specs.Machines.{raises}
use Rattle.word_gates.proofs.ExactLemmas.{off_is}
use Rattle.raise_gates.specs.Raises.{raise_made}
use Rattle.raise_gates.proofs.RaiseLemmas.{members_are, no_members}
use Rattle.raise_gates.proofs.raises.intr_wire.Goals as goal

pub returns-in-Intr-clause-wire : goal.returns-in-Intr-clause-wire
returns-in-Intr-clause-wire c =
    IfOk-weaker c.raise_wire.result _ _ (λ w h e s. members_are _ w (λ v. raises (e v)) c.as_slice.result.now (members_of c.args.field.now.extra) (c.as_slice.ensures.value ∙ sym (ap members_of c.in-Intr.is)) (h e s)) c.raise_wire.ensures.wire

pub returns-in_default : goal.returns-in_default
unfolding raise_made
returns-in_default c =
    let none : members_of c.args.field.now.extra ≡ [] = no_members c.args.field.now.extra (λ k e. c.in_default.not-Intr k e) in
    record {
      nodes = extends_none _ _;
      of = (means_zero c.args.graph.now c.zero.result c.requires.given.zero c.zero.ensures.wire).of;
      wire = λ e s. rw none (means_zero c.args.graph.now c.zero.result c.requires.given.zero c.zero.ensures.wire);
      exact = rw (none, off_is c.zero.result c.zero.ensures.wire) refl;
    }
