use Rattle.std.proofs.Common.{arith, refl, ap, length, ◌∙◌}
use Rattle.std.proofs.lemmas.Option.{slice_get_read}
use Rattle.rdl_text.specs.Chains.{nows}
use Rattle.rdl_text.proofs.Bodies.{more_inside, all_inside, inside_def}
use Rattle.rdl_text.proofs.text.+bodies.Goals as goal

pub note_inside-returns-in_ok-chain-in-Some : goal.note_inside-returns-in_ok-chain-in-Some
note_inside-returns-in_ok-chain-in-Some t c = inside_def _ _ _ _ _ _ _ _ _ _ _ c.in-Some.ensures (ap nows c.as_slice.ensures.value ∙ c.in_ok-chain-in-Some.ensures) c.of-kind.ensures c.as_slice-items.ensures c.note_body.ensures

pub note_body-loop-at-preserved : goal.note_body-loop-at-preserved
note_body-loop-at-preserved t c = more_inside _ _ _ _ _ _ _ _ (slice_get_read c.args.items.now (length c.args.items.now) c.loop-at.at _ refl (omega (arith, c.loop-at-test.true, c.loop-at.auto)) c.index-items-at.is) c.loop-at.invariant c.in_ok-note_inside.ensures

pub note_body-returns : goal.note_body-returns
note_body-returns t c = all_inside _ _ _ _ _ _ _ c.loop-at.at c.in_ok-note_own.ensures (omega (arith, c.loop-at-test.false, c.loop-at.auto)) c.loop-at.invariant
