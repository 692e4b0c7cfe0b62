use Rattle.std.proofs.Common.{ℕ, length-append, ◌∙◌, arith, Vec, Global}
use Rattle.std.proofs.lemmas.Result.{err_from_is_err_and}
use Rattle.prove_top.proofs.GatherLemmas.{answer-step, calls-step, reads-halted, reads-all, reads-wanting-memory}
use Rattle.prove_top.proofs.gather.fetch_all.Goals as goal

pub returns-in_err-push-in-Ok-clause-calls : goal.returns-in_err-push-in-Ok-clause-calls
returns-in_err-push-in-Ok-clause-calls g c =
    let p = err_from_is_err_and c.from_residual.result c.from_residual.ensures.1 in
    rw (p.1, p.2)
    (reads-wanting-memory _ _ c.args.wanted.now c.loop-want.want-index
    (calls-step _ _ _ c.args.wanted.now c.loop-want.want-index _ c.in-Ok.bytes c.loop-want-test.true c.want-item.is
    c.loop-want.invariant.calls c.in-Ok.ensures.calls))

pub returns-in-Err-clause-calls : goal.returns-in-Err-clause-calls
returns-in-Err-clause-calls g c =
    reads-halted (Vec (Vec ℕ Global) Global) _ _ _ c.args.wanted.now c.loop-want.want-index _ c.in-Err.halt
    c.loop-want-test.true c.want-item.is c.loop-want.invariant.calls c.in-Err.ensures.calls

pub loop-want-preserved : goal.loop-want-preserved
loop-want-preserved g c = record {
  files = c.in-Ok.ensures.files ∙ c.loop-want.invariant.files;
  answer = rw c.in_ok-push-in-Ok.ensures.items
      (answer-step _ c.args.wanted.now c.loop-want.want-index _ _ c.in-Ok.bytes c.loop-want-test.true c.want-item.is
      c.loop-want.invariant.answer (rw c.loop-want.invariant.files at c.in-Ok.ensures.answer));
  calls = calls-step _ _ _ c.args.wanted.now c.loop-want.want-index _ c.in-Ok.bytes c.loop-want-test.true c.want-item.is
      c.loop-want.invariant.calls c.in-Ok.ensures.calls;
  length = rw c.in_ok-push-in-Ok.ensures.items (simp length-append (omega arith));
  count = omega (arith, c.in-Ok.ensures.count);
}

pub returns-clause-calls : goal.returns-clause-calls
returns-clause-calls g c = reads-all _ _ c.args.wanted.now c.loop-want.want-index c.loop-want-test.false c.loop-want.invariant.calls
