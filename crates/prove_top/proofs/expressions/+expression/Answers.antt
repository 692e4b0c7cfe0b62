use Rattle.std.proofs.Common.{arith}
use Rattle.prove_top.proofs.ReadingLemmas.{expression_at-zero, reads-more}
use Rattle.prove_top.proofs.expressions.+expression.Goals as goal

pub expression-returns-then-room-eq0 : goal.expression-returns-then-room-eq0
expression-returns-then-room-eq0 t c = expression_at-zero c.args.room c.args.cursor.now (omega arith)

pub expression-returns : goal.expression-returns
expression-returns t c = reads-more c.args.room c.args.cursor.now _ _ (omega arith) c.form.ensures
