use Rattle.std.proofs.Common.{◌-◌, Err, sym, ◌∙◌, ap, subst, arith}
use Rattle.parsing.specs.Reads.{Reads}
use Rattle.vlog_tree.specs.ReadStatements.{stmt_of}
use Rattle.vlog_parse.specs.Nesting.{stmt_in}
use Rattle.vlog_parse.proofs.Rooms.{stmt_over, stmt_down, level_ok, level_err}
use Rattle.vlog_parse.proofs.statements.+stmt.Goals as goal

pub stmt-returns-in-Ok : goal.stmt-returns-in-Ok
stmt-returns-in-Ok t c =
    let h = level_ok c.args.levels 0 c.level_below.result c.level_below.ensures c.in-Ok.inner c.in-Ok.is in
    let e = stmt_down c.args.room c.args.levels c.args.tokens.now (omega arith) h.0 ∙ ap (λ n. stmt_of c.args.room (stmt_in (c.args.room - 1) n) c.args.tokens.now) (sym h.1) in
    subst (λ o. Reads o c.stmt_of.result c.stmt_of.new.tokens) (sym e) c.stmt_of.ensures

pub stmt-returns-in-Err : goal.stmt-returns-in-Err
stmt-returns-in-Err t c =
    let h = level_err c.args.levels 0 c.level_below.result c.level_below.ensures c.in-Err.stop c.in-Err.is in
    subst (λ s. Reads (stmt_in c.args.room c.args.levels c.args.tokens.now) (Err s) c.args.tokens.now) (sym h.1) (stmt_over c.args.room c.args.levels c.args.tokens.now (omega arith) (omega (arith, h.0)))
