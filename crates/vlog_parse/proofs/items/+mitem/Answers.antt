use Rattle.std.proofs.Common.{◌-◌, Err, sym, ◌∙◌, ap, subst, arith}
use Rattle.parsing.specs.Reads.{Reads}
use Rattle.vlog_parse.specs.Nesting.{stmt_in, mitem_in, mitem_with}
use Rattle.vlog_parse.proofs.Rooms.{mitem_over, mitem_down, level_ok, level_err}
use Rattle.vlog_parse.proofs.items.+mitem.Goals as goal

pub mitem-returns-in-Ok : goal.mitem-returns-in-Ok
mitem-returns-in-Ok t c =
    let h = level_ok c.args.levels 1056 c.level_below.result c.level_below.ensures c.in-Ok.inner c.in-Ok.is in
    let e = mitem_down c.args.room c.args.levels c.args.tokens.now (omega arith) h.0
    ∙ ap (λ n. mitem_with c.args.room (stmt_in c.args.room n) (mitem_in (c.args.room - 1) n) c.args.tokens.now) (sym h.1) in
    subst (λ o. Reads o c.mitem_of.result c.mitem_of.new.tokens) (sym e) c.mitem_of.ensures

pub mitem-returns-in-Err : goal.mitem-returns-in-Err
mitem-returns-in-Err t c =
    let h = level_err c.args.levels 1056 c.level_below.result c.level_below.ensures c.in-Err.stop c.in-Err.is in
    subst (λ s. Reads (mitem_in c.args.room c.args.levels c.args.tokens.now) (Err s) c.args.tokens.now) (sym h.1) (mitem_over c.args.room c.args.levels c.args.tokens.now (omega arith) h.0)
