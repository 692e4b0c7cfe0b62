use Rattle.std.proofs.Common.{take, drop, refl, sym, ◌∙◌, ◌+◌, subst}
use Rattle.vlog_parse.specs.LeftOut.{HasNoneLeftOut}
use Rattle.std.proofs.lemmas.List.{take_all}
use Rattle.vlog_parse.specs.LeftOut.{is_left_out}
use Rattle.vlog_parse.proofs.Fronts.{split_at, none_more}
use Rattle.vlog_parse.proofs.left_out.first_left_out.Goals as goal

pub loop-token-preserved : goal.loop-token-preserved
loop-token-preserved c = none_more is_left_out c.args.tokens.now c.loop-token.token-index c.token-item.result c.loop-token-test.true c.token-item.is c.loop-token.invariant (sym c.is_left_out.ensures ∙ c.if-is_left_out.false)

pub returns-then-is_left_out : goal.returns-then-is_left_out
returns-then-is_left_out c = record {
  front = take c.loop-token.token-index c.args.tokens.now;
  token = c.token-item.result;
  more = drop (c.loop-token.token-index + 1) c.args.tokens.now;
  split = split_at c.args.tokens.now c.loop-token.token-index c.token-item.result c.loop-token-test.true c.token-item.is;
  here = refl;
  left_out = sym c.is_left_out.ensures ∙ c.if-is_left_out.true;
  none = c.loop-token.invariant;
}

pub returns : goal.returns
returns c = subst HasNoneLeftOut (take_all c.loop-token.token-index c.args.tokens.now c.loop-token-test.false) c.loop-token.invariant
