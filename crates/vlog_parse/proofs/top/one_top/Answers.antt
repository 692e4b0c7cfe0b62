use Rattle.std.proofs.Common.{not, ◌∙◌, sym, ap}
use Rattle.vlog_parse.specs.Top.{is_among, instances_of}
use Rattle.vlog_parse.proofs.Tops.{no_top_of, one_of}
use Rattle.vlog_parse.proofs.top.one_top.Goals as goal

pub returns-then-is_some-clause-none : goal.returns-then-is_some-clause-none
returns-then-is_some-clause-none c =
    no_top_of c.args.file.now c.as_slice-modules.result.now c.loop-module.module-index c.module-item.result c.loop-module.found c.as_slice-modules.ensures c.loop-module-test.true c.module-item.is
    (ap (λ name. not (is_among (instances_of c.as_slice-modules.result.now) name)) (sym c.as_bytes.ensures) ∙ ap not (sym (c.in_ok-met.ensures c.as_bytes.result.now) ∙ sym c.has.ensures ∙ c.if-has.false))
    c.loop-module.invariant (sym c.is_some.ensures ∙ c.if-is_some.true)

pub returns-clause-one : goal.returns-clause-one
returns-clause-one c = one_of c.args.file.now c.as_slice-modules.result.now c.loop-module.module-index c.loop-module.found c.as_slice-modules.ensures c.loop-module-test.false c.loop-module.invariant
