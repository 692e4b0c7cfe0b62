use Rattle.std.proofs.Common.{◌≡◌, not, take, filter}
use Rattle.vlog_parse.specs.Top.{is_among, instances_of}
use Rattle.vlog_parse.proofs.Tops.{listed}
use Rattle.vlog_parse.proofs.top.one_top.Given as goal

abbrev pub invariant-loop-module : goal.invariant-loop-module
invariant-loop-module l = filter (λ m. not (is_among (instances_of l.modules) m.name.text)) (take l.module-index l.modules) ≡ listed l.found
