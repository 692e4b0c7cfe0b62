use Rattle.std.proofs.Common.{take}
use Rattle.vlog_parse.specs.Top.{instances_of}
use Rattle.vlog_parse.specs.Met.{Meets}
use Rattle.vlog_parse.proofs.top.instantiated.Given as goal

abbrev pub invariant-loop-module : goal.invariant-loop-module
invariant-loop-module l = Meets l.initial.met (instances_of (take l.module-index l.modules)) l.met
