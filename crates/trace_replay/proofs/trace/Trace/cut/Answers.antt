use Rattle.std.proofs.Common.{◌∙◌, ap, sym, Vec, Bool, Global}
use Rattle.std.proofs.lemmas.List.{take-map}
use Rattle.trace_replay.specs.Trace.{lists_of}
use Rattle.trace_replay.proofs.trace.Trace.cut.Goals as goal

pub returns-clause-edges : goal.returns-clause-edges
returns-clause-edges c = ap lists_of c.truncate.ensures.items ∙ sym (take-map (λ (v : Vec Bool Global). v.items) c.args.edges c.args.self.now.edges.items)
