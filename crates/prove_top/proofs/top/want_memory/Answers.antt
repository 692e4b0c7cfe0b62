use Rattle.prove_top.proofs.EndLemmas.{put-part}
use Rattle.prove_top.proofs.top.want_memory.Goals as goal

pub returns-clause-written : goal.returns-clause-written
returns-clause-written g c = put-part c.put.result _ _ _ c.put.ensures.appended c.put.ensures.prefix_after_err
