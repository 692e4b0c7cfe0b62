use Rattle.std.proofs.Common.{◌∙◌, ap}
use Rattle.std.specs.Prelude.{option_map, bytes_eq}
use Rattle.std.proofs.lemmas.Map.Text.{hash_map_updates_str}
use Rattle.vlog_prep.proofs.Table.{picked}
use Rattle.vlog_prep.proofs.macros.Macros.undefine.Goals as goal

pub returns : goal.returns
returns c = λ q.
    ap (option_map (λ r. r.now)) (hash_map_updates_str c.args.name.now c.args.self.now.table c.remove.new.self _ c.remove.ensures.updates q)
    ∙ picked (λ r. r.now) (bytes_eq c.args.name.now q) _ _
