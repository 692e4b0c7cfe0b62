use Rattle.std.proofs.lemmas.Map.Text.{hash_map_updates_str}
use Rattle.flat_raw.proofs.path.Paths.set.Goals as goal

pub returns : goal.returns
returns c = λ q. hash_map_updates_str c.args.path.now c.args.self.now.table c.insert.new.self _ c.in_ok-insert.ensures.updates q
