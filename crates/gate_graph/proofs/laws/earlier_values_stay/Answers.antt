use Rattle.gate_graph.proofs.GrowthLemmas.{wire_value_kept}
use Rattle.gate_graph.proofs.laws.earlier_values_stay.Goals as goal

pub returns : goal.returns
returns c = λ s x old new g h keeps w of. wire_value_kept s x old new g h keeps w of
