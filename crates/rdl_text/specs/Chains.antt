-- Where something stands in a description's text: for each body around it, outermost first, the items that stand there
-- before it. The description itself is the outermost body.
use Rattle.std.specs.Prelude.{List, map}
use Rattle.std.specs.Borrow.{Bor}
use Rattle.rdl_tree.specs.declared.tree.RdlItem.{RdlItem}

abbrev pub Chain : Type 0
Chain = List (List RdlItem)

abbrev pub nows : {A : Type 0} → List (Bor A) → List A
nows xs = map (λ x. x.now) xs
