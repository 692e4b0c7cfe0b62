use Rattle.std.proofs.Common.{rules, ◌≡◌, replicate, []}
use Rattle.std.specs.Prelude.{false}
use Rattle.flat_sets.proofs.SetLemmas.{empty_counted, empty_emptied}
use Rattle.flat_sets.proofs.NumberSet.empty.Goals as goal

pub invariant_of-result : goal.invariant_of-result
invariant_of-result c =
    let none : c.new-members.result.items ≡ [] = search rules in
    let table : c.resize.new.self.items ≡ replicate c.args.bound false = search rules in
    (empty_counted c.args.bound _ _ table none, (empty_emptied c.args.bound _ _ table none, tt))
