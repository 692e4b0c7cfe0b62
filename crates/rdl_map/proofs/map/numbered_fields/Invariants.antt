use Rattle.std.proofs.Common.{◌≡◌, ◌*◌, ◌≤◌, drop}
use Rattle.rdl_map.specs.Fields.{are_told}
use Rattle.rdl_map.proofs.Numbered.{Completes}
use Rattle.rdl_map.proofs.map.numbered_fields.Given as goal

abbrev pub invariant-loop-at : goal.invariant-loop-at
invariant-loop-at l = record {
  so_far : Completes l.words l.fields l.at l.base l.out.items;
  told : are_told l.words l.fields l.base (drop l.at l.fields) ≡ are_told l.words l.fields 0 l.fields;
  bound : l.base ≤ 9 * l.at;
}
