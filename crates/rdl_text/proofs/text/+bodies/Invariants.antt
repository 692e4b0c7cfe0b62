use Rattle.std.proofs.Common.{◌↔◌, ◌⊎◌, Contains}
use Rattle.bit_base.specs.declared.place.Place.{Place}
use Rattle.rdl_text.specs.Chains.{nows}
use Rattle.rdl_text.proofs.Bodies.{InsideBelow}
use Rattle.rdl_text.proofs.text.+bodies.Given as goal

abbrev pub invariant-note_body-loop-at : goal.invariant-note_body-loop-at
invariant-note_body-loop-at l = (p : Place) → Contains l.out.items p ↔ (Contains l.initial.out.items p ⊎ InsideBelow l.check (nows l.outer) l.items l.at p)
