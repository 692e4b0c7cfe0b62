use Rattle.std.proofs.Common.{◌⊎◌, Contains}
use Rattle.rdl_layout.specs.Registers.{registers_of, misplaced_of}
use Rattle.rdl_words.specs.Words.{spots_of}
use Rattle.rdl_words.specs.Clashes.{IsClash}
use Rattle.rdl_elab.proofs.Firsts.{nothing}
use Rattle.rdl_elab.proofs.description.first_place.Goals as goal

pub returns-in-None : goal.returns-in-None
returns-in-None c = nothing c.args.file.now (λ p. Contains (misplaced_of c.args.file.now) p ⊎ IsClash (spots_of (registers_of c.args.file.now)) p) (rw c.in-None.is at c.requires)
