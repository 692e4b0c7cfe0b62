use Rattle.std.proofs.Common.{refl}
use Rattle.std.proofs.lemmas.Option.{slice_get_read}
use Rattle.machine_tests.proofs.edges.only_field.Goals as goal

pub returns : goal.returns
returns c = slice_get_read _ _ _ _ refl c.requires c.index.ensures
