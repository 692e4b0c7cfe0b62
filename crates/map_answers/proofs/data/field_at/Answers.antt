use Rattle.std.proofs.Common.{◌≡◌, Some, slice_get, refl}
use Rattle.std.proofs.lemmas.Option.{slice_get_read}
use Rattle.reg_machine.proofs.Views.{field_of}
use Rattle.map_answers.proofs.data.field_at.Goals as goal

pub returns : goal.returns
returns c = let here : slice_get c.args.map.now.fields.items c.args.number ≡ Some c.index.result.now = slice_get_read _ _ _ _ refl c.requires.there c.index.ensures in
    record { here = here; field = field_of c.args.map.now c.args.number _ here }
