use Rattle.std.proofs.Common.{arith}
use Rattle.rdl_values.proofs.Rooms.{has_room}
use Rattle.rdl_values.proofs.field.lacks_room.Goals as goal

pub returns-else-width-lt64 : goal.returns-else-width-lt64
returns-else-width-lt64 c = has_room c.args.width c.args.number c.if-width-lt64.false (omega (arith, c.ranges.number.fits))
