-- Places whose numbers are of 32 bits, as every place's are.
use Rattle.std.specs.Prelude.{◌<◌}
use Rattle.bit_base.specs.declared.place.Place.{Place}

pub record IsNumbered (p : Place) : Type 0 where
  pub file : p.file < 4294967296
  pub line : p.line < 4294967296
  pub column : p.column < 4294967296
