-- A bus word by its address, with the place of its register's instance in the text.
use Rattle.std.specs.Prelude.{ℕ}
use Rattle.bit_base.specs.declared.place.Place.{Place}

pub record Spot : Type 0 where
  pub address : ℕ
  pub place : Place
