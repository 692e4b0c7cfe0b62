pub mod Laws
pub mod RegMaps
