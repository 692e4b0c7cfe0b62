pub mod Signals
pub mod Given
pub mod Extras
pub mod Fields
pub mod Maps
