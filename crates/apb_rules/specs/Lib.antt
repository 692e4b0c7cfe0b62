pub mod Lines
pub mod Phases
pub mod Events
pub mod Drive
pub mod Legal
pub mod Master
pub mod Moves
