pub mod OneInstance
pub mod OneFrame
pub mod Instances
pub mod Frames
pub mod Values
pub mod Accesses
pub mod Fields
pub mod Walks
