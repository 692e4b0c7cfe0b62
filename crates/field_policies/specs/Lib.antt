pub mod Bits
pub mod Expressions
pub mod FieldPath
pub mod Fields
pub mod Maps
pub mod Policies
