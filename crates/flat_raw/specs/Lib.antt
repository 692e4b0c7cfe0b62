pub mod Assigned
pub mod Nets
pub mod Paths
pub mod Table
pub mod Raw
