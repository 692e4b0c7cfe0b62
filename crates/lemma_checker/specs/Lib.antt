pub mod Clauses
pub mod Pieces
pub mod Chains
pub mod Propagation
pub mod Checker
pub mod Laws
