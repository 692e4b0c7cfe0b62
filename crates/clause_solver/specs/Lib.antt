pub mod Walks
pub mod Analyses
pub mod Solver
