pub mod FieldStep
pub mod Graphs
pub mod Laws
pub mod SeenGates
pub mod StepGraphs
