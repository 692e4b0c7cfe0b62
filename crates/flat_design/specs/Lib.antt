pub mod Bits
pub mod Values
pub mod Reads
pub mod Statements
pub mod Flows
pub mod Systems
pub mod Laws
pub mod Prices
