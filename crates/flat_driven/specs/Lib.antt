pub mod Driven
