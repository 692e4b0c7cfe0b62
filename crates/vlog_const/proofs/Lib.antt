pub mod Decimals
pub mod SizedLemmas
