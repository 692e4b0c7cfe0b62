pub mod EachPlace
pub mod Remainders
pub mod SignLemmas
pub mod LogarithmLemmas
pub mod ShiftLemmas
