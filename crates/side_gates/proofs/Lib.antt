pub mod SideLaws
pub mod SourceLaws
