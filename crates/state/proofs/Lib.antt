pub mod Fours
pub mod IsValid
pub mod Judging
pub mod LayoutLaws
