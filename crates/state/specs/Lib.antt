pub mod State
pub mod Valid
pub mod Layout
pub mod IsValid
