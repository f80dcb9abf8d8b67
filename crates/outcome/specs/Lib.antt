pub mod Outcome
pub mod Table
pub mod Steps
pub mod Effects
