pub mod Model
pub mod Reach
pub mod Bench
pub mod Closure
pub mod Standing
pub mod Histories
pub mod Propositions
