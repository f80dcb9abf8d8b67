pub mod Bench
pub mod Closure
pub mod Histories
pub mod Propositions
pub mod Standing
