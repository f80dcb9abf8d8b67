pub mod Samples
pub mod Permission
pub mod Running
pub mod Tie
pub mod Exports
