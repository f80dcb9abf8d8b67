pub mod Exact
pub mod Turns
pub mod Bench
pub mod Copied
