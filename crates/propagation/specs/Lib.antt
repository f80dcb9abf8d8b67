pub mod Pass
pub mod Bench
pub mod Exact
pub mod Found
pub mod Listed
pub mod Turns
