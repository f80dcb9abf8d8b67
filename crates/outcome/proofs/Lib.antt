pub mod Effects
pub mod Follows
pub mod Policies
pub mod Propagation
pub mod Refusals
pub mod Stays
pub mod Steps
pub mod Table
