pub mod Ranking
pub mod Sorted
pub mod Laws
pub mod Turns
pub mod Judged
