pub mod Replay
pub mod Replies
pub mod Steps
pub mod Begin
pub mod Laws
pub mod Joins
pub mod Running
