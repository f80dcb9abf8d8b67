pub mod Question
pub mod Replies
pub mod Laws
pub mod Finding
