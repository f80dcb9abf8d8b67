pub mod Steps
pub mod Laws
pub mod Joins
pub mod Numbers
pub mod Replies
pub mod Other
