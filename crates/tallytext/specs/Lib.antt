pub mod Text
pub mod Replies
pub mod Pieces
pub mod Laws
pub mod Words
