pub mod Replies
pub mod Unjudged
pub mod UnjudgedLaws
pub mod Judged
pub mod UnjudgedBranches
