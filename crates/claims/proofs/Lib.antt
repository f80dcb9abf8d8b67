pub mod Claims
pub mod Permission
