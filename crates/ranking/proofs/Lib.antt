pub mod Relation
pub mod Places
pub mod Laws
