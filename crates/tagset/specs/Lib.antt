pub mod Set
pub mod Word
pub mod Laws
