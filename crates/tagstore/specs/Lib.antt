pub mod Store
pub mod Laws
pub mod Starting
