pub mod Put
pub mod Sheet
