pub mod Below
pub mod Bit
pub mod Laws
pub mod Equal
pub mod Word
