pub mod Truth
