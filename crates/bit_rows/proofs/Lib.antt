pub mod Words
pub mod Lowest
pub mod Columns
pub mod Flips
