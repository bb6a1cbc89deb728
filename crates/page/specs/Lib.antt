pub mod Writing
pub mod Pages
pub mod Refusals
