pub mod Cells
pub mod Sorted
