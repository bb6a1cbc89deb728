pub mod TwoFields
pub mod Named
