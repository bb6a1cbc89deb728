pub mod Looking
pub mod Changing
