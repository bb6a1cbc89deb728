pub mod NameOrder
pub mod Entries
pub mod Spelling
pub mod Tables
pub mod Book
pub mod Lives
pub mod Sheets
pub mod Requests
