pub mod Growing
pub mod Redacted
