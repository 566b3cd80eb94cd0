pub mod Encodings
pub mod EncodingLaws
