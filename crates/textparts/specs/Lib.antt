pub mod Bytes
pub mod Shapes
pub mod Spans
pub mod Tokens
pub mod Laws
pub mod View
