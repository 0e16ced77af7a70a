pub mod Spans
pub mod Numbers
pub mod Raw
pub mod Kinds
pub mod Rules
pub mod Keeping
pub mod Words
pub mod Spots
