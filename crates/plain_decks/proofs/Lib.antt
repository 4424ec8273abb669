-- The lemmas of plain_decks.
pub mod Numbers
pub mod Operands
pub mod Formats
pub mod Texts
pub mod Shapes
pub mod Units
pub mod Bytes
