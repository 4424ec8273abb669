-- The definitions of plain_decks.
pub mod Few
pub mod Bytes
