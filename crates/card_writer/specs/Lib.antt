-- The definitions that the contracts of card_writer cite.
pub mod Cards
