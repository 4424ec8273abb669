-- The definitions that the contracts of legal_decks cite.
pub mod Legal
pub mod Laws
