-- The lemmas of legal_decks.
pub mod Printable
pub mod Codes
pub mod Classes
pub mod Linkages
