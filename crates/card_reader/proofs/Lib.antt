-- The lemmas of card_reader.
pub mod ColumnLemmas
pub mod RecordLemmas
pub mod ReadLemmas
