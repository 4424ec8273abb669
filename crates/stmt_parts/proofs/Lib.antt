-- The lemmas of stmt_parts.
pub mod ListLemmas
pub mod SlashLemmas
pub mod TreeLemmas
pub mod EntryLemmas
pub mod RecordLemmas
