-- The lemmas of efl_reading.
pub mod ReadingLemmas
pub mod SiteLemmas
pub mod AloneLemmas
pub mod PresetLemmas
pub mod CountingLemmas
