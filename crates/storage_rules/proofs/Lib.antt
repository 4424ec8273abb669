-- The lemmas of storage_rules.
pub mod EndLemmas
pub mod ReachLemmas
pub mod LabelLemmas
pub mod SizeLemmas
pub mod CommonLemmas
pub mod FirstLemmas
pub mod MismatchLemmas
pub mod RuleLemmas
pub mod PresetLemmas
pub mod TwiceLemmas
pub mod RepeatLemmas
pub mod PairLemmas
pub mod SeenLemmas
pub mod StepLemmas
