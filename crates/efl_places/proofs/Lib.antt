-- The lemmas of efl_places.
pub mod RuleLemmas
pub mod ListLemmas
pub mod TypedLemmas
pub mod CallLemmas
pub mod StepLemmas
pub mod ExprLemmas
