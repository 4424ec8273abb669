-- The lemmas of rat_check.
pub mod PartLemmas
pub mod StatementLemmas
pub mod SurveyLemmas
pub mod LoopLemmas
pub mod RuleLemmas
pub mod CleanLemmas
pub mod SaidLemmas
mod ShortTexts
mod Examples
