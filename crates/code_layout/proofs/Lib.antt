-- The lemmas of code_layout.
pub mod RankLemmas
pub mod ExtentLemmas
pub mod NameLemmas
pub mod OrderLemmas
pub mod PresetLemmas
pub mod UnplacedLemmas
pub mod LaidLemmas
pub mod InitialLemmas
pub mod RankedLemmas
pub mod SpreadLemmas
pub mod TableLemmas
pub mod CallLemmas
pub mod KeptLemmas
pub mod ShallowLemmas
pub mod CompileLemmas
pub mod EnterLemmas
