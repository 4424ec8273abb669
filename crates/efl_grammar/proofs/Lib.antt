-- The lemmas of efl_grammar.
mod Examples
mod TokenLemmas
mod Taken
mod Readings
mod Steps
mod ExpressionsRead
mod DeclarationsRead
mod StatementsRead
mod AllSteps
pub mod ProcedureRead
mod ExpressionsFound
mod DeclarationsFound
mod OuterFound
mod ActsFound
mod StatementLemmas
mod PartsFound
mod StatementsFound
mod ProgramsFound
mod Published
mod AnswersPublished
