-- The lemmas of rat_grammar.
pub mod LineLemmas
pub mod Parts
pub mod Standing
pub mod ReservedWords
pub mod Derivations
pub mod ListsFound
pub mod ExampleTokens
mod Examples
mod TokenLemmas
mod Readings
mod Steps
mod Taken
mod ExpressionsRead
mod ExpressionsFound
mod PlainRead
pub mod StatementLemmas
mod StatementsRead
mod UnitsFound
mod UnitsRead
mod AllSteps
mod Published
mod WordsFound
mod DeclarationsFound
mod FormatsFound
mod EntriesFound
mod PlainFound
mod StatementsFound
pub mod Related
mod AnswersPublished
