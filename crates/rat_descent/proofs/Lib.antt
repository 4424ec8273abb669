-- The lemmas of rat_descent.
pub mod Productions
pub mod ListItems
pub mod FormatLemmas
pub mod TransferLemmas
pub mod StatementLists
pub mod Bodies
