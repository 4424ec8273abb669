-- The lemmas of f66_flow.
mod Examples
pub mod PlaceLemmas
pub mod StackLemmas
pub mod NestLemmas
pub mod EarlierLemmas
