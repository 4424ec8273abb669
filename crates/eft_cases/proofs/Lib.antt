-- The lemmas of eft_cases.
mod PieceLemmas
