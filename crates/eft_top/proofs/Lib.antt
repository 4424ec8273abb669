-- The lemmas of eft_top.
mod ReadWords
mod Statuses
mod StepNumbers
mod OctalDigits
mod Delivery
mod Reports
mod Decks
mod Runs
