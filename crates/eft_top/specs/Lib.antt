-- The definitions that the contracts of eft_top cite.
pub mod Codes
pub mod Lines
pub mod Words
pub mod Reading
pub mod Input
pub mod Delivery
pub mod Outcome
pub mod Causes
pub mod Laws
pub mod Report
pub mod Story
