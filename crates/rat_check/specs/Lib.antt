-- The definitions that the contracts of rat_check cite.
pub mod Parts
pub mod Said
pub mod LongTexts
pub mod Rules
pub mod FirstFault
pub mod FormViews
pub mod PartViews
pub mod Survey
