-- The statements that are put are those that the definition gives.
--
--   code so far ++ code of what is left  =  code before ++ code of the whole list or of all clauses
--
-- While a list is gone through, this equation holds before any statements behind (SoFar in Blocks, ClausesSoFar in Members): a
-- member moves from the right of the first line to its left. The tests of a switch go into one list and its bodies into
-- another, so there are two such equations. Labels are made in a fixed order that depends on the labels of the source alone
-- (MadeLabels), and what is made is counted beside. The calls end because each goes to a smaller part (Sizes).
pub mod Sizes
pub mod Blocks
pub mod Members
pub mod MadeLabels
pub mod SpareNames
pub mod Unswitched
pub mod Units
