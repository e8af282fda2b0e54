-- what is read where a bound is asked for beside a schedule
pub mod GapTexts
-- a schedule below a bound
pub mod Gaps
-- the lines that tell it, and what is written
pub mod GapLines
-- the names of all of them
pub mod Prelude
