-- `solve`, and which solver makes the flow
pub mod Methods
-- the values of options
pub mod WholeNumbers
pub mod OptionWords
pub mod PatternWords
