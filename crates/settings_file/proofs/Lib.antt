pub mod ReadArrays
pub mod Known
pub mod MissingKeys
pub mod FewWays
