pub mod Nets
pub mod Growing
pub mod Proving
pub mod Parting
pub mod Merging
pub mod Among
pub mod Summing
pub mod FewPairs
