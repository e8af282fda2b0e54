pub mod ImpliedPairs
pub mod ListedWays
pub mod GridWays
pub mod Boxes
pub mod Sights
pub mod DeltaSteps
pub mod NodeWays
