pub mod Units
pub mod Cells
pub mod Shows
pub mod Writes
pub mod SeatViews
pub mod KeepsRule
pub mod Calls
