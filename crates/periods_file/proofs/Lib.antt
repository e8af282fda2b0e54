pub mod ReadRows
pub mod Known
