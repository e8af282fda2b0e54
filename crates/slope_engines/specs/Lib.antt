-- `slopes`, and what reduced pairs decide
pub mod Slopes
pub mod Reduced
