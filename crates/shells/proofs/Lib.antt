pub mod Greatest
pub mod Rising
pub mod Factors
pub mod Pushes
pub mod Shells
