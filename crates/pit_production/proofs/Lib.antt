pub mod Part
pub mod Relisted
