pub mod Flows
pub mod Comings
pub mod Answered
pub mod Again
