pub mod EventLines
pub mod Parts
pub mod Puts
pub mod RoundTrip
pub mod Steps
