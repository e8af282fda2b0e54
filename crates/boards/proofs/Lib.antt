pub mod FurtherTurns
pub mod Alone
pub mod Ends
pub mod Records
pub mod Audits
