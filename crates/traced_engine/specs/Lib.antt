pub mod TracedRuns
pub mod RoomWord
