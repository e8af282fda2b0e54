pub mod LockFreeRuns
pub mod LockFreeSolving
pub mod MethodName
pub mod Tightness
-- the names of all of them
pub mod Prelude
