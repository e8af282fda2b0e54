-- devices that count their failures
pub mod Device
-- how faults print
pub mod DeviceFaults
-- the names of all of them
pub mod Prelude
