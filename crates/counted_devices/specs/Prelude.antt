-- The names of this crate that its proofs and the crates above it use, each from its own file.
pub use Rattle.counted_devices.specs.Device.{CountedDevice, FailingDevice, GaveAtMost, GaveMoreThan, PutFailed}
pub use Rattle.counted_devices.specs.Device.{ReceivedPrefix, SentOrHeld, count_after, write_fails}
pub use Rattle.counted_devices.specs.DeviceFaults.{input_fault_name, write_fault_name}
