-- the check of a pit and a flow, and what an accepted pit is
pub mod Checks
pub mod Fits
pub mod Accepted
-- what acceptance proves, and what a proved pit can be refused for
pub mod Duality
pub mod Tightness
-- the check line by line: what is held and read of a stream
pub mod StreamView
pub mod StreamBytes
pub mod StreamLines
pub mod TakenLines
-- its header, the sums over its lines, and the verdict
pub mod StreamHeaders
pub mod CertStreams
pub mod LineSums
pub mod LineLaws
pub mod Rooms
pub mod StreamChecks
-- parts of a check: closedness, balances, a list of blocks
pub mod Closing
pub mod Balances
pub mod PitLists
-- how faults print
pub mod FaultText
-- the names of all of them
pub mod Prelude
