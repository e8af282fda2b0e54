-- a flow that is certified, and what is written for a net
pub mod Certification
pub mod NetAnswers
-- `solve`, and which solver makes the flow
pub mod Solving
-- amounts of few digits
pub mod Small
-- a certificate that was found without a list of pairs
pub mod Placed
-- the names of all of them
pub mod Prelude
