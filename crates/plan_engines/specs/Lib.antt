-- what is to be solved of the texts of devices
pub mod PlansToSolve
-- what is written of the expanded mine where it is solved
pub mod PlanSolving
-- the names of all of them
pub mod Prelude
