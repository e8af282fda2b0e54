-- what blocks use and for which they wait, by columns of a model
pub mod Uses
-- the texts of periods, of what blocks use, and of a schedule
pub mod PlanTexts
-- what blocks use by each way
pub mod WayUses
-- the production that texts denote, and what a schedule of it comes to
pub mod Schedules
-- the ways that blocks go by it, and what they are worth and use by these
pub mod Choice
-- the lines that tell it
pub mod ScheduleLines
-- how a fault prints
pub mod FaultText
-- the devices of these texts
pub mod PlanDevices
-- the names of all of them
pub mod Prelude
