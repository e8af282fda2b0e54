pub mod ReportParts
pub mod ReportTexts
pub mod Reports
-- the names of all of them
pub mod Prelude
