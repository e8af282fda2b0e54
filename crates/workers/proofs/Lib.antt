pub mod RunEnds
pub mod AuditEnds
