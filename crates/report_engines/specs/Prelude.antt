-- The names of this crate that its proofs and the crates above it use, each from its own file.
pub use Rattle.report_engines.specs.ReportParts.{AreSmallAmounts, AreWayColumns, IsPricedModel, IsReportRead, IsSaid}
pub use Rattle.report_engines.specs.ReportParts.{PricedModelFails, ReadsRests, RestsReadFail, SaidFails, IsWayColumn}
pub use Rattle.report_engines.specs.ReportParts.{blocks_with, report_columns_by, regions_among, report_list}
pub use Rattle.report_engines.specs.ReportParts.{tonnes_going, tonnes_if, way_in, ways_among}
pub use Rattle.report_engines.specs.ReportTexts.{ReportBlocksRead, ReportKeysKnown, ReportMineFails, report_blocks}
pub use Rattle.report_engines.specs.ReportTexts.{report_columns, report_keys}
pub use Rattle.report_engines.specs.Reports.{AnswersReport, IsReport, ReportFails, Reports}
