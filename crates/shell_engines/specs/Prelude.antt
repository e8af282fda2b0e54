-- The names of this crate that its proofs and the crates above it use, each from its own file.
pub use Rattle.shell_engines.specs.Answering.{Ends, FailsBy, IsCutShort, WritesBothAtFault}
pub use Rattle.shell_engines.specs.BlockTables.{BlockTablesAreOne, IsBlockTable, IsTableIfAsked, IsTableWanted}
pub use Rattle.shell_engines.specs.BlockTables.{mine_at_factor, way_said}
pub use Rattle.shell_engines.specs.Devices.{ForSeries, InputsCanCount, NoInputFailed, NoOutputFailed, OutputsCanCount}
pub use Rattle.shell_engines.specs.Devices.{contents_in, failures_in, input_failures, is_asked, is_without}
pub use Rattle.shell_engines.specs.Devices.{output_failures, precedence_in, wanted_by}
pub use Rattle.shell_engines.specs.SeriesAnswers.{HasTableIfAsked, IsFaultOf, IsWant, TellsWhy}
pub use Rattle.shell_engines.specs.SeriesTexts.{IsSeriesRead, KeysKnown, SeriesMineFails, factor_by, factors_said}
pub use Rattle.shell_engines.specs.SeriesTexts.{last_of, report_factor, series_keys}
pub use Rattle.shell_engines.specs.Shells.{AnswersShells, AreNested, DenoteSeries, IsNoTable, IsShellTable, NoNetAt}
pub use Rattle.shell_engines.specs.Shells.{Shells, ShellsFail, shell_group}
