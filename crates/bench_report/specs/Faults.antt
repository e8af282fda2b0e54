-- When there is no bench table, and how that prints.
use Rattle.std.specs.Prelude.{◌≡◌, ℕ, ◌≤◌, ℤ, List, length, FitsSigned, codes}
use Rattle.std.specs.Int.{w128}
use Rattle.blocks_file.specs.Denotes.{BlocksView}
use Rattle.ordered_group.specs.Sets.{worth_in}
use Rattle.shells.specs.Prelude.{priced_count, SeriesView}
use Rattle.bench_report.specs.declared.report_fault.ReportFault.{ReportFault}
use Rattle.bench_report.specs.declared.report_fault.ReportFault.TheVariants.{WrongModel, TooLarge, NoMemory}
use Rattle.bench_report.specs.Benches.{ReportedBlocks, blocks_at}
use Rattle.bench_report.specs.declared.write_fault.ReportWriteFault.{ReportWriteFault}
use Rattle.bench_report.specs.declared.write_fault.ReportWriteFault.TheVariants as write

-- the series and the worths are of as many blocks as the model
pub record SameLengths (model : BlocksView) (series : SeriesView) (worths : List ℤ) : Type 0 where
  pub of_shells : priced_count series.prices ≡ model.blocks
  pub of_worths : length worths ≡ model.blocks

-- the tonnes and the worths of the first blocks of a bench and a shell, those below j, add up to numbers of 128 bits
abbrev pub BenchSumsFit : ReportedBlocks → ℤ → ℕ → ℕ → Type 0
BenchSumsFit m z k j = FitsSigned w128 (worth_in m.tonnes (blocks_at m z k) j)
    × FitsSigned w128 (worth_in m.worth (blocks_at m z k) j)

-- the sums of every bench and shell fit after each block
abbrev pub AllSumsFit : ReportedBlocks → Type 0
AllSumsFit m = (z : ℤ) (k j : ℕ) → j ≤ m.blocks → BenchSumsFit m z k j

-- some sum of a bench and a shell doesn't fit after some block
abbrev pub SomeBenchSumOverflows : ReportedBlocks → Type 0
SomeBenchSumOverflows m = (z : ℤ) × (k : ℕ) × (j : ℕ) × (j ≤ m.blocks) × ¬ (BenchSumsFit m z k j)

-- why there are no rows
abbrev pub ReportFaultStands : BlocksView → SeriesView → List ℤ → ReportedBlocks → ReportFault → Type 0
ReportFaultStands model series worths m WrongModel = ¬ (SameLengths model series worths)
ReportFaultStands model series worths m TooLarge = SameLengths model series worths × SomeBenchSumOverflows m
ReportFaultStands model series worths m NoMemory = SameLengths model series worths

-- the name
abbrev pub report_fault_text : ReportFault → List ℕ
report_fault_text WrongModel = codes "WrongModel"
report_fault_text TooLarge = codes "TooLarge"
report_fault_text NoMemory = codes "NoMemory"

-- the name
abbrev pub report_write_fault_text : ReportWriteFault → List ℕ
report_write_fault_text write.Device = codes "Device"
report_write_fault_text write.NoMemory = codes "NoMemory"
