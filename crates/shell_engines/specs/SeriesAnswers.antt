-- What the functions of the engine say to one another: why there is no series, and its table of blocks.
use Rattle.std.specs.Prelude.{◌≡◌, ℕ, Bool, true, false, List, []}
use Rattle.shells.specs.Prelude.{priced_count, way_at, SeriesView, shell_at}
use Rattle.bench_report.specs.BlockShells.{blocks_text}
use Rattle.engine_faults.specs.declared.engine_fault.EngineFault.{EngineFault}
use Rattle.engine_faults.specs.declared.engine_fault.EngineFault.TheVariants as engine
use Rattle.engine_faults.specs.EngineFaults.{of_model}
use Rattle.solve_engines.specs.declared.solvers.Unsolved.{Unsolved}
use Rattle.solve_engines.specs.declared.solvers.Unsolved.TheVariants.{NoThread, Stranger}
use Rattle.series_pits.specs.declared.no_series.NoSeries.{NoSeries}
use Rattle.series_pits.specs.declared.no_series.NoSeries.TheVariants as none
use Rattle.series_pits.specs.ShellTable.{IsLineOf}

-- the fault where that is the reason why no pit is proved; and where memory is refused for the line that says the
-- reason
abbrev pub IsWant : Unsolved → EngineFault → Type 0
IsWant NoThread e = e ≡ engine.Thread
IsWant Stranger e = e ≡ engine.Stranger
IsWant _ e = e ≡ engine.Memory

-- the line that says why there is no series
abbrev pub TellsWhy : NoSeries → List ℕ → Type 0
TellsWhy (none.Unsolved factor why) text = IsLineOf factor why text
TellsWhy _ text = ⊥

-- the fault that says so
abbrev pub IsFaultOf : NoSeries → EngineFault → Type 0
IsFaultOf (none.Unsolved factor why) e = IsWant why e
IsFaultOf (none.Model factor fault) e = e ≡ of_model fault
IsFaultOf none.Memory e = e ≡ engine.Memory

-- the text has the shell of each block of a series where that is asked for (true), with its way at a factor where ways
-- are; and otherwise it is empty
abbrev pub HasTableIfAsked : (asked ways : Bool) → ℕ → SeriesView → List ℕ → Type 0
HasTableIfAsked true ways factor series text = text ≡ blocks_text ways (shell_at series.shells)
    (way_at series.prices factor) (priced_count series.prices)
HasTableIfAsked false ways factor series text = text ≡ []
