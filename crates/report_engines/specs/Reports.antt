-- How the engine of `report` ends, by the bytes of its inputs and of its output.
use Rattle.std.specs.Prelude.{◌≡◌, ℕ, Bool, List, [], Contains, Option, Result}
use Rattle.closure_net.specs.Mine.{IsBest}
use Rattle.bench_report.specs.declared.bench_row.BenchRow.{BenchRow}
use Rattle.bench_report.specs.Prelude.{IsBenchTable, bench_text, way_count}
use Rattle.check_engines.specs.declared.judgement.Verdict.{Verdict}
use Rattle.check_engines.specs.declared.judgement.Verdict.TheVariants.{Done, No}
use Rattle.engine_faults.specs.declared.engine_fault.EngineFault.{EngineFault}
use Rattle.option_words.specs.declared.effort.Effort.{Effort}
use Rattle.mine_inputs.specs.Prelude.{table_of, PrecedenceBy, is_sloped, texts_by, DenoteMine}
use Rattle.shell_engines.specs.declared.series_outputs.Wanted.{Wanted}
use Rattle.shell_engines.specs.Prelude.{factors_said, FailsBy, Ends, mine_at_factor, IsTableWanted, way_said, AreNested}
use Rattle.shell_engines.specs.Prelude.{DenoteSeries, IsNoTable, NoNetAt}
use Rattle.report_engines.specs.ReportTexts.{ReportBlocksRead, report_blocks, ReportMineFails}

-- The texts denote a mine at each factor, the pits at the factors of the settings are the best ones, each of them lies
-- within the next, and this text is the bench table of the blocks in their shells; where ways are wanted, with the
-- tonnes that go each way at the factor of the report.
pub record IsReport (ways : Bool) (settings blocks : List ℕ) (precedence : PrecedenceBy) (text : List ℕ) : Type 0 where
  pub size : ℕ
  pub mine : (factor : ℕ) → DenoteMine (texts_by settings blocks precedence factor) size
  pub read : ReportBlocksRead (is_sloped precedence) settings blocks
  pub pit : ℕ → ℕ → Bool
  pub best : (k : ℕ) → Contains (factors_said settings) k → IsBest (mine_at_factor size settings blocks precedence k)
      (pit k)
  pub nested : AreNested (mine_at_factor size settings blocks precedence)
  pub rows : List BenchRow
  pub table : IsBenchTable (report_blocks size settings blocks pit) rows
  pub spelled : text ≡ bench_text ways (report_blocks size settings blocks pit) (way_said settings blocks)
      (way_count (table_of settings blocks)) rows

-- the table of blocks, where one is wanted, and the text that answer for them
abbrev pub AnswersReport : List ℕ → List ℕ → PrecedenceBy → Effort → Wanted → Verdict → List ℕ → List ℕ → Type 0
AnswersReport settings blocks precedence effort wanted Done table text = IsReport wanted.ways settings blocks
    precedence text × IsTableWanted wanted settings blocks precedence table
AnswersReport settings blocks precedence effort wanted No table text = ReportBlocksRead (is_sloped precedence)
    settings blocks × IsNoTable settings blocks precedence effort text × (table ≡ [])

-- why the engine answers a fault: it stands, and none before it does
abbrev pub ReportFails : List ℕ → List ℕ → PrecedenceBy → EngineFault → Type 0
ReportFails settings blocks precedence = FailsBy (ReportMineFails settings blocks precedence)
    (ReportBlocksRead (is_sloped precedence) settings blocks × DenoteSeries settings blocks precedence)
    (λ fault. ReportBlocksRead (is_sloped precedence) settings blocks × NoNetAt settings blocks precedence fault)

-- the answer, and what was written with it
abbrev pub Reports : List ℕ → List ℕ → PrecedenceBy → Effort → Wanted → Option (List ℕ) → Option (List ℕ)
    → Option (List ℕ) → Option (List ℕ) → Result Verdict EngineFault → Type 0
Reports settings blocks precedence effort wanted = Ends (AnswersReport settings blocks precedence effort wanted)
    (ReportFails settings blocks precedence)
