-- What only the functions of this crate say to one another: rows as they grow block by block.
use Rattle.std.specs.Prelude.{◌≡◌, ℕ, ◌+◌, ◌≤◌, ℤ, pos, ◌+ℤ◌, ◌==◌, cond, Option, Some, None, unwrap_or, FitsSigned}
use Rattle.std.specs.Int.{w128}
use Rattle.ordered_group.specs.Sets.{worth_in, count_in}
use Rattle.bench_report.specs.declared.bench_row.BenchRow.{BenchRow}
use Rattle.bench_report.specs.declared.report_fault.ReportFault.{ReportFault}
use Rattle.bench_report.specs.declared.report_fault.ReportFault.TheVariants.{WrongModel, TooLarge, NoMemory}
use Rattle.bench_report.specs.Benches.{ReportedBlocks, blocks_at}
use Rattle.bench_report.specs.Faults.{BenchSumsFit, SomeBenchSumOverflows}

-- the row of a bench and a shell, of the blocks below n
abbrev pub row_below : ReportedBlocks → ℤ → ℕ → ℕ → BenchRow
row_below m z k n = record {
  z = z;
  shell = k;
  blocks = count_in (blocks_at m z k) n;
  tonnes = worth_in m.tonnes
      (blocks_at m z k) n;
  worth = worth_in m.worth (blocks_at m z k) n;
}

-- the row of a bench and a shell with no block
abbrev pub no_blocks : ℤ × ℕ → BenchRow
no_blocks q = record { z = q.0; shell = q.1; blocks = 0; tonnes = pos 0; worth = pos 0 }

-- the row with one block more
abbrev pub with_block : BenchRow → ℤ → ℤ → BenchRow
with_block r tonnes worth = record
    { z = r.z; shell = r.shell; blocks = r.blocks + 1; tonnes = r.tonnes +ℤ tonnes; worth = r.worth +ℤ worth }

-- the row that is found, or one with no block
abbrev pub row_at : (ℤ × ℕ → Option BenchRow) → ℤ × ℕ → BenchRow
row_at found q = unwrap_or (found q) (no_blocks q)

-- a row that has a block
abbrev pub if_filled : BenchRow → Option BenchRow
if_filled r = cond (r.blocks == 0) None (Some r)

-- the numbers of a row with one block more are of 128 bits
abbrev pub RowTakesBlock : BenchRow → ℤ → ℤ → Type 0
RowTakesBlock r tonnes worth = FitsSigned w128 (r.tonnes +ℤ tonnes) × FitsSigned w128 (r.worth +ℤ worth)

-- why a block isn't added
abbrev pub AddFaultStands : BenchRow → ℤ → ℤ → ReportFault → Type 0
AddFaultStands r tonnes worth WrongModel = ⊥
AddFaultStands r tonnes worth TooLarge = ¬ (RowTakesBlock r tonnes worth)
AddFaultStands r tonnes worth NoMemory = Unit {0}

-- The rows of the blocks below n are found by bench and shell, and each of their sums fits on the way.
pub record IsTallied (m : ReportedBlocks) (n : ℕ) (found : ℤ × ℕ → Option BenchRow) : Type 0 where
  pub rows : (z : ℤ) (k : ℕ) → found (z, k) ≡ if_filled (row_below m z k n)
  pub fits : (z : ℤ) (k j : ℕ) → j ≤ n → BenchSumsFit m z k j

-- why the blocks aren't tallied
abbrev pub TallyFaultStands : ReportedBlocks → ReportFault → Type 0
TallyFaultStands m WrongModel = ⊥
TallyFaultStands m TooLarge = SomeBenchSumOverflows m
TallyFaultStands m NoMemory = Unit {0}
