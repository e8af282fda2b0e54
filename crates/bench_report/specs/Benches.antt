-- The bench table: which rows it has, and what each of them says of the blocks of one bench and one shell.
use Rattle.std.specs.Prelude.{◌≡◌, ℕ, ◌<◌, ℤ, pos, ◌==◌, ◌&&◌, Bool, false, Option, Some, None, List, [], map}
use Rattle.std.specs.Prelude.{slice_index_or}
use Rattle.std.specs.List.{All, Contains}
use Rattle.std.specs.List.Sorted.{IsStrictlySortedBy}
use Rattle.std.specs.declared.cmp.Ordering.{Ordering}
use Rattle.std.specs.Ordering.{int_cmp, int_eq, nat_cmp, ordering_then}
use Rattle.blocks_file.specs.Denotes.{BlocksView, origin}
use Rattle.ordered_group.specs.Sets.{worth_in, count_in}
use Rattle.shells.specs.Series.{SeriesView, shell_at}
use Rattle.bench_report.specs.declared.bench_row.BenchRow.{BenchRow}

-- How many blocks there are, and of each its height, its shell if it has one, its tonnes in millionths and its worth in
-- billionths.
pub record ReportedBlocks : Type 0 where
  pub blocks : ℕ
  pub height : ℕ → ℤ
  pub shell : ℕ → Option ℕ
  pub tonnes : ℕ → ℤ
  pub worth : ℕ → ℤ

-- The blocks of a model, with its heights and one of its columns, the shells of a series, and worths.
abbrev pub reported_blocks : BlocksView → SeriesView → ℕ → List ℤ → ReportedBlocks
reported_blocks model series column worths = record {
  blocks = model.blocks;
  height = λ b. (slice_index_or model.places b origin).z;
  shell = shell_at series.shells;
  tonnes = λ b. slice_index_or (slice_index_or model.columns column []) b (pos 0);
  worth = λ b. slice_index_or worths b (pos 0);
}

-- whether there is a shell, and it is k
abbrev pub is_shell : Option ℕ → ℕ → Bool
is_shell None k = false
is_shell (Some x) k = x == k

-- the blocks on the bench z in the shell k
abbrev pub blocks_at : ReportedBlocks → ℤ → ℕ → ℕ → Bool
blocks_at m z k b = int_eq (m.height b) z && is_shell (m.shell b) k

-- A row has a block, and counts and adds up all blocks of its bench and its shell.
pub record IsBenchRow (m : ReportedBlocks) (r : BenchRow) : Type 0 where
  pub some : 0 < r.blocks
  pub number : r.blocks ≡ count_in (blocks_at m r.z r.shell) m.blocks
  pub tonnage : r.tonnes ≡ worth_in m.tonnes (blocks_at m r.z r.shell) m.blocks
  pub value : r.worth ≡ worth_in m.worth (blocks_at m r.z r.shell) m.blocks

-- a row's bench and shell
abbrev pub bench_and_shell : BenchRow → ℤ × ℕ
bench_and_shell r = (r.z, r.shell)

-- lower benches first, and on a bench lower shells first
abbrev pub by_bench : ℤ × ℕ → ℤ × ℕ → Ordering
by_bench x y = ordering_then (int_cmp x.0 y.0) (nat_cmp x.1 y.1)

-- The table: each row is that of its bench and shell, no two rows have the same ones, and each block with a shell is in
-- a row.
pub record IsBenchTable (m : ReportedBlocks) (rows : List BenchRow) : Type 0 where
  pub each : All (IsBenchRow m) rows
  pub rising : IsStrictlySortedBy by_bench (map bench_and_shell rows)
  pub every : (b k : ℕ) → b < m.blocks → m.shell b ≡ Some k → Contains (map bench_and_shell rows) (m.height b, k)

-- two tables of the same blocks are the same
abbrev pub TablesAreOne : Type 0
TablesAreOne = (m : ReportedBlocks) (rows others : List BenchRow) → IsBenchTable m rows → IsBenchTable m others → rows ≡ others
