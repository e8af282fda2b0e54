use Rattle.std.proofs.Common.{length}
use Rattle.fixed_worth.specs.declared.limits.TheConstants.{MOST_BLOCKS}
use Rattle.fixed_worth.specs.Record.{lines_in}
use Rattle.blocks_file.proofs.Counts.{Counted}
use Rattle.blocks_file.proofs.counting.count_records.Given as goal

abbrev pub invariant-loop-line : goal.invariant-loop-line
invariant-loop-line l = Counted (lines_in l.text) MOST_BLOCKS l.count l.extra l.lines

abbrev pub decreases-loop-line : goal.decreases-loop-line
decreases-loop-line l = length l.lines.lines
