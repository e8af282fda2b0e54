use Rattle.fixed_worth.proofs.Common.{◌≤◌, length, IfSome, unwrap_or}
use Rattle.fixed_worth.specs.declared.limits.TheConstants.{MOST_BLOCKS}
use Rattle.fixed_worth.specs.Record.{numbered_lines}
use Rattle.upit_file.specs.Records.{blocks_declared}
use Rattle.upit_file.proofs.HeaderLines.{Going}
use Rattle.upit_file.proofs.header.read_header.Given as goal

abbrev pub invariant-loop-text : goal.invariant-loop-text
invariant-loop-text l = record {
  going : Going (unwrap_or l.wanted (blocks_declared (numbered_lines 0 l.fn.lines.lines)))
      (numbered_lines 0 l.fn.lines.lines) l.name l.wanted l.counted l.lines;
  bound : IfSome l.counted (λ n. n ≤ MOST_BLOCKS);
}

abbrev pub decreases-loop-text : goal.decreases-loop-text
decreases-loop-text l = length l.lines.lines
