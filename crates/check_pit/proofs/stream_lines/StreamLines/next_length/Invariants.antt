use Rattle.fixed_worth.proofs.Common.{◌≡◌, ℕ, ◌+◌, ◌-◌, eqb, Some, position}
use Rattle.fixed_worth.specs.declared.limits.TheConstants.{MOST_BYTES}
use Rattle.check_pit.specs.StreamLines.{ReadsSome}
use Rattle.check_pit.proofs.stream_lines.StreamLines.next_length.Given as goal

abbrev pub invariant-loop-self : goal.invariant-loop-self
invariant-loop-self g l = record {
  reads : ReadsSome g.R.Read.remaining l.initial.self l.self;
  kept : g.R.CountedRead.failed l.self.from
      ≡ g.R.CountedRead.failed l.initial.self.from;
  still : (count : ℕ)
      → position (λ b. eqb b 10) l.initial.self.held ≡ Some count → l.self ≡ l.initial.self;
}

abbrev pub decreases-loop-self : goal.decreases-loop-self
decreases-loop-self g l = MOST_BYTES + 1 - l.self.taken
