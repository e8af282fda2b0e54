use Rattle.fixed_worth.proofs.Common.{◌≡◌, ℕ, ◌*◌, ◌<◌, length}
use Rattle.periods_file.specs.Periods.{periods_view}
use Rattle.schedule_engines.specs.WayUses.{ReadsPart}
use Rattle.schedule_engines.proofs.way_uses.way_uses_in.Given as goal

abbrev pub invariant-loop-way : goal.invariant-loop-way
invariant-loop-way l = record {
  some : 0 < l.way;
  size : length l.amounts.items ≡ l.way * (length l.periods.shared.items * l.n);
  each : (k : ℕ) → k < l.way → ReadsPart l.n l.ways (periods_view l.periods) l.text l.amounts.items k;
}
