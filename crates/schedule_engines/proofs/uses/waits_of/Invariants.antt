use Rattle.fixed_worth.proofs.Common.{◌≡◌, ℕ, ◌+◌, ◌/◌, ◌%◌, ◌<◌, All, length}
use Rattle.prec_file.specs.Rests.{IsKnown}
use Rattle.schedule_engines.specs.Uses.{IsBlock, first_pairs, use_in}
use Rattle.schedule_engines.proofs.uses.waits_of.Given as goal

abbrev pub invariant-loop-i : goal.invariant-loop-i
invariant-loop-i l = record {
  size : length l.pairs.items ≡ l.i;
  listed : l.pairs.items ≡ first_pairs l.n (λ c b. use_in l.model (l.first + c) b) l.i;
  all : All (IsKnown l.n) l.pairs.items;
  known : (k : ℕ) → k < l.i → IsBlock l.n (use_in l.model (l.first + k / l.n) (k % l.n));
}
