use Rattle.std.proofs.Common.{◌≡◌, ℕ, ◌<◌, ◌≤◌, length}
use Rattle.closure_net.specs.Network.{holds_of}
use Rattle.shells.specs.Series.{shell_at, with_shell}
use Rattle.shells.proofs.marking.give_shells.Given as goal

abbrev pub invariant-loop-b : goal.invariant-loop-b
invariant-loop-b l = record {
  size : length l.shells ≡ length l.initial.shells;
  given : (c : ℕ) → c < l.b → shell_at l.shells c ≡ with_shell (shell_at l.initial.shells c) (holds_of l.pit c) l.k;
  left : (c : ℕ) → l.b ≤ c → shell_at l.shells c ≡ shell_at l.initial.shells c;
}
