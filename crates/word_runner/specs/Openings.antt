-- The words and the seats of a run before its first step, and why there are none.
use Rattle.std.specs.Prelude.{◌≡◌, ℕ, ◌<◌, ◌⊎◌, List, [], length}
use Rattle.ordered_group.specs.Amount.{AtMost}
use Rattle.closure_net.specs.Network.{NetView}
use Rattle.machine_law.specs.Conservation.{all_given}
use Rattle.machine_law.specs.declared.operations.Operation.TheVariants.{Idle}
use Rattle.word_runner.specs.declared.turns.WordTurn.TheVariants.{TooLarge}
use Rattle.word_runner.specs.declared.words_fault.WordsFault.{WordsFault}
use Rattle.word_runner.specs.declared.words_fault.WordsFault.TheVariants as fault
use mathlib.Core.Option.{some}
use lib.ListN.{get_elem?}
use Rattle.word_steps.specs.Layout.{units}
use Rattle.word_runner.specs.Seats.{WordsView, Own, IsServing}
use Rattle.word_runner.specs.CutNets.{AreWithin, IsCutNet}

-- the seat is the one of this number, before its first step
pub record IsFirst (w : WordsView) (number workers : ℕ) (s : Own) : Type 0 where
  pub serving : IsServing w.shared number workers s number
  pub free : s.operation ≡ Idle
  pub none : s.place.me.0.made ≡ []

-- these are all seats, before their first steps
pub record AreFirst (w : WordsView) (workers : ℕ) (seats : List Own) : Type 0 where
  pub size : length seats ≡ workers
  pub each : (k : ℕ) (s : Own) → get_elem? seats k ≡ some s → IsFirst w k workers s

-- the words are those of a net that is this one cut at the total, and the seat serves all blocks
pub record IsBegun (net : NetView) (workers : ℕ) (w : WordsView) (s : Own) : Type 0 where
  pub cut : IsCutNet net w.cut
  pub within : AreWithin w.cut w.total
  pub workers_are : w.workers ≡ workers
  pub small : AtMost (all_given net) (units 9223372036854775807)
  pub first : IsFirst w 0 1 s

-- The words are those of a net that is this one cut at the total, with a seat for each worker before its first step. So
-- the words are opened only where what the source gives is below 2^63 units.
-- By `cut` and `within` together a block of the cut net gives the sink the lesser of what the net's block does and the
-- total.
pub record AreOpenedSeats (net : NetView) (workers : ℕ) (w : WordsView) (seats : List Own) : Type 0 where
  pub cut : IsCutNet net w.cut
  pub within : AreWithin w.cut w.total
  pub workers_are : w.workers ≡ workers
  pub small : AtMost (all_given net) (units 9223372036854775807)
  pub all : AreFirst w workers seats

-- the number of workers is wrong
abbrev pub AreNeitherOneNorTwo : ℕ → Type 0
AreNeitherOneNorTwo workers = (workers < 1) ⊎ (2 < workers)

-- why there are no words of the net for one or two workers
abbrev pub OpeningFaultStands : NetView → WordsFault → Type 0
OpeningFaultStands net fault.BadWorkers = ⊥
OpeningFaultStands net fault.TooLarge = AtMost (units 9223372036854775808) (all_given net)
OpeningFaultStands net fault.NoMemory = Unit {0}

-- why there are none for so many
abbrev pub WordsFaultStands : NetView → ℕ → WordsFault → Type 0
WordsFaultStands net workers fault.BadWorkers = AreNeitherOneNorTwo workers
WordsFaultStands net workers fault.TooLarge = ¬ (AreNeitherOneNorTwo workers)
    × AtMost (units 9223372036854775808) (all_given net)
WordsFaultStands net workers fault.NoMemory = ¬ (AreNeitherOneNorTwo workers)
