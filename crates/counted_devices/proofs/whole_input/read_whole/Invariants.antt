use Rattle.fixed_worth.proofs.Common.{◌≡◌, ◌-◌, ◌≤◌, length, vec_len, Consumes}
use Rattle.counted_devices.specs.declared.whole_input.TheConstants.{PIECE}
use Rattle.counted_devices.proofs.whole_input.read_whole.Given as goal

abbrev pub invariant-loop-text : goal.invariant-loop-text
invariant-loop-text g l =
    Consumes (g.R.Read.remaining l.initial.from) (g.R.Read.remaining l.from) l.text.items
    × (g.R.CountedRead.failed l.from ≡ g.R.CountedRead.failed l.initial.from)
    × (length l.piece ≡ PIECE)
    × (vec_len l.text ≤ l.limit)

abbrev pub decreases-loop-text : goal.decreases-loop-text
decreases-loop-text g l = l.limit - vec_len l.text
