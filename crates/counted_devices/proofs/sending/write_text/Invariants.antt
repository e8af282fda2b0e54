use Rattle.fixed_worth.proofs.Common.{◌≡◌, ◌-◌, ◌≤◌, length, take, Appends}
use Rattle.counted_devices.proofs.sending.write_text.Given as goal

abbrev pub invariant-loop-done : goal.invariant-loop-done
invariant-loop-done g l =
    (l.done ≤ length l.text)
    × Appends (g.W.Write.contents l.initial.out) (g.W.Write.contents l.out) (take l.done l.text)
    × (g.W.CountedWrite.failed l.out ≡ g.W.CountedWrite.failed l.initial.out)

abbrev pub decreases-loop-done : goal.decreases-loop-done
decreases-loop-done g l = length l.text - l.done
