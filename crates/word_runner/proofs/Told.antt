-- What a seat's own numbers are after a turn.
use Rattle.fixed_worth.proofs.Common.{◌≡◌, ℕ, [], replicate, Bool, false, List, get_or, arith, common_steps}
use Rattle.atomic_table.specs.declared.shared.Seat.{Seat}
use Rattle.machine_law.specs.declared.operations.Operation.{Operation}
use Rattle.machine_law.specs.declared.operations.Operation.TheVariants.{Idle}
use Rattle.word_steps.specs.declared.view.View.{View}
use Rattle.word_steps.specs.Prelude.{count, width, after, first_view, labels_after, stopped_after, HasTurned, IsSame}
use Rattle.word_runner.specs.Prelude.{Own, WordsView, IsTold, IsFirst}

pub told_next : (s s' : Seat (Unit {0}) View) (labels labels' : List ℕ) (block b : ℕ) (o o' : Operation ℕ)
    (stopped stopped' : Bool) (x : ℕ) → IsTold s labels block o stopped → HasTurned b s.me.0 x s'.me.0 → IsSame s s'
    → labels' ≡ labels_after labels b o → o' ≡ after s.me.0.net b (get_or labels b 0) o x
    → stopped' ≡ stopped_after o x → IsTold s' labels' b o' stopped'
told_next s s' labels labels' block b o o' stopped stopped' x h t e el eo es = grind (arith, common_steps)

-- and before the first step
pub first_seat : (w : WordsView) (s : Own) → s.place.table_id ≡ w.shared.table_id
    → w.shared.table_id.words ≡ width w.shared.key → s.place.me ≡ (first_view w.shared.key, [])
    → s.labels ≡ replicate (count w.shared.key) 0 → s.block ≡ 0 → s.operation ≡ Idle → s.stopped ≡ false
    → IsFirst w 0 1 s
first_seat w s table words me labels block operation stopped = grind (arith, common_steps)
