-- From the outcome over a net to the outcome over a mine's texts, and to the answer.
use Rattle.std.proofs.Common.{ℕ, ℤ, Bool, List, subst, Option, Err, inr}
use Rattle.ordered_group.specs.Amount.{Amount}
use Rattle.ordered_group.specs.declared.groups.Group.{Group}
use Rattle.prec_file.specs.Rests.{RestsView}
use Rattle.closure_net.specs.Faults.{WorthsFaultStands}
use Rattle.closure_net.specs.declared.net.NetFault.{NetFault}
use Rattle.closure_net.specs.declared.net.NetFault.TheVariants as net_fault
use Rattle.machine_law.specs.declared.events.Event.{Event}
use Rattle.engine_faults.specs.declared.engine_fault.EngineFault.{EngineFault}
use Rattle.engine_faults.specs.declared.engine_fault.EngineFault.TheVariants as engine
use Rattle.check_engines.specs.Prelude.{LineFails, IsGroupNamed}
use Rattle.mine_inputs.specs.Prelude.{MineTexts, AreRead}
use Rattle.engine_faults.specs.Prelude.{of_model}
use Rattle.check_engines.proofs.Judged.{worths_fail}
use Rattle.replay_engines.specs.declared.outcome.Outcome.{Outcome}
use Rattle.replay_engines.specs.Prelude.{ReadsTrace, outcome_text, ComesOf, IsReplay, NothingComes, Replays}

-- there is no net of the mine
pub no_net : (block : ℤ → ℕ → Amount) (counts : Bool) (texts : MineTexts) (name : Group) (rests : RestsView)
    (worths : List ℤ) (fault : NetFault) → AreRead texts worths rests → IsGroupNamed name block counts
    → WorthsFaultStands block rests.blocks worths fault → NothingComes texts name (of_model fault)
no_net block counts texts name rests worths net_fault.WrongLength a named f = (
  rests.blocks,
  a.mine,
  worths_fail name block counts texts rests.blocks worths net_fault.WrongLength a.worths
      named f,
)
no_net block counts texts name rests worths net_fault.TooLarge a named f =
    (rests.blocks, a.mine, worths_fail name block counts texts rests.blocks worths net_fault.TooLarge a.worths named f)
no_net block counts texts name rests worths net_fault.NoMemory a named f = tt

-- the events are those of the trace
pub replayed : (texts : MineTexts) (name : Group) (trace : List ℕ) (events : List Event) (outcome : Outcome)
    → ComesOf texts name events outcome → ReadsTrace trace events → IsReplay texts name trace outcome
replayed texts name trace events outcome h r = record
    { read = r.0; comes = subst (λ (es : List Event). ComesOf texts name es outcome) r.1 h }

-- the lines could not be written
pub lines_failed : (texts : MineTexts) (name : Group) (trace : List ℕ) (outcome : Outcome) (old new : Option (List ℕ))
    (e : EngineFault) → IsReplay texts name trace outcome → LineFails old new (outcome_text outcome) e
    → Replays texts name trace old new (Err e)
lines_failed texts name trace outcome old new engine.Memory h k = (tt, k)
lines_failed texts name trace outcome old new engine.Device h k = (tt, inr (outcome, h, k))
lines_failed texts name trace outcome old new e h k = absurd k
