-- What a check says of the flow of a quiet state.
use Rattle.fixed_worth.proofs.Common.{◌≡◌, ℕ, ℤ, Bool, List, length, sym, ◌∙◌, subst, arith, common_steps}
use Rattle.ordered_group.specs.Prelude.{Amount, SumsTellWorth}
use Rattle.ordered_group.specs.declared.groups.Group.{Group}
use Rattle.closure_net.specs.Prelude.{NetView, FlowView, holds_of, IsNetOf}
use Rattle.machine_law.specs.Quiet.{IsSolved}
use Rattle.check_pit.specs.declared.pit_fault.PitFault.{PitFault}
use Rattle.solve_engines.specs.Prelude.{IsSolution, IsRefusedFlow, IsNetBy}
use Rattle.check_engines.specs.Prelude.{IsGroupNamed}
use Rattle.check_engines.specs.declared.judgement.Judgement.TheVariants.{Accepted}
use Rattle.mine_inputs.specs.Mines.{MineTexts, mine_of}
use Rattle.check_engines.proofs.Told.{size_told, worth_told}
use Rattle.replay_engines.specs.Outcomes.{IsFlowJudged, IsFlowRefused}

-- the check accepted the flow, with the pit of the blocks that the source reaches in it
pub flow_accepted : (block : ℤ → ℕ → Amount) (counts : Bool) (texts : MineTexts) (name : Group) (net : NetView)
    (flow : FlowView) (pit : List ℕ) → IsNetBy texts name net → IsGroupNamed name block counts
    → (set_worth : Amount → ℕ → ℕ → ℤ) → SumsTellWorth block set_worth → (group : Group) (count : ℕ) (worth shown : ℤ)
    → group ≡ name → IsSolution set_worth net flow pit count worth → shown ≡ worth
    → IsFlowJudged texts name net flow (Accepted group count shown)
flow_accepted block counts texts name net flow pit by named set_worth tells group count worth shown a s w =
    let B : (ℤ → ℕ → Amount) → Type 0 = λ k. IsNetOf k (mine_of (length net.worths) texts) net in
    let of_mine : IsNetOf block (mine_of (length net.worths) texts) net = subst B named.block_is by.of_mine in
    let of_net = s.sound.proves.of_net in (
      a,
      record {
        pit = pit;
        reached = s.reached;
        sound = s.sound;
        proved = named.proves (mine_of (length net.worths) texts) net (holds_of pit) of_mine s.greatest;
        count = size_told block texts net of_mine pit s.ascending of_net count s.count_is;
        worth = worth_told block texts net of_mine pit s.ascending of_net count s.count_is set_worth tells worth
            s.worth_is ∙ sym w;
      },
    )

-- it refused the flow of a run that ended: a sum doesn't fit
pub flow_refused : (net : NetView) (flow : FlowView) (fault : PitFault) → IsSolved net flow
    → IsRefusedFlow net flow fault → IsFlowRefused net flow fault
flow_refused net flow fault solved refused = grind (arith, common_steps)
