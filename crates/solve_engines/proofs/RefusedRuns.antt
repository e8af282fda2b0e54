-- What a check can refuse of a flow that solves its net: nothing but sums that don't fit.
use Rattle.std.proofs.Common.{◌≡◌, ℕ, List, subst}
use Rattle.closure_net.specs.Prelude.{NetView, FlowView, holds_of, IsReached}
use Rattle.machine_law.specs.Quiet.{IsSolved}
use Rattle.workers.specs.Runs.{Settles}
use Rattle.check_pit.specs.Checks.{IsOfNet, PitFaultStands}
use Rattle.check_pit.specs.declared.pit_fault.PitFault.{PitFault}
use Rattle.check_pit.specs.declared.pit_fault.PitFault.TheVariants.{TooLarge}
use Rattle.check_pit.proofs.Tightness.{refused_for_size_only}
use Rattle.solve_engines.specs.Prelude.{IsRefusedFlow, CheckOverflows}

-- The check refused the flow, with the blocks that the source reaches in it, for a sum that doesn't fit.
pub record IsRefusedForSize (net : NetView) (flow : FlowView) (fault : PitFault) : Type 0 where
  pub pit : List ℕ
  pub reached : IsReached net flow (holds_of pit)
  pub of_net : IsOfNet net pit
  pub stands : PitFaultStands net flow pit TooLarge
  pub only : fault ≡ TooLarge

pub refused_for_size : (net : NetView) (flow : FlowView) (fault : PitFault) → IsSolved net flow
    → IsRefusedFlow net flow fault → IsRefusedForSize net flow fault
refused_for_size net flow fault solved refused =
    let fits = solved.greatest.is_flow.fits in
    let reached = refused.reached fits in
    let of_net = refused.of_net fits in
    let e = holds_of refused.pit in
    let only = refused_for_size_only net flow refused.pit fault
    (record {
      of_net = of_net;
      is_flow = solved.greatest.is_flow;
      closed = solved.closed e reached;
      tight =
          solved.tight e reached;
    }) refused.stands.holds in
    record {
      pit = refused.pit;
      reached = reached;
      of_net = of_net;
      stands = subst (λ (f : PitFault). PitFaultStands net flow refused.pit f) only refused.stands;
      only = only;
    }

-- and so of the flow that a settled run leaves
pub check_overflows : (net : NetView) (limit : ℕ) (flow : FlowView) (steps : ℕ) (fault : PitFault)
    → Settles net limit flow steps → IsRefusedFlow net flow fault → CheckOverflows net limit
check_overflows net limit flow steps fault settles refused =
    let size = refused_for_size net flow fault settles.solved refused in
    record {
      flow = flow;
      steps = steps;
      settles = settles;
      pit = size.pit;
      reached = size.reached;
      of_net =
          size.of_net;
      stands = size.stands;
    }
