-- The steps of a run that fits are all made again, and lead to the same flow.
use Rattle.fixed_worth.proofs.Common.{◌≡◌, ℕ, zero, suc, ◌+◌, ◌<◌, ◌≤◌, List, [], ◌∷◌, length, take, Some, sym, ap, ◌∙◌}
use Rattle.fixed_worth.proofs.Common.{subst, arith, slice_get, common_steps}
use Rattle.ordered_group.specs.Amount.{zero_amount}
use Rattle.ordered_group.specs.declared.groups.Group.{Group}
use Rattle.closure_net.specs.Network.{NetView, FlowView}
use Rattle.closure_net.proofs.Views.{same_at_default}
use Rattle.machine_law.specs.declared.events.Event.{Event}
use Rattle.machine_law.specs.declared.events.TheConstants.{MOST_EVENTS}
use Rattle.machine_law.specs.Prelude.{State, opening, IsQuiet, Run, ActiveRun, IsFlowOf}
use Rattle.machine_law.proofs.Runs.{step_unique, step_counts, run_unique}
use Rattle.machine_law.proofs.ActiveRuns.{active_is_run}
use Rattle.async_step.specs.declared.limits.TheConstants.{MOST_STEPS}
use Rattle.async_step.specs.declared.refusals.StepRefusal.{StepRefusal}
use Rattle.async_step.specs.Answers.{Fits, RefusalStands}
use Rattle.trace_file.proofs.RoundTrip.{read_is_written}
use Rattle.boards.specs.Runs.{AreTurnsTo}
use Rattle.mine_inputs.specs.Mines.{MineTexts}
use Rattle.replay_engines.specs.declared.outcome.Outcome.{Outcome}
use Rattle.replay_engines.specs.declared.outcome.Outcome.TheVariants.{Quiet, Open, Refused}
use Rattle.replay_engines.specs.Prelude.{IsFlowJudged, IsOutcome, TellsFlow, HistoriesAreReplayed}

-- so no event of such a run is
none_refused : (net : NetView) (s : State) (es : List Event) (t : State) → ActiveRun (Fits net) net s es t
    → s.steps + length es < MOST_STEPS → (before : ℕ) (u : State) → Run net s (take before es) u → (e : Event)
    → slice_get es before ≡ Some e → (refusal : StepRefusal) → ¬ (RefusalStands net u e refusal)
none_refused net s [] t h few before u run e at refusal r = cc
none_refused net s (x ∷ es) t h few zero u run e at refusal r = grind (arith, common_steps)
none_refused net s (x ∷ es) t h few (suc k) u run e at refusal r =
    let counts = step_counts net s x h.0 h.1 in
    none_refused net h.0 es t h.4 (omega (arith, few, counts)) k u
    (subst (λ (v : State). Run net v (take k es) u) (step_unique net s x run.0 h.0 run.1 h.1) run.2) e at refusal r

-- one state has one flow
one_flow : (net : NetView) (s : State) (flow other : FlowView) → IsFlowOf net s flow → IsFlowOf net s other
    → flow ≡ other
one_flow net s flow other f g =
    let a = same_at_default zero_amount flow.source other.source (f.fits.source ∙ sym g.fits.source)
    (λ k l. let n : k < length net.worths = omega (arith, l, f.fits.source) in f.source k n ∙ sym (g.source k n)) in
    let b = same_at_default zero_amount flow.rest other.rest (f.fits.rest ∙ sym g.fits.rest)
    (λ k l. let n : k < length net.pairs = omega (arith, l, f.fits.rest) in f.rest k n ∙ sym (g.rest k n)) in
    let c = same_at_default zero_amount flow.sink other.sink (f.fits.sink ∙ sym g.fits.sink)
    (λ k l. let n : k < length net.worths = omega (arith, l, f.fits.sink) in f.sink k n ∙ sym (g.sink k n)) in
    λ i. record { source = a i; rest = b i; sink = c i }

-- by what comes of these events
told_of : (texts : MineTexts) (name : Group) (net : NetView) (events : List Event) (state : State) (flow : FlowView)
    (outcome : Outcome) → length events ≤ MOST_EVENTS → AreTurnsTo net events state → IsQuiet net state
    → IsFlowOf net state flow → IsOutcome texts name net events outcome
    → TellsFlow texts name net (length events) flow outcome
told_of texts name net events state flow (Quiet steps judgement) few turns quiet amounts h =
    let ends = h.1.1 in
    let same = run_unique net (opening net) events ends.state state ends.run
    (active_is_run (Fits net) net (opening net) events state turns) in
    let other = subst (λ (s : State). IsFlowOf net s h.1.0) same ends.amounts in
    record {
      judgement = judgement;
      is = ap (λ (k : ℕ). Quiet k judgement) h.0;
      judged = subst (λ (f : FlowView). IsFlowJudged texts name net f judgement)
          (one_flow net state h.1.0 flow other amounts) h.1.2;
    }
told_of texts name net events state flow (Open steps) few turns quiet amounts h = grind
    (arith, common_steps, run_unique, active_is_run)
told_of texts name net events state flow (Refused place refusal) few turns quiet amounts h =
    absurd (none_refused net (opening net) events state turns (omega (arith, few)) h.before h.state h.run h.event
    h.present refusal h.stands)

pub histories_are_replayed : HistoriesAreReplayed
histories_are_replayed texts name net events state flow trace outcome turns quiet amounts back h = grind
    (arith, common_steps, read_is_written, told_of)
