-- From how the run of a board ends to how a run over its net ends.
use Rattle.fixed_worth.proofs.Common.{◌≡◌, ℕ, ◌≤◌, ◌∙◌, ap, sym, subst, Result, Ok, Err, MatchResult}
use Rattle.closure_net.specs.Network.{NetView, FlowView}
use Rattle.boards.specs.Prelude.{SomeNextOverflows, BoardView, shown_state, IsTurnBoard, HasSettled, IsCutOffAt, GoesOn}
use Rattle.workers.specs.Prelude.{most_steps, Settles, IsCutOff, SomeStepOverflows, RunFaultStands, SolveFaultStands}
use Rattle.workers.specs.declared.solving.SolveFault.{SolveFault}
use Rattle.workers.specs.declared.solving.SolveFault.TheVariants.{Unsettled, TooLarge}

module _ (first new : BoardView) (limit steps : ℕ) (e : steps ≡ most_steps limit) (is : IsTurnBoard new)
    (goes : GoesOn first new steps) where
  pub cut_off : IsCutOffAt new steps → IsCutOff first.net limit
  cut_off h = subst (λ (n : NetView). IsCutOff n limit) goes.net_is
      (record { state = shown_state new; made = is.made; counted = h.counted ∙ e; unquiet = h.unquiet })

  within : (shown_state new).steps ≤ most_steps limit
  within = subst (λ (k : ℕ). (shown_state new).steps ≤ k) e goes.within

  pub overflows : SomeNextOverflows new.net (shown_state new) → SomeStepOverflows first.net limit
  overflows h = subst (λ (n : NetView). SomeStepOverflows n limit) goes.net_is
      (record { state = shown_state new; made = is.made; within = within; next = h })

  -- the board that is taken out, its count and its flow
  pub settles : (last : BoardView) (count : ℕ) (net : NetView) (flow : FlowView) → last ≡ new
      → count ≡ (shown_state last).steps → HasSettled last net flow → Settles first.net limit flow count
  settles last count net flow same counted h =
      let k : count ≡ (shown_state new).steps = counted ∙ ap (λ (b : BoardView). (shown_state b).steps) same in
      let s = subst (λ (b : BoardView). HasSettled b net flow) same h in
      subst (λ (n : NetView). Settles n limit flow count) goes.net_is (record {
        state = shown_state new;
        made = is.made;
        counted = sym k;
        within = subst (λ (x : ℕ). x ≤ most_steps limit) (sym k) within;
        quiet = s.quiet;
        amounts = s.amounts;
        solved = s.solved;
      })

-- ---- what the whole run answers
fault_stands : (net : NetView) (workers limit : ℕ) (fault : SolveFault) → RunFaultStands net limit fault
    → SolveFaultStands net workers limit fault
fault_stands net workers limit Unsettled h = h
fault_stands net workers limit TooLarge h = h
fault_stands net workers limit fault h = absurd h

pub answers : {S : Type 0} (flow : S → FlowView) (count : S → ℕ) (net : NetView) (workers limit : ℕ)
    (result : Result S SolveFault)
    → MatchResult result (λ s. Settles net limit (flow s) (count s)) (λ fault. RunFaultStands net limit fault)
    → MatchResult result (λ s. Settles net limit (flow s) (count s)) (λ fault. SolveFaultStands net workers limit fault)
answers flow count net workers limit (Ok s) h = h
answers flow count net workers limit (Err fault) h = fault_stands net workers limit fault h
