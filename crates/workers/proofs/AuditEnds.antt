-- From how the run of an audited board ends to how a run over its net ends, and its history.
use Rattle.fixed_worth.proofs.Common.{◌≡◌, ℕ, ◌<◌, ◌≤◌, ◌∙◌, Bool, true, false, List, [], length, ap, sym, subst, refl}
use Rattle.fixed_worth.proofs.Common.{arith, inl, inr, Result, Ok, Err, MatchResult, common_steps}
use Rattle.closure_net.specs.Network.{NetView, FlowView}
use Rattle.machine_law.specs.declared.events.Event.{Event}
use Rattle.machine_law.specs.States.{opening, IsQuiet}
use Rattle.boards.specs.Prelude.{SomeNextOverflows, IsReplayedTo, shown_state, HasSettled, IsCutOffAt, AuditView}
use Rattle.boards.specs.Prelude.{IsAudited, IsHistoryFull, AuditGoesOn, HasAuditSettled}
use Rattle.workers.specs.Prelude.{most_steps, Settles, AreBadWorkers, most_room, IsHistory, IsSomeHistory, IsAudit}
use Rattle.workers.specs.Prelude.{IsAuditLeft, IsAuditLoss, lost_by, AuditRunFaultStands, AuditFaultStands}
use Rattle.workers.specs.declared.solving.SolveFault.{SolveFault}
use Rattle.workers.specs.declared.solving.SolveFault.TheVariants.{BadWorkers, Unsettled, TooLarge, NoThread}
use Rattle.workers.specs.declared.solving.TheConstants.{MOST_WORKERS}
use Rattle.workers.specs.declared.auditing.AuditEnd.{AuditEnd}
use Rattle.workers.specs.declared.auditing.AuditEnd.TheVariants.{NoFlow, HistoryFull}

-- ---- a history

-- an audited board over the net has one
pub is_history_of : (audit : AuditView) (net : NetView) (limit room : ℕ) → IsAudited audit → audit.board.net ≡ net
    → (shown_state audit.board).steps ≤ most_steps limit → audit.room ≡ most_room room
    → IsHistory net limit room audit.history (shown_state audit.board)
is_history_of audit net limit room is same within r = grind (arith, common_steps)

no_steps : (net : NetView) (limit room : ℕ) → IsSomeHistory net limit room []
no_steps net limit room = (opening net, record { turns = refl; within = omega (arith); few = omega (arith) })

-- ---- the board that comes back
pub left : (audit : AuditView) (net : NetView) (limit room steps most count own : ℕ) → IsAudited audit
    → steps ≡ most_steps limit → most ≡ most_room room → audit.board.net ≡ net
    → count ≡ (shown_state audit.board).steps → count ≤ steps → own ≡ audit.room → own ≡ most
    → IsAuditLeft net limit room audit
left audit net limit room steps most count own is s m same c within o r = grind (arith, common_steps)

-- ---- why there is no board
pub lost : (net : NetView) (limit room : ℕ) (all : Bool) (fault : SolveFault) (why : AuditEnd) (history : List Event)
    → fault ≡ lost_by all → why ≡ NoFlow fault → history ≡ [] → IsAuditLoss net limit room why history
lost net limit room true fault why history e w h = subst (λ x. IsAuditLoss net limit room x history)
    (sym (w ∙ ap NoFlow e)) h
lost net limit room false fault why history e w h = subst (λ x. IsAuditLoss net limit room x history)
    (sym (w ∙ ap NoFlow e)) (subst (λ xs. IsSomeHistory net limit room xs) (sym h) (no_steps net limit room))

pub no_thread : (audit : AuditView) (net : NetView) (limit room : ℕ) (why : AuditEnd) (history : List Event)
    → IsAuditLeft net limit room audit → why ≡ NoFlow NoThread → history ≡ audit.history
    → IsAuditLoss net limit room why history
no_thread audit net limit room why history is w h = grind (arith, common_steps)

-- ---- the end of a run
module _ (first new : AuditView) (limit steps : ℕ) (e : steps ≡ most_steps limit) (is : IsAudited new)
    (goes : AuditGoesOn first new steps) (room : ℕ) (r : first.room ≡ most_room room) where
  same : new.board.net ≡ first.board.net
  same = goes.board.net_is

  within : (shown_state new.board).steps ≤ most_steps limit
  within = subst (λ (k : ℕ). (shown_state new.board).steps ≤ k) e goes.board.within

  is_history : IsHistory first.board.net limit room new.history (shown_state new.board)
  is_history = is_history_of new first.board.net limit room is same within (goes.room ∙ r)

  told : (fault why : AuditEnd) (events : List Event) → why ≡ fault → events ≡ new.history
      → AuditRunFaultStands first.board.net limit room fault new.history
      → AuditRunFaultStands first.board.net limit room why events
  told fault why events w h stands = subst (λ x. AuditRunFaultStands first.board.net limit room x events) (sym w)
      (subst (λ xs. AuditRunFaultStands first.board.net limit room fault xs) (sym h) stands)

  counted : length new.history ≡ (shown_state new.board).steps
  counted = sym is.counted

  unquiet_here : ¬ (IsQuiet new.board.net (shown_state new.board)) → ¬ (IsQuiet first.board.net (shown_state new.board))
  unquiet_here h = subst (λ (n : NetView). ¬ (IsQuiet n (shown_state new.board))) same h

  pub cut_off : (why : AuditEnd) (events : List Event) → why ≡ NoFlow Unsettled → events ≡ new.history
      → IsCutOffAt new.board steps → AuditRunFaultStands first.board.net limit room why events
  cut_off why events w h at = told (NoFlow Unsettled) why events w h
      (record {
        state = shown_state new.board;
        is_history = is_history;
        counted = counted ∙ at.counted
            ∙ e;
        unquiet = unquiet_here at.unquiet;
      })

  pub overflows : (why : AuditEnd) (events : List Event) → why ≡ NoFlow TooLarge → events ≡ new.history
      → SomeNextOverflows new.board.net (shown_state new.board)
      → AuditRunFaultStands first.board.net limit room why events
  overflows why events w h next = told (NoFlow TooLarge) why events w h
      (record {
        state = shown_state new.board;
        is_history = is_history;
        next = subst
            (λ (n : NetView). SomeNextOverflows n (shown_state new.board)) same next;
      })

  pub fills : (why : AuditEnd) (events : List Event) → why ≡ HistoryFull → events ≡ new.history
      → IsHistoryFull new steps → AuditRunFaultStands first.board.net limit room why events
  fills why events w h at =
      let full : length new.history ≡ most_room room = at.full ∙ goes.room ∙ r in
      let below : new.room < most_steps limit = subst (λ (k : ℕ). new.room < k) e at.below in
      told HistoryFull why events w h
      (record {
        state = shown_state new.board;
        is_history = is_history;
        full = full;
        below = subst
            (λ (k : ℕ). k < most_steps limit) (sym at.full) below;
        unquiet = unquiet_here at.unquiet;
      })

  pub settles : (own : NetView) (flow : FlowView) (events : List Event) → HasAuditSettled new own flow events
      → IsAudit first.board.net limit room flow events
  settles own flow events h =
      let here : own ≡ first.board.net = h.settled.net_is ∙ same in
      let count : length events ≡ (shown_state new.board).steps = ap length h.history ∙ counted in
      let s = subst (λ (n : NetView). HasSettled new.board n flow) here h.settled in
      record {
        state = shown_state new.board;
        is_history = subst (λ xs. IsHistory first.board.net limit room xs (shown_state new.board))
            (sym h.history) is_history;
        replayed = subst (λ (n : NetView). IsReplayedTo n events flow) here h.replayed;
        settles = subst (λ (n : NetView). Settles n limit flow (length events)) same (record {
          state = shown_state new.board;
          made = is.turns.made;
          counted = sym count;
          within = subst (λ (x : ℕ). x ≤ most_steps limit) (sym count) within;
          quiet = s.quiet;
          amounts = s.amounts;
          solved = s.solved;
        });
      }

-- ---- what the whole run answers

run_stands : (net : NetView) (workers limit room : ℕ) (why : AuditEnd) (history : List Event)
    → AuditRunFaultStands net limit room why history → AuditFaultStands net workers limit room why history
run_stands net workers limit room (NoFlow Unsettled) history h = h
run_stands net workers limit room (NoFlow TooLarge) history h = h
run_stands net workers limit room HistoryFull history h = h
run_stands net workers limit room (NoFlow _) history h = absurd h

-- whatever was answered of the run of a board over the net, with the room that was asked for
pub answered : {S F : Type 0} (flow : S → FlowView) (events : S → List Event) (why : F → AuditEnd)
    (history : F → List Event) (net : NetView) (workers limit room : ℕ) (result : Result S F)
    → MatchResult result (λ s. IsAudit net limit room (flow s) (events s))
    (λ f. AuditRunFaultStands net limit room (why f) (history f))
    → MatchResult result (λ s. IsAudit net limit room (flow s) (events s))
    (λ f. AuditFaultStands net workers limit room (why f) (history f))
answered flow events why history net workers limit room (Ok s) h = h
answered flow events why history net workers limit room (Err f) h = run_stands net workers limit room (why f)
    (history f) h

none_bad : (workers : ℕ) → 1 ≤ workers → workers ≤ MOST_WORKERS → ¬ (AreBadWorkers workers)
none_bad workers some few (inl h) = omega (arith, some, h)
none_bad workers some few (inr h) = omega (arith, few, h)

pub good_workers : {S F : Type 0} (why : F → AuditEnd) (workers : ℕ) (result : Result S F) → 1 ≤ workers
    → workers ≤ MOST_WORKERS
    → MatchResult result (λ s. ¬ (AreBadWorkers workers)) (λ f. AreBadWorkers workers → why f ≡ NoFlow BadWorkers)
good_workers why workers (Ok s) some few = none_bad workers some few
good_workers why workers (Err f) some few = λ bad. absurd (none_bad workers some few bad)
