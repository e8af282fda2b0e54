-- What turns leave of a board whose steps are all written down, with as many steps as its limit and its room both
-- allow.
use Rattle.fixed_worth.proofs.Common.{◌≡◌, ℕ, ◌<◌, ◌≤◌, min, Bool, true, Option, List, length, ◌++◌, ◌∷◌, [], refl, sym}
use Rattle.fixed_worth.proofs.Common.{ap, subst, ◌∙◌, arith, inl, inr, if◌then◌else◌, min-le_left, min-le_right}
use Rattle.fixed_worth.proofs.Common.{common_steps}
use Rattle.closure_net.specs.Network.{NetView, FlowView}
use Rattle.machine_law.specs.declared.events.Event.{Event}
use Rattle.machine_law.specs.Steps.{next_event}
use Rattle.machine_law.proofs.Runs.{run_unique}
use Rattle.machine_law.proofs.ActiveRuns.{active_is_run}
use Rattle.boards.specs.Prelude.{AreTurnsTo, BoardView, shown_state, IsTurnBoard, HasSettled, IsGoing, IsBlockDue}
use Rattle.boards.specs.Prelude.{IsAtLimit, IsTurn, IsTurnEnd, HasEnded, RecordView, events_after, written_after}
use Rattle.boards.specs.Prelude.{Writes, RecordGoesOn, AuditView, audit_of, IsAudited, IsAuditEnd, IsAuditTurn}
use Rattle.boards.specs.Prelude.{IsToldAs, HasAuditEnded, AuditGoesOn, HasAuditSettled}
use Rattle.machine_law.specs.declared.events.TheConstants.{MOST_EVENTS}
use Rattle.boards.specs.declared.turn.Turn.{Turn}
use Rattle.boards.specs.declared.turn.Turn.TheVariants.{Stepped, Idle as Unserved, Ended}
use Rattle.boards.specs.declared.turn.End.{End}
use Rattle.boards.specs.declared.turn.End.TheVariants.{Quiet, Stuck, Limit, Full}
use Rattle.boards.proofs.Alone.{served_counts}
use Rattle.boards.proofs.Ends.{turns_counted, end_same}

-- ---- the type
pub audited : (r : RecordView) → IsTurnBoard r.board → AreTurnsTo r.board.net r.events (shown_state r.board)
    → (shown_state r.board).steps ≤ r.room → r.room ≤ MOST_EVENTS → IsAudited (audit_of r)
audited r turns made within few = grind (arith, common_steps, turns_counted)

-- a turn makes no more steps than there is room for
pub turn_within : (old new : BoardView) (own : Option ℕ) (from steps room : ℕ) (turn : Turn) → steps ≤ room
    → (shown_state old).steps ≤ room → IsTurn old own from steps new turn → (shown_state new).steps ≤ room
turn_within old new own from steps room (Stepped block more) most within h = let k = served_counts old new block more
    h.1 in omega (arith, k, h.0.going.room, most)
turn_within old new own from steps room Unserved most within h = subst
    (λ (b : BoardView). (shown_state b).steps ≤ room) (sym h.2) within
turn_within old new own from steps room (Ended end) most within h = let same = end_same old new own from steps end
    h in subst (λ k. k ≤ room) (sym (ap (λ v. v.steps) same.1)) within

-- where the limit and the room are reached, but not the limit, it is the room
pub room_reached : (limit room made : ℕ) → min limit room ≤ made → made < limit → room ≤ made
room_reached limit room made most below = omega (arith, most, below)

-- ---- a turn
module _ (old new : RecordView) (own : Option ℕ) (from limit : ℕ) (is : IsAudited (audit_of old)) where
  going : IsGoing old.board (min limit old.room) → IsGoing old.board limit
  going h = let l = min-le_left limit old.room in let r = h.room in record
      { unquiet = h.unquiet; free = h.free; room = omega (arith, l, r) }

  has_room : IsGoing old.board (min limit old.room) → length old.events < old.room
  has_room h = let l = min-le_right limit old.room in let r = h.room in let k = is.counted in omega (arith, l, r, k)

  due : (b : ℕ) → IsBlockDue old.board own from (min limit old.room) b → IsBlockDue old.board own from limit b
  due b h = record { going = going h.going; picked = h.picked }

  same : (turn : Turn) → events_after old turn ≡ old.events → Writes old turn new → new.board ≡ old.board
      → audit_of new ≡ audit_of old
  same turn none writes board = ap audit_of (writes ∙ ap (λ xs. record old { board = new.board; events = xs }) none
      ∙ ap (λ b. record old { board = b }) board)

  pub stepped : (b : ℕ) (more : Bool) → old.records ≡ true → IsTurn old.board own from (min limit old.room) new.board
      (Stepped b more) → Writes old (Stepped b more) new → IsAuditTurn (audit_of old) own from limit (audit_of new)
      (Stepped b more)
  stepped b more e h writes = (
    due b h.0,
    record {
      room = has_room h.0.going;
      served = h.1;
      history = ap (λ (r : RecordView). r.events) writes
          ∙ ap (λ t. if t then old.events ++ next_event old.board.net (shown_state old.board) b ∷ [] else old.events) e;
      same_room = ap (λ (r : RecordView). r.room) writes;
    },
  )

  pub unserved : IsTurn old.board own from (min limit old.room) new.board Unserved → Writes old Unserved new
      → IsAuditTurn (audit_of old) own from limit (audit_of new) Unserved
  unserved h writes = (record { going = going h.0; room = has_room h.0 }, h.1, same Unserved refl writes h.2)

  at_most : IsAtLimit old.board (min limit old.room) → (told : End)
      → IsToldAs (shown_state old.board).steps limit Limit told → audit_of new ≡ audit_of old
      → IsAuditEnd (audit_of old) own from limit (audit_of new) told
  at_most h told (inl t) e = subst (λ x. IsAuditEnd (audit_of old) own from limit (audit_of new) x) (sym t.1)
      (record { unquiet = h.unquiet; free = h.free; made = t.0 }, e)
  at_most h told (inr t) e =
      let r = room_reached limit old.room (shown_state old.board).steps h.made t.0 in
      let k = is.counted in
      let w = is.within in
      subst (λ x. IsAuditEnd (audit_of old) own from limit (audit_of new) x) (sym t.1) (
        record {
          going = record { unquiet = h.unquiet; free = h.free; room = t.0 };
          full = omega
              (arith, r, k, w);
        },
        e,
      )

  pub ended : (end told : End) → IsTurnEnd old.board own from (min limit old.room) new.board end
      → Writes old (Ended end) new → IsToldAs (shown_state new.board).steps limit end told
      → IsAuditEnd (audit_of old) own from limit (audit_of new) told
  ended Quiet told h writes t = subst (λ x. IsAuditEnd (audit_of old) own from limit (audit_of new) x) (sym t)
      (h.0, same (Ended Quiet) refl writes h.1)
  ended Stuck told (inl h) writes t = subst (λ x. IsAuditEnd (audit_of old) own from limit (audit_of new) x) (sym t)
      (inl (h.0, same (Ended Stuck) refl writes h.1))
  ended Stuck told (inr h) writes t = subst (λ x. IsAuditEnd (audit_of old) own from limit (audit_of new) x) (sym t)
      (inr (h.0, due h.0 h.1, record { room = has_room h.1.going; sticks = h.2; rest = ap audit_of writes }))
  ended Limit told (inl h, e) writes t = at_most h told
      (subst (λ (b : BoardView). IsToldAs (shown_state b).steps limit Limit told) e t)
      (same (Ended Limit) refl writes e)
  ended Limit told (inr h, e) writes t =
      let a = h.2.full in
      let r = has_room h.1.going in
      let k = is.counted in
      let f = is.few in
      absurd (omega (arith, a, r, k, f))
  ended Full told h writes t = absurd h

-- ---- a whole run
-- goes on within a limit as it does within the lower of that and its room
pub audit_goes_on : (old new : RecordView) (most limit : ℕ) → most ≤ limit → old.records ≡ true
    → RecordGoesOn old new most → AuditGoesOn (audit_of old) (audit_of new) limit
audit_goes_on old new most limit below e h = record {
  board = record {
    net_is = h.board.net_is;
    within = (let w = h.board.within in omega (arith, w, below));
    events =
        h.board.events;
    run = h.board.run;
  };
  history = h.events ∙ ap (λ t. written_after t old.events h.board.events) e;
  room = h.room;
}

pub run_ended : (r : RecordView) (limit : ℕ) (end told : End) → IsAudited (audit_of r)
    → HasEnded r.board (min limit r.room) end → IsToldAs (shown_state r.board).steps limit end told
    → HasAuditEnded (audit_of r) limit told
run_ended r limit Full told is h t = absurd h
run_ended r limit Limit told is h t = grind (arith, common_steps)
run_ended r limit end told is h t = subst (λ x. HasAuditEnded (audit_of r) limit x) (sym t) h

-- ---- a quiet board's flow, and the replay of its history
pub audit_settled : (audit : AuditView) (net : NetView) (flow : FlowView) (events : List Event) → IsAudited audit
    → events ≡ audit.history → HasSettled audit.board net flow → HasAuditSettled audit net flow events
audit_settled audit net flow events is same h = grind (arith, common_steps, active_is_run, run_unique)
