-- What turns leave of a board whose steps may be written down.
use Rattle.fixed_worth.proofs.Common.{◌≡◌, ℕ, ◌<◌, ◌≤◌, arith, length, Bool, true, Option, refl, sym, ap, subst, ◌∙◌}
use Rattle.fixed_worth.proofs.Common.{if◌then◌else◌, ◌∷◌, [], ◌++◌, common_steps}
use Rattle.machine_law.specs.Steps.{next_event}
use Rattle.boards.specs.Prelude.{AreTurnsTo, BoardView, shown_state, IsBoard, IsBlockDue, HasServed, IsStepOf}
use Rattle.boards.specs.Prelude.{IsTurnEnd, IsTurn, RecordView, RecordsTurns, written_by, events_after, written_after}
use Rattle.boards.specs.Prelude.{Writes, RecordGoesOn}
use Rattle.boards.specs.declared.turn.Turn.{Turn}
use Rattle.boards.specs.declared.turn.Turn.TheVariants.{Stepped, Idle as Unserved, Ended}
use Rattle.boards.specs.declared.turn.End.{End}
use Rattle.boards.proofs.FurtherTurns.{written_after_none, written_after_both}
use Rattle.boards.proofs.Alone.{served_counts}
use Rattle.boards.proofs.Ends.{turned, same_turns, more_turns, turns_counted, end_same, served_run, ended_run}
use Rattle.boards.proofs.Ends.{further_run}

-- ---- a run that goes on

-- by no turn
pub record_stays : (r : RecordView) (limit : ℕ) → (shown_state r.board).steps ≤ limit → RecordGoesOn r r limit
record_stays r limit within = record {
  board = record { net_is = refl; within = within; events = []; run = refl };
  events = written_after_none r.records r.events;
  records = refl;
  room = refl;
}

-- by a turn that makes a step
pub record_served : (first old new : RecordView) (own : Option ℕ) (from limit b : ℕ) (more : Bool) → IsBoard new.board
    → RecordGoesOn first old limit → IsBlockDue old.board own from limit b × HasServed old.board b new.board more
    → Writes old (Stepped b more) new → RecordGoesOn first new limit
record_served first old new own from limit b more is goes h writes =
    let event = next_event old.board.net (shown_state old.board) b in
    let here : new.events ≡ written_after old.records old.events (event ∷ []) = ap (λ (r : RecordView). r.events)
    writes in
    let same : written_after old.records old.events (event ∷ []) ≡ written_after first.records
    (written_after first.records first.events goes.board.events) (event ∷ []) =
    ap (λ t. written_after t old.events (event ∷ [])) goes.records
    ∙ ap (λ xs. written_after first.records xs (event ∷ [])) goes.events in
    let counted = served_counts old.board new.board b more h.1 in
    record {
      board = record {
        net_is = ap (λ (v : BoardView). v.net) h.1.rest ∙ goes.board.net_is;
        within = omega (arith, counted, h.0.going.room);
        events = goes.board.events ++ event ∷ [];
        run = served_run first.board old.board new.board own from limit b more goes.board is h;
      };
      events = here ∙ same ∙ written_after_both first.records first.events goes.board.events (event ∷ []);
      records = ap (λ (r : RecordView). r.records) writes ∙ goes.records;
      room = ap (λ (r : RecordView). r.room) writes ∙ goes.room;
    }

-- by one that makes none
pub record_ended : (first old new : RecordView) (own : Option ℕ) (from limit : ℕ) (end : End)
    → RecordGoesOn first old limit → IsTurnEnd old.board own from limit new.board end → Writes old (Ended end) new
    → RecordGoesOn first new limit
record_ended first old new own from limit end goes h writes =
    let same = end_same old.board new.board own from limit end h in
    record {
      board = record {
        net_is = same.0 ∙ goes.board.net_is;
        within = subst (λ (k : ℕ). k ≤ limit) (sym (ap (λ v. v.steps) same.1)) goes.board.within;
        events = goes.board.events;
        run = ended_run first.board old.board new.board own from limit end goes.board h;
      };
      events = ap (λ (r : RecordView). r.events) writes ∙ goes.events;
      records = ap (λ (r : RecordView). r.records) writes ∙ goes.records;
      room = ap (λ (r : RecordView). r.room) writes ∙ goes.room;
    }

-- by further turns
pub record_further : (first old new : RecordView) (limit : ℕ) → RecordGoesOn first old limit
    → RecordGoesOn old new limit → RecordGoesOn first new limit
record_further first old new limit goes further = record {
  board = record {
    net_is = further.board.net_is ∙ goes.board.net_is;
    within = further.board.within;
    events = goes.board.events ++ further.board.events;
    run = further_run first.board old.board new.board limit goes.board further.board;
  };
  events = further.events ∙ ap (λ t. written_after t old.events further.board.events) goes.records
      ∙ ap (λ xs. written_after first.records xs further.board.events) goes.events
      ∙ written_after_both first.records first.events goes.board.events further.board.events;
  records = further.records ∙ goes.records;
  room = further.room ∙ goes.room;
}

-- what is written down of a turn that is the step of a block
pub written_is : (old : RecordView) (b : ℕ) (new : BoardView) (turn : Turn) → IsStepOf old.board b new turn
    → written_by old.records old.events (next_event old.board.net (shown_state old.board) b) turn
    ≡ events_after old turn
written_is old b new (Stepped block more) h = ap
    (λ x. written_by old.records old.events (next_event old.board.net (shown_state old.board) x) (Stepped block more))
    (sym h.0)
written_is old b new turn h = refl

-- where a block is due there is room for its event
pub room_due : (r : RecordView) (own : Option ℕ) (from steps b capacity : ℕ) → RecordsTurns r capacity
    → IsBlockDue r.board own from steps b → (r.records ≡ true → steps ≤ r.room) → r.records ≡ true
    → length r.events < capacity
room_due r own from steps b capacity is due room e = grind (arith, common_steps, turns_counted)

-- ---- the events that are written down are the turns
written_turns : (old : RecordView) (new : BoardView) (own : Option ℕ) (from steps : ℕ) (turn : Turn) → IsBoard new
    → IsTurn old.board own from steps new turn → old.records ≡ true
    → AreTurnsTo old.board.net old.events (shown_state old.board)
    → AreTurnsTo new.net (events_after old turn) (shown_state new)
written_turns old new own from steps (Stepped block more) is h e run =
    subst (λ t. AreTurnsTo new.net
    (if t then old.events ++ next_event old.board.net (shown_state old.board) block ∷ [] else old.events)
    (shown_state new)) (sym e)
    (more_turns old.board new old.events own from steps block more is h.0 h.1 run)
written_turns old new own from steps Unserved is h e run = same_turns old.board new old.events
    (ap (λ (b : BoardView). b.net) h.2) (ap (λ (b : BoardView). b.state) h.2) run
written_turns old new own from steps (Ended end) is h e run = let same = end_same old.board new own from steps end
    h in same_turns old.board new old.events same.0 same.1 run

pub recorded : (old new : RecordView) (own : Option ℕ) (from steps : ℕ) (turn : Turn) (capacity : ℕ)
    → RecordsTurns old capacity → IsBoard new.board → IsTurn old.board own from steps new.board turn
    → Writes old turn new → RecordsTurns new capacity
recorded old new own from steps turn capacity was is h writes =
    let records : new.records ≡ old.records = ap (λ (r : RecordView). r.records) writes in
    let room : new.room ≡ old.room = ap (λ (r : RecordView). r.room) writes in
    let events : new.events ≡ events_after old turn = ap (λ (r : RecordView). r.events) writes in
    record {
      turns = turned old.board new.board was.turns is own from steps turn h;
      made = λ e. subst (λ xs. AreTurnsTo new.board.net xs (shown_state new.board)) (sym events)
          (written_turns old new.board own from steps turn is h (sym records ∙ e) (was.made (sym records ∙ e)));
      reserved = subst (λ k. k ≤ capacity) (sym room) was.reserved;
    }
