-- Which blocks have an operation.
use Rattle.fixed_worth.proofs.Common.{◌≡◌, ◌≢◌, ℕ, ◌+◌, ◌<◌, ◌↔◌, ◌⊎◌, IsTrue, refl, sym, ap, subst, ◌∙◌, arith, inl}
use Rattle.fixed_worth.proofs.Common.{inr, Bool, true, false, if◌then◌else◌, Option, Some, None, none-some}
use Rattle.fixed_worth.proofs.Common.{common_steps}
use Rattle.ordered_group.specs.Amount.{Amount, zero_amount}
use Rattle.ordered_group.proofs.Order.{AtMost-both, most_or_below}
use Rattle.closure_net.specs.Network.{NetView}
use Rattle.closure_net.specs.declared.port.Port.{Port}
use Rattle.closure_net.specs.declared.port.PortKind.{PortKind}
use Rattle.closure_net.specs.declared.port.PortKind.TheVariants.{Sink}
use Rattle.machine_law.specs.declared.operations.Operation.{Operation}
use Rattle.machine_law.specs.declared.operations.Operation.TheVariants.{Idle, Scan, PushDue, TakeDue, GiveDue, RaiseDue}
use Rattle.machine_law.specs.Prelude.{State, with_value_at, IsQuiet, push_amount, after_push_by, after_give_by}
use Rattle.machine_law.specs.Prelude.{advance_by}
use Rattle.machine_law.proofs.Law.{runs_keep_law}
use Rattle.machine_law.proofs.Points.{with_value_at-other}
use Rattle.boards.specs.Prelude.{BoardView, shown_state, blocks_of_board, IsBoard, HasNoOwn, IsPicked, IsUnserved}
use Rattle.boards.specs.Prelude.{IsBlockDue, HasServed, IsAlone, AreIdleBelow}

-- ---- a step changes the operation of its block alone, and is counted
record Changes (s t : State) (b : ℕ) : Type 0 where
  pub others : (c : ℕ) → c ≢ b → t.operation c ≡ s.operation c
  pub counted : t.steps ≡ s.steps + 1

changes : (s t : State) (b : ℕ) (o : Operation Amount) → t.operation ≡ with_value_at s.operation b o
    → t.steps ≡ s.steps + 1 → Changes s t b
changes s t b o e k = record {
  others = λ c ne. ap (λ (f : ℕ → Operation Amount). f c) e ∙ with_value_at-other s.operation b o c ne;
  counted = k;
}

pushed_changes : (s : State) (b : ℕ) (d : Amount) (port : Port) (kind : PortKind)
    → Changes s (after_push_by s b d port kind) b
pushed_changes s b d port Sink = changes s _ b _ refl refl
pushed_changes s b d port kind = changes s _ b _ refl refl

given_changes : (s : State) (b : ℕ) (d : Amount) (port : Port) (kind : PortKind)
    → Changes s (after_give_by s b d port kind) b
given_changes s b d port Sink = changes s _ b _ refl refl
given_changes s b d port kind = changes s _ b _ refl refl

step_changes : (net : NetView) (s : State) (b : ℕ) (o : Operation Amount) → Changes s (advance_by net s b o) b
step_changes net s b Idle = changes s _ b _ refl refl
step_changes net s b (Scan have place None best) = changes s _ b _ refl refl
step_changes net s b (Scan have place (Some read) best) = changes s _ b _ refl refl
step_changes net s b (PushDue have best) = pushed_changes s b (push_amount have best.port.kind best.capacity)
    best.port best.port.kind
step_changes net s b (TakeDue d port) = changes s _ b _ refl refl
step_changes net s b (GiveDue d port) = given_changes s b d port port.kind
step_changes net s b (RaiseDue have best) = changes s _ b _ refl refl

served_changes : (old new : BoardView) (b : ℕ) (more : Bool) → HasServed old b new more
    → Changes (shown_state old) (shown_state new) b
served_changes old new b more h =
    subst (λ (t : State). Changes (shown_state old) t b) (sym h.step.after)
    (step_changes old.net (shown_state old) b ((shown_state old).operation b))

pub served_counts : (old new : BoardView) (b : ℕ) (more : Bool) → HasServed old b new more
    → (shown_state new).steps ≡ (shown_state old).steps + 1
served_counts old new b more h = (served_changes old new b more h).counted

-- ---- an operation, or none

idle_not : (o : Operation Amount) → ¬ ¬ (o ≡ Idle) → o ≡ Idle
idle_not o h = grind (arith, common_steps)

no_own_idle : (board : BoardView) (own : Option ℕ) (c : ℕ) → HasNoOwn board own → own ≡ Some c
    → c < blocks_of_board board → (shown_state board).operation c ≡ Idle
no_own_idle board own c h e l = idle_not ((shown_state board).operation c)
    (λ work. h c (record { own_is = e; inside = l; at_work = work }))

-- ---- while one block is served to its end
own_served : (board : BoardView) (from block b : ℕ) → block < blocks_of_board board
    → ¬ ((shown_state board).operation block ≡ Idle) → IsPicked board (Some block) from b → b ≡ block
own_served board from block b l work p = grind (arith, common_steps)

pub still_idle_below : (old new : BoardView) (from steps block b : ℕ) (more : Bool) → block < blocks_of_board old
    → ¬ ((shown_state old).operation block ≡ Idle) → AreIdleBelow old block
    → IsBlockDue old (Some block) from steps b × HasServed old b new more → AreIdleBelow new block
still_idle_below old new from steps block b more l work idle h c below =
    let e = own_served old from block b l work h.0.picked in
    (served_changes old new b more h.1).others c
    (λ q. (let t : block < block = subst (λ x. x < block) (q ∙ e) below in omega (arith, t))) ∙ idle c below

-- ---- while one operation follows another
pub all_idle_alone : (board : BoardView) → AreIdleBelow board (blocks_of_board board)
    → IsAlone (blocks_of_board board) (shown_state board) None
all_idle_alone board idle = grind (arith, common_steps)

pub picked_inside : (board : BoardView) (own : Option ℕ) (from b : ℕ) → IsPicked board own from b
    → b < blocks_of_board board
picked_inside board own from b p = grind (arith, common_steps)

other_idle : (board : BoardView) (own : Option ℕ) (from b c : ℕ)
    → IsAlone (blocks_of_board board) (shown_state board) own → IsPicked board own from b → c < blocks_of_board board
    → c ≢ b → ((own ≡ Some c) ⊎ ¬ (own ≡ Some c)) → (shown_state board).operation c ≡ Idle
other_idle board own from b c alone p l ne (inr not) = alone.others c l not
other_idle board own from b c alone p l ne (inl is) = grind (arith, common_steps)

own_or : (own : Option ℕ) (c : ℕ) → (own ≡ Some c) ⊎ ¬ (own ≡ Some c)
own_or None c = inr (λ e. none-some c e)
own_or (Some b) c = grind (arith, common_steps)

goes_on_alone : (n : ℕ) (s : State) (b : ℕ) (more : Bool) → b < n → ((c : ℕ) → c < n → c ≢ b → s.operation c ≡ Idle)
    → (IsTrue more ↔ ¬ (s.operation b ≡ Idle)) → IsAlone n s (if more then Some b else None)
goes_on_alone n s b true l others h = grind (arith, common_steps)
goes_on_alone n s b false l others h = grind (arith, common_steps)

pub still_alone : (old new : BoardView) (own : Option ℕ) (from steps b : ℕ) (more : Bool)
    → IsAlone (blocks_of_board old) (shown_state old) own → IsBlockDue old own from steps b × HasServed old b new more
    → IsAlone (blocks_of_board new) (shown_state new) (if more then Some b else None)
still_alone old new own from steps b more alone h =
    let n : blocks_of_board new ≡ blocks_of_board old = ap (λ (x : BoardView). blocks_of_board x) h.1.rest in
    let k = served_changes old new b more h.1 in
    let others : (c : ℕ) → c < blocks_of_board new → c ≢ b → (shown_state new).operation c ≡ Idle =
    λ c l ne. k.others c ne ∙ other_idle old own from b c alone h.0.picked (subst (λ x. c < x) n l) ne (own_or own c) in
    goes_on_alone (blocks_of_board new) (shown_state new) b more
    (subst (λ x. b < x) (sym n) (picked_inside old own from b h.0.picked)) others h.1.goes_on

-- where none has an operation and none waits, all is quiet
pub unserved_quiet : (board : BoardView) (own : Option ℕ) → IsBoard board
    → IsAlone (blocks_of_board board) (shown_state board) own → IsUnserved board own
    → IsQuiet board.net (shown_state board)
unserved_quiet board own is alone none =
    let amounts = (runs_keep_law board.net is.over.reached.events (shown_state board) is.over.reached.run).amounts in
    let idle : (b : ℕ) → b < blocks_of_board board → (shown_state board).operation b ≡ Idle =
    λ b l. (elim (own_or own b) [
      | inl e ↦ no_own_idle board own b none.no_own e l
      | inr ne ↦ alone.others b l ne
    ]) in
    record {
      excess = λ b l. elim (most_or_below ((shown_state board).excess b) zero_amount) [
        | inl most ↦ AtMost-both ((shown_state board).excess b) zero_amount most (amounts.excess b)
        | inr below ↦ absurd (none.none_waits b l (record { excess = below; idle = idle b l }))
      ];
      operation = idle;
    }
