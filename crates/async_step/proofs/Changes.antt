-- A state's lists with one element changed.
use Rattle.fixed_worth.proofs.Common.{◌≡◌, ℕ, ◌<◌, ◌+◌, Bool, false, not, ◌&&◌, ◌||◌, inl, inr, List, length, set, sym}
use Rattle.fixed_worth.proofs.Common.{ap, subst, ◌∙◌, arith, length-set, get_or-set_same, get_or-set_other, cases_eq}
use Rattle.fixed_worth.proofs.Common.{common_steps}
use Rattle.ordered_group.specs.Prelude.{Amount, zero_amount, is_zero, amount_at}
use Rattle.machine_law.specs.declared.operations.Operation.{Operation}
use Rattle.machine_law.specs.declared.operations.Operation.TheVariants.{Idle}
use Rattle.machine_law.specs.Prelude.{is_positive, is_idle}
use Rattle.async_step.specs.Prelude.{mark_at, StateView, operation_at, IsMarked, IsState, is_waiting, is_busy}

-- the marks with one mark changed
pub marked_set : (old new : ℕ → Bool) (n : ℕ) (marks : List Bool) (b : ℕ) → IsMarked old n marks → b < n
    → ((c : ℕ) → (c ≡ b → ⊥) → new c ≡ old c) → IsMarked new n (set marks b (new b))
marked_set old new n marks b h l other = grind (arith, common_steps)

module _ (v : StateView) (ready undone : List Bool) (h : IsState v ready undone) (b : ℕ) where
  pub state_source : (x : Amount) → IsState (record v { source = set v.source b x }) ready undone
  state_source x = record {
    sized = record {
      few = h.sized.few;
      excess = h.sized.excess;
      label = h.sized.label;
      source = length-set v.source b
          x ∙ h.sized.source;
      sink = h.sized.sink;
    };
    waiting = h.waiting;
    busy = h.busy;
  }

  pub state_sink : (x : Amount) → IsState (record v { sink = set v.sink b x }) ready undone
  state_sink x = record {
    sized = record {
      few = h.sized.few;
      excess = h.sized.excess;
      label = h.sized.label;
      source = h.sized.source;
      sink = length-set v.sink b x ∙ h.sized.sink;
    };
    waiting = h.waiting;
    busy = h.busy;
  }

  pub state_excess : (x : Amount) → b < length v.operation
      → IsState (record v { excess = set v.excess b x }) (set ready b (is_waiting x (operation_at v.operation b)))
      (set undone b (is_busy x (operation_at v.operation b)))
  state_excess x l =
      let n = length v.operation in
      let es = set v.excess b x in
      let here : amount_at es b ≡ x = get_or-set_same v.excess b x zero_amount (omega (arith, h.sized.excess)) in
      let there : (c : ℕ) → (c ≡ b → ⊥) → amount_at es c ≡ amount_at v.excess c = λ c d. get_or-set_other v.excess b c
      x zero_amount d in
      let w : ℕ → Bool = λ c. is_waiting (amount_at es c) (operation_at v.operation c) in
      let u : ℕ → Bool = λ c. is_busy (amount_at es c) (operation_at v.operation c) in
      record {
        sized = record {
          few = h.sized.few;
          excess = length-set v.excess b x
              ∙ h.sized.excess;
          label = h.sized.label;
          source = h.sized.source;
          sink = h.sized.sink;
        };
        waiting = subst (λ t. IsMarked w n (set ready b t)) (ap (λ y. is_waiting y (operation_at v.operation b)) here)
            (marked_set _ w n ready b h.waiting l
            (λ c d. ap (λ y. is_waiting y (operation_at v.operation c)) (there c d)));
        busy = subst (λ t. IsMarked u n (set undone b t)) (ap (λ y. is_busy y (operation_at v.operation b)) here)
            (marked_set _ u n undone b h.busy l (λ c d. ap (λ y. is_busy y (operation_at v.operation c)) (there c d)));
      }

  pub state_operation : (o : Operation Amount) (steps : ℕ) → b < length v.operation
      → IsState (record v { operation = set v.operation b o; steps = steps })
      (set ready b (is_waiting (amount_at v.excess b) o)) (set undone b (is_busy (amount_at v.excess b) o))
  state_operation o steps l =
      let n = length v.operation in
      let os = set v.operation b o in
      let k : length os ≡ n = length-set v.operation b o in
      let here : operation_at os b ≡ o = get_or-set_same v.operation b o Idle l in
      let there : (c : ℕ) → (c ≡ b → ⊥) → operation_at os c ≡ operation_at v.operation c = λ c d. get_or-set_other
      v.operation b c o Idle d in
      let w : ℕ → Bool = λ c. is_waiting (amount_at v.excess c) (operation_at os c) in
      let u : ℕ → Bool = λ c. is_busy (amount_at v.excess c) (operation_at os c) in
      let marked : IsMarked w n (set ready b (is_waiting (amount_at v.excess b) o)) = subst
      (λ t. IsMarked w n (set ready b t)) (ap (is_waiting (amount_at v.excess b)) here)
      (marked_set _ w n ready b h.waiting l (λ c d. ap (is_waiting (amount_at v.excess c)) (there c d))) in
      let stirred : IsMarked u n (set undone b (is_busy (amount_at v.excess b) o)) = subst
      (λ t. IsMarked u n (set undone b t)) (ap (is_busy (amount_at v.excess b)) here)
      (marked_set _ u n undone b h.busy l (λ c d. ap (is_busy (amount_at v.excess c)) (there c d))) in
      record {
        sized = record {
          few = omega (arith, k, h.sized.few);
          excess = h.sized.excess ∙ sym k;
          label = h.sized.label
              ∙ sym k;
          source = h.sized.source ∙ sym k;
          sink = h.sized.sink ∙ sym k;
        };
        waiting = subst (λ m. IsMarked w m (set ready b (is_waiting (amount_at v.excess b) o))) (sym k) marked;
        busy = subst (λ m. IsMarked u m (set undone b (is_busy (amount_at v.excess b) o))) (sym k) stirred;
      }

  -- an operation in the place of another
  pub state_works : (o : Operation Amount) (steps : ℕ) → b < length v.operation
      → is_idle (operation_at v.operation b) ≡ false → is_idle o ≡ false
      → IsState (record v { operation = set v.operation b o; steps = steps }) ready undone
  state_works o steps l was now =
      let os = set v.operation b o in
      let k : length os ≡ length v.operation = length-set v.operation b o in
      let idle : (c : ℕ) → is_idle (operation_at os c) ≡ is_idle (operation_at v.operation c) = λ c. elim
      (cases_eq c b) [
        | inl e ↦ subst (λ x. is_idle (operation_at os x) ≡ is_idle (operation_at v.operation x)) (sym e)
            (ap is_idle (get_or-set_same v.operation b o Idle l) ∙ (now ∙ sym was))
        | inr d ↦ ap is_idle (get_or-set_other v.operation b c o Idle d)
      ] in
      record {
        sized = record {
          few = omega (arith, k, h.sized.few);
          excess = h.sized.excess ∙ sym k;
          label = h.sized.label
              ∙ sym k;
          source = h.sized.source ∙ sym k;
          sink = h.sized.sink ∙ sym k;
        };
        waiting = record {
          size = h.waiting.size ∙ sym k;
          at = λ c q. h.waiting.at c (omega (arith, q, k))
              ∙ ap (λ i. i && is_positive (amount_at v.excess c)) (sym (idle c));
        };
        busy = record {
          size = h.busy.size ∙ sym k;
          at = λ c q. h.busy.at c (omega (arith, q, k))
              ∙ ap (λ i. not i || not (is_zero (amount_at v.excess c))) (sym (idle c));
        };
      }

-- the first i marks are as the test has them
pub record IsMarkedUpTo (test : ℕ → Bool) (n : ℕ) (marks : List Bool) (i : ℕ) : Type 0 where
  pub size : length marks ≡ n
  pub at : (k : ℕ) → k < i → mark_at marks k ≡ test k

pub marked_next : (test : ℕ → Bool) (n : ℕ) (marks : List Bool) (i : ℕ) (t : Bool) → IsMarkedUpTo test n marks i
    → i < n → t ≡ test i → IsMarkedUpTo test n (set marks i t) (i + 1)
marked_next test n marks i t h l e = grind (arith, common_steps)
