-- How runs by seats end.
use Rattle.fixed_worth.proofs.Common.{inl, inr, ◌⊎◌, ◌≡◌, ℕ, ◌<◌, ◌≤◌, List, [], ◌∷◌, ◌++◌, length, refl, ap, sym, ◌∙◌}
use Rattle.fixed_worth.proofs.Common.{subst, arith, Result, MatchResult, append-nil, common_steps}
use Rattle.ordered_group.specs.Amount.{AtMost}
use Rattle.closure_net.specs.Network.{NetView, FlowView, IsNet}
use Rattle.machine_law.specs.Conservation.{all_given}
use Rattle.machine_law.specs.declared.events.Event.{Event}
use Rattle.machine_law.specs.declared.operations.Operation.TheVariants.{Idle}
use Rattle.workers.specs.declared.solving.SolveFault.{SolveFault}
use Rattle.word_runner.specs.declared.settle_fault.SettleFault.{SettleFault}
use Rattle.word_steps.specs.Prelude.{units}
use Rattle.word_runner.specs.Prelude.{Own, WordsView, IsCutNet, AreNeitherOneNorTwo, steps_made_by, SomeIsBusy}
use Rattle.word_runner.specs.Prelude.{IsQuietRunOf, IsRunSettled, SettleFaultStands, IsQuietEnd, EndFaultStands}
use Rattle.word_runner.specs.Prelude.{WordRunFaultStands, WordSolveFaultStands, IsSolvedBy}

-- what follows on either side of a result
pub on_sides : {A B : Type 0} (P R : A → Type 0) (Q S : B → Type 0) (r : Result A B) → ((a : A) → P a → R a)
    → ((b : B) → Q b → S b) → MatchResult r P Q → MatchResult r R S
on_sides P R Q S r f g h = grind (arith, common_steps)

-- ---- the last seats of a list
no_items : (ys : List Own) → length ys ≡ 0 → ys ≡ []
no_items ys e = grind (arith, common_steps)

pub last_one : (xs ys : List Own) (s : Own) → xs ≡ ys ++ s ∷ [] → length ys ≡ 0 → xs ≡ s ∷ []
last_one xs ys s e l = e ∙ ap (λ (z : List Own). z ++ s ∷ []) (no_items ys l)

pub last_two : (xs ys zs : List Own) (s t : Own) → xs ≡ ys ++ t ∷ [] → ys ≡ zs ++ s ∷ [] → length xs < 3
    → xs ≡ s ∷ t ∷ []
last_two xs ys zs s t e f l = grind (arith, common_steps)

-- ---- what closing the words says of the seats that were handed in
module _ (w : WordsView) (xs : List Own) (m : List Event) (Busy : Type 0) (is : m ≡ steps_made_by xs)
    (busy : Busy → SomeIsBusy xs) where
  settled : (flow : FlowView) → IsQuietEnd w.cut m flow → IsRunSettled w xs flow
  settled flow h = record {
    quiet = subst (λ (z : List Event). IsQuietRunOf w.cut z flow) is h.quiet;
    greatest =
        h.greatest;
  }

  unsettled : (f : SettleFault) → EndFaultStands w.cut m Busy f → SettleFaultStands w xs f
  unsettled f h = grind (arith, common_steps)

  pub closed : (r : Result FlowView SettleFault)
      → MatchResult r (λ flow. IsQuietEnd w.cut m flow) (λ f. EndFaultStands w.cut m Busy f)
      → MatchResult r (λ flow. IsRunSettled w xs flow) (λ f. SettleFaultStands w xs f)
  closed r h = on_sides _ _ _ _ r settled unsettled h

pub closed_one : (w : WordsView) (xs : List Own) (s : Own) → xs ≡ s ∷ [] → (r : Result FlowView SettleFault)
    → MatchResult r (λ flow. IsQuietEnd w.cut s.place.me.0.made flow)
    (λ f. EndFaultStands w.cut s.place.me.0.made (¬ (s.operation ≡ Idle)) f)
    → MatchResult r (λ flow. IsRunSettled w xs flow) (λ f. SettleFaultStands w xs f)
closed_one w xs s e r h =
    subst (λ (z : List Own). MatchResult r (λ flow. IsRunSettled w z flow) (λ f. SettleFaultStands w z f)) (sym e)
    (closed w (s ∷ []) s.place.me.0.made (¬ (s.operation ≡ Idle)) (sym (append-nil s.place.me.0.made))
    (λ b. (0, s, refl, b)) r h)

pub closed_two : (w : WordsView) (xs : List Own) (s t : Own) → xs ≡ s ∷ t ∷ [] → (r : Result FlowView SettleFault)
    → MatchResult r (λ flow. IsQuietEnd w.cut (s.place.me.0.made ++ t.place.me.0.made) flow)
    (λ f. EndFaultStands w.cut (s.place.me.0.made ++ t.place.me.0.made)
    (¬ (s.operation ≡ Idle) ⊎ ¬ (t.operation ≡ Idle)) f)
    → MatchResult r (λ flow. IsRunSettled w xs flow) (λ f. SettleFaultStands w xs f)
closed_two w xs s t e r h =
    subst (λ (z : List Own). MatchResult r (λ flow. IsRunSettled w z flow) (λ f. SettleFaultStands w z f)) (sym e)
    (closed w (s ∷ t ∷ []) (s.place.me.0.made ++ t.place.me.0.made) (¬ (s.operation ≡ Idle) ⊎ ¬ (t.operation ≡ Idle))
    (ap (λ (z : List Event). s.place.me.0.made ++ z) (sym (append-nil t.place.me.0.made)))
    (λ b. elim b [ inl x ↦ (0, s, refl, x) | inr x ↦ (1, t, refl, x) ]) r h)

-- ---- whole runs
module _ (net cut : NetView) (workers : ℕ) (good : ¬ (AreNeitherOneNorTwo workers))
    (small : AtMost (all_given net) (units 9223372036854775807)) (is_cut : IsCutNet net cut) where
  pub fault_ends : (f : SolveFault) → WordRunFaultStands cut f → WordSolveFaultStands net workers f
  fault_ends f h = grind (arith, common_steps)

  pub solved_ends : (limit : ℕ) (m : List Event) (flow : FlowView) (steps : ℕ) → IsNet net → IsQuietEnd cut m flow
      → length m ≡ steps → steps ≤ limit → IsSolvedBy net workers limit flow steps
  solved_ends limit m flow steps is h counted within = record {
    good = good;
    small = small;
    cut = cut;
    is_cut = is_cut;
    made = m;
    counted = counted;
    within = within;
    quiet =
        h.quiet;
    greatest = h.greatest net is is_cut;
  }
