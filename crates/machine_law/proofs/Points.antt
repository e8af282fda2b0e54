-- A function after one of its values is changed.
use Rattle.fixed_worth.proofs.Common.{◌≡◌, ◌≢◌, ℕ, ◌<◌, ◌==◌, arith, refl, ap, ◌∙◌, cases_eq, eq-eqb, ne_eqb}
use Rattle.fixed_worth.proofs.Common.{common_steps}
use Rattle.ordered_group.specs.Prelude.{Amount, plus, total, where_so}
use Rattle.ordered_group.proofs.Totals.{total_changed}
use Rattle.machine_law.specs.States.{with_value_at}
use Rattle.machine_law.proofs.Numbers.{Same, same}

pub with_value_at-same : {X : Type 0} (f : ℕ → X) (k : ℕ) (v : X) → with_value_at f k v k ≡ v
unfolding with_value_at
with_value_at-same f k v = rw (eq-eqb k k refl) refl

pub with_value_at-other : {X : Type 0} (f : ℕ → X) (k : ℕ) (v : X) (i : ℕ) → i ≢ k → with_value_at f k v i ≡ f i
unfolding with_value_at
with_value_at-other f k v i ne = rw (ne_eqb i k ne) refl

-- what holds of the new value, and of each other one
pub with_value_at-each : {X : Type 0} (P : ℕ → X → Type 0) (f : ℕ → X) (k : ℕ) (v : X) → P k v
    → ((i : ℕ) → i ≢ k → P i (f i)) → (i : ℕ) → P i (with_value_at f k v i)
with_value_at-each P f k v hv h i = grind (arith, common_steps, cases_eq, with_value_at-same, with_value_at-other)

-- a sum over the values
pub total-with_value_at : {X : Type 0} (F : ℕ → X → Amount) (f : ℕ → X) (k : ℕ) (v : X) (n : ℕ) → k < n
    → Same (plus (total (λ i. F i (with_value_at f k v i)) n) (F k (f k))) (plus (total (λ i. F i (f i)) n) (F k v))
total-with_value_at F f k v n l =
    same (total_changed (λ i. F i (f i)) (λ i. F i (with_value_at f k v i)) k n l
    (λ i _ ne. ap (F i) (with_value_at-other f k v i ne))
    ∙ ap (λ a. plus (total (λ i. F i (f i)) n) a) (ap (F k) (with_value_at-same f k v)))

-- an amount at each place, where the old value is named
pub where-with_value_at : {X : Type 0} (F : X → Amount) (f : ℕ → X) (k : ℕ) (old v : X) (x : ℕ) → f k ≡ old
    → Same (plus (F (with_value_at f k v x)) (where_so (k == x) (F old))) (plus (F (f x)) (where_so (k == x) (F v)))
where-with_value_at F f k old v x e = grind
    (arith, common_steps, cases_eq, same, with_value_at-same, eq-eqb, with_value_at-other, ne_eqb)
