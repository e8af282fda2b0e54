-- What has a property, gathered element by element.
use Rattle.fixed_worth.proofs.Common.{◌≡◌, ◌≢◌, ℕ, ◌<◌, ◌≤◌, ◌⊎◌, inl, inr, List, [], ◌∷◌, ◌++◌, length, get_or, subst}
use Rattle.fixed_worth.proofs.Common.{◌∙◌, arith, length-append, Contains, get_or_default, Contains-append_left}
use Rattle.fixed_worth.proofs.Common.{Contains-push, Contains-push_cases, All-contains_itself, All-weaker}
use Rattle.fixed_worth.proofs.Common.{all_pairs_push}
use Rattle.slope_offsets.specs.Prelude.{AreMoreThan, Collects}

module _ {X : Type 0} (P Q : X → Type 0) (xs : List X) (c : Collects P xs) where
  -- a list that collects what has a property collects what has another one that holds of just the same elements
  pub collected_same : ((x : X) → P x → Q x) → ((x : X) → Q x → P x) → Collects Q xs
  collected_same f g = record { apart = c.apart; held = λ x q. c.held x (g x q); only = λ x k. f x (c.only x k) }

  -- one that has not the first property is none of the elements
  not_among : (x : X) → (P x → ⊥) → (k : ℕ) (d : X) → k < length xs → get_or xs k d ≢ x
  not_among x n k d l e = n (c.only x (k, l, get_or_default xs k x d l ∙ e))

  -- one element more
  pub collected_more : (x : X) → (P x → ⊥) → Q x → ((y : X) → P y → Q y) → ((y : X) → Q y → P y ⊎ (x ≡ y))
      → Collects Q (xs ++ x ∷ [])
  collected_more x n q f g = record {
    apart = all_pairs_push (λ a b. a ≢ b) xs x c.apart (not_among x n);
    held = λ y h. elim (g y h) [
      | inl p ↦ Contains-append_left xs (x ∷ []) y (c.held y p)
      | inr e ↦ subst (Contains (xs ++ x ∷ [])) e (Contains-push xs x)
    ];
    only = λ y k. elim (Contains-push_cases xs x y k) [ inl k ↦ f y (c.only y k) | inr e ↦ subst Q e q ];
  }

  -- as many as may be, and one more
  pub too_many : (most : ℕ) (x : X) → (P x → ⊥) → Q x → ((y : X) → P y → Q y) → most ≤ length xs → AreMoreThan most Q
  too_many most x n q f l = record {
    some = xs ++ x ∷ [];
    apart = all_pairs_push (λ a b. a ≢ b) xs x c.apart (not_among x n);
    all = All-weaker (Contains (xs ++ x ∷ [])) Q
        (λ y k. elim (Contains-push_cases xs x y k) [ inl k ↦ f y (c.only y k) | inr e ↦ subst Q e q ]) (xs ++ x ∷ [])
        (All-contains_itself (xs ++ x ∷ []));
    more = omega (arith, length-append xs (x ∷ []));
  }

-- more than so many, by a wider property
pub more_weaker : {X : Type 0} (most : ℕ) (P Q : X → Type 0) → ((x : X) → P x → Q x) → AreMoreThan most P
    → AreMoreThan most Q
more_weaker most P Q f m = record { some = m.some; apart = m.apart; all = All-weaker P Q f m.some m.all; more = m.more }
