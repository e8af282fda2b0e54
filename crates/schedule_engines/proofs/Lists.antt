-- Lists that are made number by number.
use Rattle.fixed_worth.proofs.Common.{◌≡◌, ℕ, ◌+◌, ◌<◌, List, [], ◌∷◌, ◌++◌, length, get_or, inl, inr, ap, subst, ◌∙◌}
use Rattle.fixed_worth.proofs.Common.{arith, cases_lt, length-append, get_or_append_left, get_or_push}
use Rattle.schedule_engines.specs.Choice.{AreListed}

-- one more
module _ {X : Type 0} (d : X) (f : ℕ → X) (n : ℕ) (xs ys : List X) (y : X) (size : length xs ≡ n)
    (is : ys ≡ xs ++ y ∷ []) (last : y ≡ f n) (before : (k : ℕ) → k < n → get_or xs k d ≡ f k) where
  pub one_longer : length ys ≡ n + 1
  one_longer = omega (arith, ap length is, length-append xs (y ∷ []), size)

  pub one_more : (k : ℕ) → k < n + 1 → get_or ys k d ≡ f k
  one_more k l = ap (λ (zs : List X). get_or zs k d) is ∙ elim (cases_lt k n) [
    | inl less ↦ get_or_append_left xs (y ∷ []) d k (omega (arith, less, size)) ∙ before k less
    | inr past ↦
        let same : n ≡ k = omega (arith, l, past) in
        subst (λ (j : ℕ). get_or (xs ++ y ∷ []) j d ≡ f j) same (get_or_push xs y d n size ∙ last)
  ]

pub listed_more : (f : ℕ → ℕ) (n : ℕ) (xs ys : List ℕ) (y : ℕ) → ys ≡ xs ++ y ∷ [] → y ≡ f n → AreListed n f xs
    → AreListed (n + 1) f ys
listed_more f n xs ys y is last a = record
    { size = one_longer 0 f n xs ys y a.size is last a.at; at = one_more 0 f n xs ys y a.size is last a.at }
