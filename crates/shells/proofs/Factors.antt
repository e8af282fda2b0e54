-- Ascending factors, and one above them all.
use Rattle.fixed_worth.proofs.Common.{◌≡◌, ℕ, ◌-◌, ◌<◌, List, [], ◌∷◌, ◌++◌, length, length-append, get_or, inl, inr}
use Rattle.fixed_worth.proofs.Common.{refl, ap, ◌∙◌, arith, Contains, cases_lt, get_or_default, get_or_append_left}
use Rattle.fixed_worth.proofs.Common.{common_steps}
use Rattle.closure_net.specs.Network.{IsAscending}
use Rattle.shells.specs.Series.{IsAboveAll}

last_at : (xs : List ℕ) (k : ℕ) → get_or (xs ++ k ∷ []) (length xs) 0 ≡ k
last_at [] k = refl
last_at (x ∷ xs) k = last_at xs k

pub one_last : (k x : ℕ) → Contains (k ∷ []) x → x ≡ k
one_last k x c = grind (arith, common_steps)

pub rising_more : (factors : List ℕ) (k : ℕ) → IsAscending factors → IsAboveAll factors k
    → IsAscending (factors ++ k ∷ [])
rising_more factors k rising above i j l m =
    let size = length-append factors (k ∷ []) in
    elim (cases_lt j (length factors)) [
      | inl inner ↦ rw (
        get_or_append_left factors (k ∷ []) 0 i (omega (arith, l, inner)),
        get_or_append_left factors
            (k ∷ []) 0 j inner,
      ) (rising i j l inner)
      | inr past ↦
          let last : j ≡ length factors = omega (arith, past, m, size) in
          let low : i < length factors = omega (arith, l, last) in
          let here : get_or (factors ++ k ∷ []) j 0 ≡ k = ap (λ n. get_or (factors ++ k ∷ []) n 0) last
          ∙ last_at factors k in
          rw (get_or_append_left factors (k ∷ []) 0 i low, here)
          (above (get_or factors i 0) (i, low, get_or_default factors i _ 0 low))
    ]

-- what is above the last is above all
pub above_last : (xs : List ℕ) (k : ℕ) → IsAscending xs → get_or xs (length xs - 1) 0 < k → IsAboveAll xs k
above_last xs k rising low j c =
    let at : get_or xs c.0 0 ≡ j = get_or_default xs c.0 0 j c.1 ∙ c.2 in
    elim (cases_lt c.0 (length xs - 1)) [
      | inl l ↦ omega (arith, at, low, rising c.0 (length xs - 1) l (omega (arith, l)))
      | inr m ↦
          let e : c.0 ≡ length xs - 1 = omega (arith, m, c.1) in
          let same : get_or xs c.0 0 ≡ get_or xs (length xs - 1) 0 = ap (λ i. get_or xs i 0) e in
          omega (arith, at, same, low)
    ]

pub last_below : (xs : List ℕ) (k : ℕ) → ¬ (length xs ≡ 0) → IsAboveAll xs k → get_or xs (length xs - 1) 0 < k
last_below xs k some above =
    let l : length xs - 1 < length xs = omega (arith, some) in
    above (get_or xs (length xs - 1) 0) (length xs - 1, l, get_or_default xs (length xs - 1) _ 0 l)
