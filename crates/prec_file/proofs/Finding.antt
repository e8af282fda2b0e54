-- Finding a pair among those of its block.
use Rattle.fixed_worth.proofs.Common.{◌≡◌, ◌≢◌, ℕ, ◌+◌, ◌<◌, ◌≤◌, ◌==◌, inl, inr, List, length, get_or, Some, None}
use Rattle.fixed_worth.proofs.Common.{Result, Ok, Err, sym, ap, subst, ◌∙◌, arith, Contains, IsBinarySearchResult}
use Rattle.fixed_worth.proofs.Common.{nat_cmp, result_ok, searched, cases_eq, cases_lt, eq-eqb, eqb-true, length-map}
use Rattle.fixed_worth.proofs.Common.{get_or-map, get_or_default, common_steps}
use Rattle.prec_file.specs.Rests.{numbers, from_at, to_at, first_of, above_of, IsRising}
use Rattle.prec_file.proofs.Passing.{passing_at, passing_here, passing_after}
use Rattle.prec_file.proofs.Order.{own_at}

-- b has as many predecessors as pairs
pub above_length : (ps : List (ℕ × ℕ)) (b : ℕ) → length (above_of ps b) ≡ length (numbers (from_at ps) b (length ps))
above_length ps b = length-map (numbers (from_at ps) b (length ps)) (to_at ps)

-- the pairs of b are numbered on from its first one, in the order of its predecessors
pub above_at : (ps : List (ℕ × ℕ)) → IsRising ps → (b i : ℕ) → i < length (above_of ps b)
    → (first_of ps b + i < length ps) × (get_or ps (first_of ps b + i) (0, 0) ≡ (b, get_or (above_of ps b) i 0))
above_at ps r b i l =
    let own = numbers (from_at ps) b (length ps) in
    let i' : i < length own = omega (arith, above_length ps b) in
    let p = passing_at (λ j. from_at ps j == b) (length ps) i i' in
    let at = own_at ps r b i i' in
    let from : from_at ps (first_of ps b + i) ≡ b = ap (from_at ps) (sym at)
    ∙ eqb-true (from_at ps (get_or own i 0)) b p.passes in
    let to : to_at ps (first_of ps b + i) ≡ get_or (above_of ps b) i 0 = ap (to_at ps) (sym at)
    ∙ sym (get_or-map (to_at ps) own i 0 0 i') in
    (omega (arith, p.below, at), λ j. (from j, to j))

-- the predecessors of b rise
pub above_rises : (ps : List (ℕ × ℕ)) → IsRising ps → (b i j : ℕ) → i < j → j < length (above_of ps b)
    → get_or (above_of ps b) i 0 < get_or (above_of ps b) j 0
above_rises ps r b i j h l = grind (arith, common_steps, (above_at ps r b i (omega arith)), (above_at ps r b j l))

pub above_ascends : (ps : List (ℕ × ℕ)) → IsRising ps → (b i j : ℕ) → i ≤ j → j < length (above_of ps b)
    → get_or (above_of ps b) i 0 ≤ get_or (above_of ps b) j 0
above_ascends ps r b i j h l = elim (cases_eq i j) [
  | inl e ↦ let P : ℕ → Type 0 = λ k. get_or (above_of ps b) i 0 ≤ get_or (above_of ps b) k 0 in subst P e (omega arith)
  | inr d ↦ omega (arith, above_rises ps r b i j (omega arith) l)
]

-- the predecessor of each of b's pairs is among b's
pub above_has : (ps : List (ℕ × ℕ)) (b k : ℕ) → k < length ps → from_at ps k ≡ b
    → (length (numbers (from_at ps) b k) < length (above_of ps b))
    × (get_or (above_of ps b) (length (numbers (from_at ps) b k)) 0 ≡ to_at ps k)
above_has ps b k l e =
    let own = numbers (from_at ps) b (length ps) in
    let i = length (numbers (from_at ps) b k) in
    let t = eq-eqb (from_at ps k) b e in
    let i' : i < length own = passing_after (λ j. from_at ps j == b) k (length ps) l t in (
      omega (arith, i', above_length ps b),
      get_or-map (to_at ps) own i 0 0 i'
          ∙ ap (to_at ps) (passing_here (λ j. from_at ps j == b) k (length ps) l t),
    )

-- where p isn't among b's predecessors, there is no such pair
pub not_listed : (ps : List (ℕ × ℕ)) (b p : ℕ)
    → ((i : ℕ) → i < length (above_of ps b) → get_or (above_of ps b) i 0 ≢ p) → ¬ (Contains ps (b, p))
not_listed ps b p none c =
    let e : get_or ps c.0 (0, 0) ≡ (b, p) = get_or_default ps c.0 (0, 0) (b, p) c.1 ∙ c.2 in
    let h = above_has ps b c.0 c.1 (ap (λ (x : ℕ × ℕ). x.0) e) in
    none (length (numbers (from_at ps) b c.0)) h.0 (h.1 ∙ ap (λ (x : ℕ × ℕ). x.1) e)

-- what is found among b's predecessors is the pair's number
pub found_pair : (ps : List (ℕ × ℕ)) → IsRising ps → (b p i : ℕ) → i < length (above_of ps b)
    → get_or (above_of ps b) i 0 ≡ p → (first_of ps b + i < length ps) × (get_or ps (first_of ps b + i) (0, 0) ≡ (b, p))
found_pair ps r b p i l e = grind (arith, common_steps, (above_at ps r b i l))

from_ok : (r : Result ℕ ℕ) (i : ℕ) → Some i ≡ result_ok r → r ≡ Ok i
from_ok r i e = grind (arith, common_steps)

from_none : (r : Result ℕ ℕ) → None ≡ result_ok r → (j : ℕ) × (r ≡ Err j)
from_none r e = grind (arith, common_steps)

-- what a binary search among b's predecessors says of the pair
pub hit : (ps : List (ℕ × ℕ)) → IsRising ps → (b p i : ℕ) (r : Result ℕ ℕ) → Some i ≡ result_ok r → (xs : List ℕ)
    → xs ≡ above_of ps b → IsBinarySearchResult (λ y. nat_cmp y p) xs r
    → (first_of ps b + i < length ps) × (get_or ps (first_of ps b + i) (0, 0) ≡ (b, p))
hit ps up b p i r found xs e h =
    let P : List ℕ → Type 0 = λ ys. IsBinarySearchResult (λ y. nat_cmp y p) ys (Ok i) in
    let s = searched (above_of ps b) p (Ok i)
    (subst P e (subst (IsBinarySearchResult (λ y. nat_cmp y p) xs) (from_ok r i found) h))
    (above_ascends ps up b) in
    found_pair ps up b p i s.0 s.1

pub miss : (ps : List (ℕ × ℕ)) → IsRising ps → (b p : ℕ) (r : Result ℕ ℕ) → None ≡ result_ok r → (xs : List ℕ)
    → xs ≡ above_of ps b → IsBinarySearchResult (λ y. nat_cmp y p) xs r → ¬ (Contains ps (b, p))
miss ps up b p r none xs e h =
    let w = from_none r none in
    let i = w.0 in
    let P : List ℕ → Type 0 = λ ys. IsBinarySearchResult (λ y. nat_cmp y p) ys (Err i) in
    let s = searched (above_of ps b) p (Err i) (subst P e (subst (IsBinarySearchResult (λ y. nat_cmp y p) xs) w.1 h))
    (above_ascends ps up b) in
    not_listed ps b p (λ j l q. elim (cases_lt j i)
    [ inl a ↦ omega (arith, s.1 j a, q) | inr a ↦ omega (arith, s.2 j a l, q) ])
