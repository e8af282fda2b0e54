-- The first of ascending factors whose pit holds a block is the block's shell.
use Rattle.fixed_worth.proofs.Common.{◌≡◌, ℕ, zero, suc, ◌<◌, nat_le, List, [], ◌∷◌, length, get_or, refl, ap, arith}
use Rattle.fixed_worth.proofs.Common.{Option, Some, None, inl, inr, find, Contains, cases_eq, le-leb, lt-leb}
use Rattle.fixed_worth.proofs.Common.{get_or_default}
use Rattle.closure_net.specs.Network.{IsAscending}
use Rattle.closure_net.proofs.Ascending.{tail_ascends}
use Rattle.shells.specs.Series.{is_upto}

none_holds : (factors : List ℕ) → find (λ k. is_upto None k) factors ≡ None
none_holds [] = refl
none_holds (f ∷ factors) = none_holds factors

-- what is held and isn't the first is above it, and among the others
past : (f x : ℕ) (factors : List ℕ) (i : ℕ) → IsAscending (f ∷ factors) → (f ≡ x → ⊥) → i < length (f ∷ factors)
    → get_or (f ∷ factors) i x ≡ x → (f < x) × Contains factors x
past f x factors zero h ne l e = absurd (ne e)
past f x factors (suc i) h ne l e =
    let inside : i < length factors = omega (arith, l) in
    let above = h 0 (suc i) (omega arith) l in
    let at = get_or_default factors i x 0 inside in
    (omega (arith, above, at, e), (i, inside, e))

first_held : (x : ℕ) (factors : List ℕ) → IsAscending factors → Contains factors x
    → find (λ k. nat_le x k) factors ≡ Some x
first_held x [] h c = absurd (omega (arith, c.1))
first_held x (f ∷ factors) h c = elim (cases_eq f x) [
  | inl e ↦ (rw (le-leb x f (omega (arith, e))) (ap Some e))
  | inr ne ↦ (let p = past f x factors c.0 h ne c.1 c.2 in rw (lt-leb x f p.0)
      (first_held x factors (tail_ascends f factors h) p.1))
]

pub first_is : (o : Option ℕ) (factors : List ℕ) → IsAscending factors → ((x : ℕ) → o ≡ Some x → Contains factors x)
    → find (λ k. is_upto o k) factors ≡ o
first_is None factors h known = none_holds factors
first_is (Some x) factors h known = first_held x factors h (known x refl)
