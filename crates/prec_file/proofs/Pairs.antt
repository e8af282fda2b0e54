-- Telling one pair from all others, and whether it is listed, as a test says it and as a member of the list.
use Rattle.fixed_worth.proofs.Common.{◌≡◌, ℕ, Bool, true, ◌&&◌, ◌==◌, ap, arith, IsTrue, List, refl, and_from, eq-eqb}
use Rattle.fixed_worth.proofs.Common.{eqb-true, and_parts, common_steps, Contains, Any-from_list_any, list_any-from_Any}
use Rattle.prec_file.specs.Rests.{has_pair}

abbrev pub is_pair : ℕ → ℕ → ℕ × ℕ → Bool
is_pair b p q = (q.0 == b) && (q.1 == p)

pub tells_pair : (b p : ℕ) (q : ℕ × ℕ) → q ≡ (b, p) → is_pair b p q ≡ true
tells_pair b p q e = and_from _ _ (eq-eqb q.0 b (ap (λ r. r.0) e)) (eq-eqb q.1 p (ap (λ r. r.1) e))

pub pair_told : (b p : ℕ) (q : ℕ × ℕ) → is_pair b p q ≡ true → q ≡ (b, p)
pair_told b p q h = grind (arith, common_steps)

pub rests_of_pair : (pairs : List (ℕ × ℕ)) (b p : ℕ) → Contains pairs (b, p) → IsTrue (has_pair pairs b p)
rests_of_pair pairs b p c = list_any-from_Any (λ (q : ℕ × ℕ). (q.0 == b) && (q.1 == p)) pairs
    (c.0, (b, p), c.1, c.2, and_from (b == b) (p == p) (eq-eqb b b refl) (eq-eqb p p refl))

pub pair_of_rests : (pairs : List (ℕ × ℕ)) (b p : ℕ) → IsTrue (has_pair pairs b p) → Contains pairs (b, p)
pair_of_rests pairs b p held = grind (arith, common_steps, Any-from_list_any, and_parts, eqb-true)
