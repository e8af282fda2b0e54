-- What a list of blocks holds.
use Rattle.fixed_worth.proofs.Common.{◌≡◌, ℕ, ◌<◌, ◌==◌, Bool, true, false, List, length, get_or, refl, arith}
use Rattle.fixed_worth.proofs.Common.{Any-from_list_any, list_any_at, eq-eqb, common_steps}
use Rattle.closure_net.specs.Network.{holds_of}

-- a test has one answer
pub apart : (t : Bool) → t ≡ false → t ≡ true → ⊥
apart t h e = grind (arith, common_steps)

-- tests that follow from each other are equal
pub same_tests : (x y : Bool) → (x ≡ true → y ≡ true) → (y ≡ true → x ≡ true) → x ≡ y
same_tests x y h k = grind (arith, common_steps)

-- it holds what stands in it
pub holds_at : (xs : List ℕ) (i : ℕ) → i < length xs → holds_of xs (get_or xs i 0) ≡ true
holds_at xs i h = list_any_at (λ x. x == get_or xs i 0) xs i 0 h (eq-eqb (get_or xs i 0) (get_or xs i 0) refl)

-- what it holds stands at a place of it
pub place_of : (xs : List ℕ) (x : ℕ) → holds_of xs x ≡ true → (i : ℕ) × (i < length xs) × (get_or xs i 0 ≡ x)
place_of xs x h = grind (arith, common_steps, Any-from_list_any)
