-- A part of a list of numbers, from a place on.
use Rattle.fixed_worth.proofs.Common.{◌≡◌, ℕ, ◌+◌, ◌<◌, ◌≤◌, List, length, get_or, take, drop, ◌∙◌, arith, length-drop}
use Rattle.fixed_worth.proofs.Common.{get_or-take, get_or-drop, length-take-le}

pub length-part : (xs : List ℕ) (i k : ℕ) → i + k ≤ length xs → length (take k (drop i xs)) ≡ k
length-part xs i k h = length-take-le k (drop i xs) (omega (arith, length-drop i xs))

pub get_or-part : (xs : List ℕ) (i k j : ℕ) → j < k → get_or (take k (drop i xs)) j 0 ≡ get_or xs (i + j) 0
get_or-part xs i k j h = get_or-take k (drop i xs) j 0 h ∙ get_or-drop i xs j 0
