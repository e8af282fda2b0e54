-- What a set lacks to be closed.
use Rattle.std.specs.Prelude.{◌≡◌, ℕ, ◌<◌, Bool, IsTrue, Option, Some, None, cond, nat_lt, List, length, slice_index_or}
use Rattle.prec_file.specs.Rests.{from_at, to_at, IsFirstNot}
use Rattle.check_pit.specs.Checks.{StaysAt}

-- the set holds every block that b rests on
abbrev pub HoldsAbove : List (ℕ × ℕ) → (ℕ → Bool) → ℕ → Type 0
HoldsAbove ps e b = (k : ℕ) → k < length ps → from_at ps k ≡ b → IsTrue (e (to_at ps k))

-- k is the first pair of b whose predecessor the set lacks
pub record IsFirstLack (ps : List (ℕ × ℕ)) (e : ℕ → Bool) (b k : ℕ) : Type 0 where
  pub below : k < length ps
  pub block : from_at ps k ≡ b
  pub lacks : ¬ (IsTrue (e (to_at ps k)))
  pub before : (j : ℕ) → j < k → from_at ps j ≡ b → IsTrue (e (to_at ps j))

-- p is the first block that b rests on and that the set lacks
abbrev pub IsLacking : List (ℕ × ℕ) → (ℕ → Bool) → ℕ → ℕ → Type 0
IsLacking ps e b p = (k : ℕ) × IsFirstLack ps e b k × (to_at ps k ≡ p)

-- the first pair whose block is in the set and whose predecessor isn't
abbrev pub IsFirstOpen : List (ℕ × ℕ) → (ℕ → Bool) → ℕ × ℕ → Type 0
IsFirstOpen ps e pair = (i : ℕ) × IsFirstNot (StaysAt ps e) (length ps) i × (slice_index_or ps i (0, 0) ≡ pair)

-- the set holds each block that passes the test
abbrev pub HoldsEach : (ℕ → Bool) → (ℕ → Bool) → Type 0
HoldsEach test e = (p : ℕ) → IsTrue (test p) → IsTrue (e p)

-- p is the least block that passes the test and that the set lacks
pub record IsLeastLacking (test e : ℕ → Bool) (p : ℕ) : Type 0 where
  pub passes : IsTrue (test p)
  pub lacks : ¬ (IsTrue (e p))
  pub below : (q : ℕ) → q < p → IsTrue (test q) → IsTrue (e q)

-- the lesser of two numbers, of which one may be none
abbrev pub lesser_number : Option ℕ → ℕ → ℕ
lesser_number None other = other
lesser_number (Some one) other = cond (nat_lt one other) one other

-- the least block so far, where the set lacks it, and what one way more leads to
abbrev pub least_with : (ℕ → Bool) → Option ℕ → Option ℕ → Option ℕ
least_with e least None = least
least_with e least (Some p) = cond (e p) least (Some (lesser_number least p))
