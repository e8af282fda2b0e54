-- The next line of a text, and what is left after it.
use Rattle.fixed_worth.proofs.Common.{◌≡◌, ℕ, ◌+◌, ◌≤◌, false, List, ◌∷◌, length, refl, arith, nat_lt, nat_tests}
use Rattle.fixed_worth.specs.declared.limits.TheConstants.{LINE_BYTES}
use Rattle.fixed_worth.specs.Prelude.{Left, Line, numbered_lines}

abbrev pub line : ℕ → List ℕ → Line
line k text = record { number = k; text = text }

pub record Next (left next : Left) (k : ℕ) (text : List ℕ) : Type 0 where
  pub lines : left.lines ≡ text ∷ next.lines
  pub number : next.number ≡ left.number + 1
  pub same : k ≡ next.number
  pub small : length text ≤ LINE_BYTES

pub next_is : (left next : Left) (k : ℕ) (text : List ℕ) → Next left next k text
    → numbered_lines left.number left.lines ≡ line k text ∷ numbered_lines next.number next.lines
next_is left next k text h = rw (h.lines, h.same, h.number) refl

pub short : (text : List ℕ) → length text ≤ LINE_BYTES → nat_lt LINE_BYTES (length text) ≡ false
short text h = grind (arith, nat_tests)
