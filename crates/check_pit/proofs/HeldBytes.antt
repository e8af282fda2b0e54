-- A part of a buffer that loses its first bytes, or gets more after it.
use Rattle.fixed_worth.proofs.Common.{◌≡◌, ℕ, ◌+◌, ◌-◌, ◌≤◌, List, length, take, drop, slice_range, Option, ap, arith}
use Rattle.fixed_worth.proofs.Common.{length-take, length-take-le, length-drop, drop-drop, drop-take, take-add}
use Rattle.fixed_worth.proofs.Common.{Consumes, common_steps}
use Rattle.check_pit.specs.StreamBytes.{AppendsRead}

-- the first n bytes of a part are passed
pub passed : (xs ys : List ℕ) (a e n : ℕ) → slice_range xs a e ≡ ys → n ≤ length ys
    → slice_range xs (a + n) e ≡ drop n ys
passed xs ys a e n is h = grind (
  arith,
  common_steps,
  (ap length is),
  (length-take (e - a) (drop a xs)),
  (drop-drop n a xs),
  (drop-take n (e - (a + n)) (drop a xs)),
)

-- n bytes are read after the first h, which are what was held
pub read_more : (remaining left : Option (List ℕ)) (buffer held : List ℕ) (h n : ℕ) → take h buffer ≡ held
    → h + n ≤ length buffer → Consumes remaining left (take n (drop h buffer))
    → AppendsRead remaining left held (slice_range buffer 0 (h + n)) n
read_more remaining left buffer held h n is inside given = grind
    (arith, common_steps, length-take-le, length-drop, take-add)
