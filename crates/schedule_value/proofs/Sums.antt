-- How large products and sums of figures may be.
use Rattle.fixed_worth.proofs.Common.{ℕ, suc, ◌*◌, ◌≤◌, ℤ, pos, negsuc, neg_ℤ, ◌*ℤ◌, ◌≤ℤ◌, arith, ints, mul-le}
use Rattle.schedule_value.specs.Bounds.{IsWithin}

-- a worth at a weight
times_within : (z : ℤ) (w b k : ℕ) → z ≤ℤ pos b → neg_ℤ (pos b) ≤ℤ z → w ≤ k → ((z *ℤ pos w) ≤ℤ pos (b * k))
    × (neg_ℤ (pos (b * k)) ≤ℤ (z *ℤ pos w))
times_within (pos d) w b k h g l =
    let m : d * w ≤ b * k = mul-le d w b k (omega (arith, ints, h)) l in
    (omega (arith, ints, m), omega (arith, ints, m))
times_within (negsuc d) w b k h g l =
    let m : suc d * w ≤ b * k = mul-le (suc d) w b k (omega (arith, ints, g)) l in
    (omega (arith, ints, m), omega (arith, ints, m))

pub value_within : (z : ℤ) (w : ℕ) → z ≤ℤ pos 100000000000000000000000 → neg_ℤ (pos 100000000000000000000000) ≤ℤ z
    → w ≤ 1000000 → IsWithin 1 (z *ℤ pos w)
value_within z w h g l = let m = times_within z w 100000000000000000000000 1000000 h g l in record
    { most = m.0; least = m.1 }
