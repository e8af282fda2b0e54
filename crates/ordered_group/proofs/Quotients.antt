-- Quotients that are rounded down, of a number and of what is added to it.
use Rattle.std.proofs.Common.{◌≡◌, ℕ, suc, ◌+◌, ◌-◌, ◌*◌, ◌/◌, ◌%◌, ◌^◌, ◌<◌, ap, ap₂, ◌∙◌, arith, ℤ, pos, negsuc, ◌+ℤ◌}
use Rattle.std.proofs.Common.{◌*ℤ◌, FitsSigned, to_z, of_z, int_div, Option, Some, None}
use Rattle.std.specs.Int.{w128, int_div_euclid, int_rem_euclid}
use Rattle.std.specs.Option.{SomeIff}
use Rattle.std.proofs.lemmas.Int.{ints, to_z-of_z}
use Rattle.std.proofs.lemmas.Nat.{div-mul-add, div-add-mod', mod_below}
use Rattle.ordered_group.specs.Prelude.{TellsWorth, sum_times}
use Rattle.std.proofs.lemmas.Grind.{common_steps}

-- q times m, and less than m more
quotient_is : (z q : ℤ) (m r : ℕ) → r < m → z ≡ (q *ℤ pos m) +ℤ pos r → int_div_euclid z (pos m) ≡ q
quotient_is z (pos a) m r l h = grind (arith, common_steps, div-mul-add)
quotient_is z (negsuc a) m r l h =
    let e : z ≡ negsuc (a * m + (m - suc r)) = omega (arith, ints, h, l) in
    ap (λ (x : ℤ). int_div_euclid x (pos m)) e ∙ ap negsuc (div-mul-add a m (m - suc r) (omega (arith, l)))

-- a number by its quotient and its remainder
by_quotient : (z : ℤ) (m : ℕ) → 0 < m → z ≡ (int_div_euclid z (pos m) *ℤ pos m) +ℤ int_rem_euclid z (pos m)
by_quotient (pos a) m h = omega (arith, ints, div-add-mod' a m)
by_quotient (negsuc a) m h = omega (arith, ints, div-add-mod' a m, mod_below a m h)

-- what is added goes to the remainder first
pub quotient_with : (z : ℤ) (m k r : ℕ) → 0 < m → int_rem_euclid z (pos m) ≡ pos r
    → int_div_euclid (z +ℤ pos k) (pos m) ≡ int_div_euclid z (pos m) +ℤ pos ((r + k) / m)
quotient_with z m k r h e =
    quotient_is (z +ℤ pos k) (int_div_euclid z (pos m) +ℤ pos ((r + k) / m)) m ((r + k) % m) (mod_below (r + k) m h)
    (omega (
      arith,
      ints,
      by_quotient z m h,
      e,
      sum_times (int_div_euclid z (pos m)) (pos ((r + k) / m)) m,
      div-add-mod' (r + k) m,
    ))

-- a quotient of what isn't negative, as the machine divides
pub machine_quotient : (x y : ℤ) (a d : ℕ) → x ≡ pos a → y ≡ pos d → 0 < d → a < 2 ^ 127
    → to_z w128 (of_z w128 (int_div x y)) ≡ pos (a / d)
machine_quotient x y a d e f h l =
    ap₂ (λ (u v : ℤ). to_z w128 (of_z w128 (int_div u v))) e f
    ∙ to_z-of_z w128 (pos (a / d)) (omega (arith, ints, l, div-add-mod' a d))

-- what a sum that is tested answers
pub told_exactly : (v sum : ℤ) (o : Option ℤ) → sum ≡ v → SomeIff o (FitsSigned w128 sum) sum → TellsWorth v o
told_exactly v sum (Some x) e h = h.1 ∙ e
told_exactly v sum None e h = rw e at h
