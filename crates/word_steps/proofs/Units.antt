-- Amounts of units, and numbers.
use Rattle.fixed_worth.proofs.Common.{◌≡◌, ℕ, ◌+◌, ◌-◌, ◌%◌, ◌≤◌, ap, arith, ints}
use Rattle.ordered_group.specs.Amount.{Amount, plus, minus, AtMost}
use Rattle.ordered_group.proofs.Order.{AtMost-trans}
use Rattle.machine_law.proofs.Numbers.{same, equal}
use Rattle.word_steps.specs.Layout.{units}

-- equal amounts of units are of equal numbers
pub units_same : (x y : ℕ) → units x ≡ units y → x ≡ y
units_same x y e = let w = ap (λ (a : Amount). a.w) e in omega (arith, ints, w)

-- a division by 1 leaves nothing
pub by_one : (b : ℕ) → b % 1 ≡ 0
by_one b = omega arith

-- what an amount of units says of numbers
pub units_most : (d x : ℕ) (e : Amount) → e ≡ units x → AtMost (units d) e → d ≤ x
units_most d x e is h = let s = same is in omega (arith, ints, s, h)

pub units_minus : (x d : ℕ) (e : Amount) → e ≡ units x → d ≤ x → minus e (units d) ≡ units (x - d)
units_minus x d e is h = let s = same is in equal (record { w = omega (arith, ints, s, h); c = omega (arith, ints, s) })

pub units_plus : (x d : ℕ) (e : Amount) → e ≡ units x → plus e (units d) ≡ units (x + d)
units_plus x d e is = let s = same is in equal (record { w = omega (arith, ints, s); c = omega (arith, ints, s) })

-- what may still be given falls by what is given
pub less_room : (n s : Amount) (x d : ℕ) → minus n s ≡ units x → d ≤ x → minus n (plus s (units d)) ≡ units (x - d)
less_room n s x d e l = let i = same e in equal (record { w = omega (arith, ints, i, l); c = omega (arith, ints, i) })

-- no word of an excess or an arrival passes what is given in all
pub fits_in : (k x : ℕ) (a y : Amount) → a ≡ units x → AtMost a y → AtMost y (units k) → x ≤ k
fits_in k x a y e h g = let s = same e in let t = AtMost-trans a y (units k) h g in omega (arith, ints, s, t)

pub units_above : (k x : ℕ) → k ≤ x → AtMost (units k) (units x)
units_above k x l = record { worths = omega (arith, ints, l); counts = λ i. omega (arith, ints) }
