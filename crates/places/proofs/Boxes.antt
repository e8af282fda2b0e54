-- Spots of a box and their cells.
use Rattle.fixed_worth.proofs.Common.{◌≡◌, ℕ, ◌<◌, ◌+◌, ◌*◌, ◌%◌, ◌/◌, ◌∙◌, sym, ap, arith, div-mul-add}
use Rattle.std.proofs.lemmas.Nat.{mod-mul-add, mul-add-lt}
use Rattle.std.proofs.Math.Nat.{add-mul}
use Rattle.places.specs.Boxes.{cell_of}

-- cells add up
pub cell_add : (sx sy x y z a b c : ℕ) → cell_of sx sy (x + a) (y + b) (z + c) ≡ cell_of sx sy x y z
    + cell_of sx sy a b c
cell_add sx sy x y z a b c = omega
    (arith, add-mul (z * sy + y) (c * sy + b) sx, add-mul z c sy, ap (λ k. k * sx) (rows sy y z b c))
  where
    rows : (sy y z b c : ℕ) → (z + c) * sy + (y + b) ≡ (z * sy + y) + (c * sy + b)
    rows sy y z b c = omega (arith, add-mul z c sy)

-- two spots of the box in one cell are one
pub cell_tells : (sx sy x y z x' y' z' : ℕ) → x < sx → x' < sx → y < sy → y' < sy
    → cell_of sx sy x y z ≡ cell_of sx sy x' y' z' → (x ≡ x') × (y ≡ y') × (z ≡ z')
cell_tells sx sy x y z x' y' z' hx hx' hy hy' e =
    let row : z * sy + y ≡ z' * sy + y' = sym (div-mul-add (z * sy + y) sx x hx)
    ∙ (ap (λ k. k / sx) e ∙ div-mul-add (z' * sy + y') sx x' hx') in (
      sym (mod-mul-add (z * sy + y) sx x hx) ∙ (ap (λ k. k % sx) e ∙ mod-mul-add (z' * sy + y') sx x' hx'),
      sym (mod-mul-add z sy y hy) ∙ (ap (λ k. k % sy) row ∙ mod-mul-add z' sy y' hy'),
      sym (div-mul-add z sy y hy) ∙ (ap (λ k. k / sy) row ∙ div-mul-add z' sy y' hy'),
    )

-- the cells of a box are as many as its spots
pub cell_within : (sx sy sz x y z : ℕ) → x < sx → y < sy → z < sz → cell_of sx sy x y z < sx * (sy * sz)
cell_within sx sy sz x y z hx hy hz = mul-add-lt (z * sy + y) sx x (sy * sz) (mul-add-lt z sy y sz hz hy) hx
