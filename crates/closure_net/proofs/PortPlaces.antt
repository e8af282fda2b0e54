-- The ports of a block, by the two indexes of its pairs.
use Rattle.fixed_worth.proofs.Common.{◌≡◌, ℕ, ◌+◌, ◌<◌, ◌≤◌, ◌==◌, List, length, get_or, sym, ap, ◌∙◌, arith, Some}
use Rattle.fixed_worth.proofs.Common.{slice_get, get_or-map, length-map, slice_get-get_or, common_steps}
use Rattle.prec_file.specs.Rests.{from_at, to_at, numbers, above_of, below_of, first_of, IsRising}
use Rattle.prec_file.proofs.Passing.{passing_at, passing_most}
use Rattle.prec_file.proofs.Order.{own_at}
use Rattle.closure_net.specs.declared.port.Port.{Port}
use Rattle.closure_net.specs.declared.port.PortKind.TheVariants.{Forward}
use Rattle.closure_net.specs.Ports.{forward_port, backward_port, forward_ports, backward_ports}

-- the ports of these pairs to the blocks that b rests on, and to those that rest on b
abbrev pub fore : List (ℕ × ℕ) → ℕ → List Port
fore ps b = forward_ports (from_at ps) (to_at ps) (length ps) b

abbrev pub back : List (ℕ × ℕ) → ℕ → List Port
back ps b = backward_ports (from_at ps) (to_at ps) (length ps) b

-- as many as the index has blocks, or numbers
pub length_fore : (ps : List (ℕ × ℕ)) (b : ℕ) (ts : List ℕ) → ts ≡ above_of ps b → length (fore ps b) ≡ length ts
length_fore ps b ts e = grind (arith, common_steps)

pub length_back : (ps : List (ℕ × ℕ)) (b : ℕ) (ks : List ℕ) → ks ≡ below_of ps b → length (back ps b) ≡ length ks
length_back ps b ks e = length-map (below_of ps b) (backward_port (from_at ps)) ∙ sym (ap length e)

-- and no more than there are pairs
pub fore_most : (ps : List (ℕ × ℕ)) (b : ℕ) → length (fore ps b) ≤ length ps
fore_most ps b = omega (
  arith,
  length-map (numbers (from_at ps) b (length ps)) (forward_port (to_at ps)),
  passing_most
      (λ k. from_at ps k == b) (length ps),
)

pub back_most : (ps : List (ℕ × ℕ)) (b : ℕ) → length (back ps b) ≤ length ps
back_most ps b = omega (
  arith,
  length-map (numbers (to_at ps) b (length ps)) (backward_port (from_at ps)),
  passing_most (λ k. to_at ps k == b) (length ps),
)

-- where the i-th pair of b stands
pub fore_slot : (ps : List (ℕ × ℕ)) → IsRising ps → (b i : ℕ) → i < length (fore ps b) → first_of ps b + i < length ps
fore_slot ps r b i l =
    let ks = numbers (from_at ps) b (length ps) in
    let inside : i < length ks = omega (arith, length-map ks (forward_port (to_at ps))) in
    let p = passing_at (λ k. from_at ps k == b) (length ps) i inside in
    omega (arith, own_at ps r b i inside, p.below)

pub fore_is : (ps : List (ℕ × ℕ)) → IsRising ps → (b i top first : ℕ) (ts : List ℕ) → ts ≡ above_of ps b
    → i < length (fore ps b) → top ≡ get_or ts i 0 → first ≡ first_of ps b
    → (let p : Port = record { kind = Forward; other = top; slot = first + i } in slice_get (fore ps b) i ≡ Some p)
fore_is ps r b i top first ts e l q f = grind (
  arith,
  common_steps,
  (numbers (from_at ps) b (length ps)),
  (own_at ps r b i (omega (arith, length-map (numbers (from_at ps) b (length ps)) (forward_port (to_at ps))))),
  (length-map (numbers (from_at ps) b (length ps)) (forward_port (to_at ps))),
  (get_or-map (to_at ps) (numbers (from_at ps) b (length ps)) i 0 0
      (omega (arith, length-map (numbers (from_at ps) b (length ps)) (forward_port (to_at ps))))),
  (slice_get-get_or (fore ps b) i (record { kind = Forward; other = top; slot = first + i }) l),
)

pub number_below : (ps : List (ℕ × ℕ)) (b i : ℕ) (ks : List ℕ) → ks ≡ below_of ps b → i < length ks
    → get_or ks i 0 < length ps
number_below ps b i ks e l = grind (arith, common_steps, passing_at)
