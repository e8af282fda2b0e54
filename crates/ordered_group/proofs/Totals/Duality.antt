-- Weak duality (Picard 1976), said of plain functions: what each number is worth, takes from the source, gives to the
-- sink, and passes over pairs.
use Rattle.std.proofs.Common.{◌≡◌, ℕ, ◌<◌, Bool, true, false, ap, arith}
use Rattle.std.proofs.lemmas.Int.{ints}
use Rattle.ordered_group.specs.Prelude.{Amount, zero_amount, plus, minus, AtMost, positive, negative, total, where_so}
use Rattle.ordered_group.specs.Prelude.{at_end}
use Rattle.ordered_group.proofs.Order.{AtMost-refl, positive-negative}
use Rattle.ordered_group.proofs.Totals.Ranges.{total-plus, total_mono}
use Rattle.ordered_group.proofs.Totals.Sets.{route, where_most}

-- in the order of `weak_duality`'s lets
joined : (x y i o xi yo f t : Amount) → AtMost xi yo → xi ≡ plus x i → yo ≡ plus y o → i ≡ t → o ≡ f → AtMost f t
    → AtMost x y
joined x y i o xi yo f t all p q r s less =
    let pw = ap (λ a. a.w) p in let pc = ap (λ a. a.c) p in
    let qw = ap (λ a. a.w) q in let qc = ap (λ a. a.c) q in
    let rw' = ap (λ a. a.w) r in let rc = ap (λ a. a.c) r in
    let sw = ap (λ a. a.w) s in let sc = ap (λ a. a.c) s in
    record {
      worths = omega (arith, ints, pw, qw, rw', sw, all, less);
      counts = λ e. omega
          (arith, ints, pw, qw, rw', sw, pc, qc, rc, sc, all, less, e);
    }

module _ (n m : ℕ) (from to : ℕ → ℕ) (w s t f : ℕ → Amount)
    (from_below : (k : ℕ) → k < m → from k < n)
    (to_below : (k : ℕ) → k < m → to k < n)
    (rest_ok : (k : ℕ) → k < m → AtMost zero_amount (f k))
    (source_ok : (b : ℕ) → b < n → AtMost (s b) (positive (w b)))
    (sink_ok : (b : ℕ) → b < n → AtMost (t b) (negative (w b)))
    (balanced : (b : ℕ) → b < n → plus (s b) (at_end to f m b) ≡ plus (t b) (at_end from f m b))
    (e : ℕ → Bool)
    (closed : (k : ℕ) → k < m → e (from k) ≡ true → e (to k) ≡ true) where
  -- a block of the set is worth at most what its source could still give and what leaves it for other blocks, less what
  -- enters
  block_bound : (b : ℕ) → b < n → (v : Bool) → AtMost (plus (where_so v (w b)) (where_so v (at_end to f m b)))
      (plus (minus (positive (w b)) (s b)) (where_so v (at_end from f m b)))
  block_bound b h false = let c = source_ok b h in record
      { worths = omega (arith, ints, c); counts = λ k. omega (arith, ints, c, k) }
  block_bound b h true =
      let a = positive-negative (w b) in
      let c = sink_ok b h in
      let d = balanced b h in
      let aw = ap (λ x. x.w) a in let ac = ap (λ x. x.c) a in
      let dw = ap (λ x. x.w) d in let dc = ap (λ x. x.c) d in
      record { worths = omega (arith, ints, aw, dw, c); counts = λ k. omega (arith, ints, aw, dw, ac, dc, c, k) }

  -- no closed set is worth more than what the source could still give
  pub weak_duality : AtMost (total (λ b. where_so (e b) (w b)) n) (total (λ b. minus (positive (w b)) (s b)) n)
  weak_duality =
      let all = total_mono _ _ n (λ b h. block_bound b h (e b)) in
      let p1 = total-plus (λ b. where_so (e b) (w b)) (λ b. where_so (e b) (at_end to f m b)) n in
      let p2 = total-plus (λ b. minus (positive (w b)) (s b)) (λ b. where_so (e b) (at_end from f m b)) n in
      let r1 = route e to f n m to_below in
      let r2 = route e from f n m from_below in
      let less = total_mono (λ k. where_so (e (from k)) (f k)) (λ k. where_so (e (to k)) (f k)) m
      (λ k h. where_most _ _ (f k) (f k) (closed k h) (AtMost-refl (f k)) (rest_ok k h)) in
      joined _ _ _ _ _ _ _ _ all p1 p2 r1 r2 less
