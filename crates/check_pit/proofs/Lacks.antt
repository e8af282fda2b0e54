-- What a set lacks, from the blocks above each of its blocks.
use Rattle.fixed_worth.proofs.Common.{◌≡◌, ℕ, ◌<◌, ◌≤◌, ◌==◌, Bool, false, IsTrue, List, length, get_or, sym, refl, ap}
use Rattle.fixed_worth.proofs.Common.{subst, ◌∙◌, arith, eq-eqb, eqb-true, get_or-map, length-map, common_steps}
use Rattle.prec_file.specs.Rests.{numbers, above_of, from_at, to_at}
use Rattle.prec_file.proofs.Passing.{passing_at, passing_here, passing_after}
use Rattle.check_pit.specs.Closing.{HoldsAbove, IsLacking}

module _ (ps : List (ℕ × ℕ)) (e : ℕ → Bool) (b : ℕ) (above : List ℕ) (is : above ≡ above_of ps b) where
  ks : List ℕ
  ks = numbers (from_at ps) b (length ps)

  size : length above ≡ length ks
  unfolding ks
  size = ap length is ∙ length-map (numbers (from_at ps) b (length ps)) (to_at ps)

  -- the block at place i is the predecessor of the i-th pair of b
  there : (i : ℕ) → i < length ks → get_or above i 0 ≡ to_at ps (get_or ks i 0)
  unfolding ks
  there i h = ap (λ xs. get_or xs i 0) is ∙ get_or-map (to_at ps) (numbers (from_at ps) b (length ps)) i 0 0 h

  -- the place of a pair of b
  placed : (k : ℕ) → k < length ps → from_at ps k ≡ b → (i : ℕ) × (i < length above) × (get_or above i 0 ≡ to_at ps k)
      × (i ≡ length (numbers (from_at ps) b k))
  unfolding ks
  placed k h p =
      let t = eq-eqb (from_at ps k) b p in
      let inside = passing_after (λ j. from_at ps j == b) k (length ps) h t in (
        length (numbers (from_at ps) b k),
        omega (arith, size, inside),
        there (length (numbers (from_at ps) b k))
            inside ∙ ap (to_at ps) (passing_here (λ j. from_at ps j == b) k (length ps) h t),
        refl,
      )

  pub holds_above : (n : ℕ) → length above ≤ n → ((j : ℕ) → j < n → IsTrue (e (get_or above j 0))) → HoldsAbove ps e b
  holds_above n l h k below p = grind (arith, common_steps, placed)

  pub lacking : (i p : ℕ) → i < length above → p ≡ get_or above i 0 → e p ≡ false
      → ((j : ℕ) → j < i → IsTrue (e (get_or above j 0))) → IsLacking ps e b p
  unfolding ks
  lacking i p l r off h =
      let inside : i < length ks = omega (arith, size) in
      let k = get_or (numbers (from_at ps) b (length ps)) i 0 in
      let q = passing_at (λ j. from_at ps j == b) (length ps) i inside in
      let s : to_at ps k ≡ p = sym (there i inside) ∙ sym r in
      let block : from_at ps k ≡ b = eqb-true (from_at ps k) b q.passes in (
        k,
        record {
          below = q.below;
          block = block;
          lacks = λ t. absurd (cc (ap e s, off, t));
          before = λ j m f.
              let z = placed j (omega (arith, q.below)) f in
              let earlier = passing_after (λ x. from_at ps x == b) j k m (eq-eqb (from_at ps j) b f) in
              let P : ℕ → Type 0 = λ x. IsTrue (e x) in
              subst P z.2 (h z.0 (omega (arith, z.3, earlier, q.place)));
        },
        s,
      )
