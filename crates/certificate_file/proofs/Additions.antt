-- What a line adds to what is gathered.
use Rattle.fixed_worth.proofs.Common.{◌≡◌, ℕ, get_or, set, ◌<◌, Bool, true, false, cond, eqb, ltb, List, [], ◌∷◌}
use Rattle.fixed_worth.proofs.Common.{length, refl, arith, append-nil, Contains, length-set, common_steps}
use Rattle.ordered_group.specs.Prelude.{Amount, amount_at}
use Rattle.prec_file.specs.Prelude.{IsRising, has_pair}
use Rattle.prec_file.proofs.Pairs.{is_pair, pair_told}
use Rattle.prec_file.proofs.OneListing.{tail_holds}
use Rattle.certificate_file.specs.declared.body_lines.LineKind.TheVariants.{Rest}
use Rattle.certificate_file.specs.declared.body_lines.BodyLine.{BodyLine}
use Rattle.certificate_file.specs.Prelude.{is_of_model, Covers, amount_of, Gathered, with_rest, Adds}

-- Whether a pair is among the model's.
absent_at : (b p : ℕ) (q : ℕ × ℕ) (qs : List (ℕ × ℕ)) (t : Bool) → is_pair b p q ≡ t → (Contains (q ∷ qs) (b, p) → ⊥)
    → has_pair qs b p ≡ false → has_pair (q ∷ qs) b p ≡ false
absent_at b p q qs t e out ih = grind (arith, common_steps)

pub absent : (b p : ℕ) (qs : List (ℕ × ℕ)) → (Contains qs (b, p) → ⊥) → has_pair qs b p ≡ false
absent b p [] out = refl
absent b p (q ∷ qs) out = absent_at b p q qs (is_pair b p q) refl out
    (absent b p qs (λ h. out (tail_holds q qs (b, p) h)))

pub present : (b p : ℕ) (qs : List (ℕ × ℕ)) (k : ℕ) → k < length qs → get_or qs k (0, 0) ≡ (b, p)
    → has_pair qs b p ≡ true
present b p qs k h e = grind (arith, common_steps)

pub rest_absent : (has : ℕ → ℕ → Bool) (line : BodyLine) → line.kind ≡ Rest → has line.block line.other ≡ false
    → is_of_model has line.kind line ≡ false
rest_absent has line r h = rw r h

pub rest_present : (has : ℕ → ℕ → Bool) (line : BodyLine) → line.kind ≡ Rest → has line.block line.other ≡ true
    → is_of_model has line.kind line ≡ true
rest_present has line r h = rw r h

-- Each pair stands once in the list.
pub apart : (ps : List (ℕ × ℕ)) (i j : ℕ) (q : ℕ × ℕ) → IsRising ps → i < j → j < length ps → get_or ps i (0, 0) ≡ q
    → get_or ps j (0, 0) ≡ q → ⊥
apart ps i j q r h l e f = grind (arith, common_steps)

pub one_place : (ps : List (ℕ × ℕ)) (i j : ℕ) (q : ℕ × ℕ) → IsRising ps → i < length ps → j < length ps
    → get_or ps i (0, 0) ≡ q → get_or ps j (0, 0) ≡ q → (t u : Bool) → ltb i j ≡ t → ltb j i ≡ u → i ≡ j
one_place ps i j q r h l e f t u x y = grind (arith, common_steps)

-- At place j, where a line gives an amount to the pair at k.
rest_at : (ps : List (ℕ × ℕ)) (xs : List Amount) (line : BodyLine) (k j : ℕ) → IsRising ps → line.kind ≡ Rest
    → length xs ≡ length ps → k < length ps → get_or ps k (0, 0) ≡ (line.block, line.other) → j < length ps
    → (t : Bool) → eqb j k ≡ t
    → (u : Bool) → is_pair line.block line.other (get_or ps j (0, 0)) ≡ u
    → amount_at (set xs k (amount_of line)) j ≡ cond u (amount_of line) (amount_at xs j)
rest_at ps xs line k j r is n h e l false s true v = grind (
  arith,
  common_steps,
  (pair_told line.block line.other (get_or ps j (0, 0)) v),
  (one_place ps j k (line.block, line.other) r l h (pair_told line.block line.other (get_or ps j (0, 0)) v) e
      (ltb j k) (ltb k j) refl refl),
)
rest_at ps xs line k j r is n h e l t s u v = grind (arith, common_steps)

pub adds_rest : (n : ℕ) (pairs : List (ℕ × ℕ)) (line : BodyLine) (before later : Gathered) (x : Amount) (k : ℕ)
    → IsRising pairs → line.kind ≡ Rest → Covers n (length pairs) before.flow → k < length pairs
    → get_or pairs k (0, 0) ≡ (line.block, line.other)
    → x ≡ amount_of line → later ≡ with_rest k x before → Covers n (length pairs) later.flow
    × Adds n pairs (line ∷ []) before later
adds_rest n pairs line before later x k r is c h e a w = grind
    (arith, common_steps, length-set, append-nil, rest_at, eqb, is_pair)
