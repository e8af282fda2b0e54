-- Pairs in order are told by the numbers of the blocks' first pairs, and by their predecessors.
use Rattle.fixed_worth.proofs.Common.{◌≡◌, ℕ, suc, ◌+◌, ◌-◌, ◌<◌, ◌≤◌, Bool, true, false, nat_lt, List, [], ◌∷◌, ◌++◌}
use Rattle.fixed_worth.proofs.Common.{length, get_or, take, map, All, add-one, sym, refl, ap, ◌∙◌, arith, nat_le}
use Rattle.fixed_worth.proofs.Common.{nat_tests, take_more, take-length, common_steps}
use Rattle.prec_file.specs.Prelude.{numbers_passing, from_at, first_of, above_of, IsKnown, IsRising, IsStarts, AreAbove}
use Rattle.prec_file.specs.Prelude.{block_at, rows_from, pairs_by}
use Rattle.prec_file.proofs.Passing.{passing_all, passing_between, passing_most, passing_grows}
use Rattle.prec_file.proofs.Slots.{ending_all, ending_next, ending_none}
use Rattle.prec_file.proofs.Finding.{above_length, found_pair}
use Rattle.prec_file.proofs.Firsts.{later}
use Rattle.prec_file.proofs.Order.{lt_false}

le_true : (x y : ℕ) → x ≤ y → nat_le x y ≡ true
le_true x y h = grind (arith, nat_tests)

module _ (ps : List (ℕ × ℕ)) (r : IsRising ps) (n : ℕ) (firsts : List ℕ)
    (h : IsStarts (from_at ps) (length ps) n firsts) (k : ℕ) (l : k < length ps) (known : from_at ps k < n) where
  begins : ℕ → Bool
  begins b = nat_le (get_or firsts (b + 1) 0) k

  -- the blocks up to that of pair k begin there or before
  begun : (b : ℕ) → b < from_at ps k → begins b ≡ true
  unfolding begins
  begun b g =
      let at = h.at (b + 1) (omega arith) in
      let none = passing_between (λ j. nat_lt (from_at ps j) (b + 1)) k (length ps) (omega arith)
      (λ j i m. let u = later ps r k l j i m in lt_false (from_at ps j) (b + 1) (omega arith)) in
      le_true (get_or firsts (b + 1) 0) k (omega (arith, at, none, passing_most (λ j. nat_lt (from_at ps j) (b + 1)) k))

  -- the others begin after it
  not_begun : (b : ℕ) → from_at ps k ≤ b → b < n → begins b ≡ false
  unfolding begins
  not_begun b g i =
      let at = h.at (b + 1) (omega arith) in
      let all = ending_all (from_at ps) (b + 1) (k + 1)
      (λ j m. let u = later ps r j (omega arith) k (omega arith) l in omega arith) in
      let more = passing_grows (λ j. nat_lt (from_at ps j) (b + 1)) (k + 1) (length ps) (omega arith) in
      grind (arith, nat_tests)

  pub block_is : block_at firsts k ≡ from_at ps k
  unfolding begins
  block_is =
      let size : length firsts - 1 ≡ n = (let s = h.size in omega (arith, s)) in
      ap (λ j. length (numbers_passing begins j)) size
      ∙ passing_between begins (from_at ps k) n (omega arith) not_begun ∙ passing_all begins (from_at ps k) begun

rows_are : (block : ℕ → ℕ) (k : ℕ) (ps : List (ℕ × ℕ)) → ((i : ℕ) → i < length ps → block (k + i) ≡ from_at ps i)
    → rows_from block k (map (λ p. p.1) ps) ≡ ps
rows_are block k [] h = refl
rows_are block k (p ∷ ps) h =
    let own : k ≡ k + 0 = omega arith in
    let here : block k ≡ p.0 = ap block own ∙ h 0 (omega arith) in
    let rest = rows_are block (suc k) ps (λ i l. let e : suc k + i ≡ k + suc i = omega arith in ap block e
    ∙ h (suc i) (omega arith)) in
    λ j. (here j, p.1) ∷ rest j

pub pairs_are : (ps : List (ℕ × ℕ)) → IsRising ps → (n : ℕ) (firsts predecessors : List ℕ)
    → IsStarts (from_at ps) (length ps) n firsts → predecessors ≡ map (λ p. p.1) ps
    → ((k : ℕ) → k < length ps → from_at ps k < n) → pairs_by firsts predecessors ≡ ps
pairs_are ps r n firsts predecessors h e below =
    ap (pairs_by firsts) e
    ∙ rows_are (block_at firsts) 0 ps (λ i l. let same : 0 + i ≡ i = omega arith in ap (block_at firsts) same
    ∙ block_is ps r n firsts h i l (below i l))

-- the pairs of a value are those that its lists tell
pub above_are : (n : ℕ) (ps : List (ℕ × ℕ)) (firsts predecessors : List ℕ) → AreAbove n ps firsts predecessors
    → pairs_by firsts predecessors ≡ ps
above_are n ps firsts predecessors h = pairs_are ps h.rests.rising n firsts predecessors h.firsts h.predecessors
    (λ k l. (h.rests.known k (0, 0) l).0)

pub above_told : (n : ℕ) (ps : List (ℕ × ℕ)) (firsts predecessors : List ℕ) → AreAbove n ps firsts predecessors
    → AreAbove n (pairs_by firsts predecessors) firsts predecessors
above_told n ps firsts predecessors h = grind (arith, common_steps, (above_are n ps firsts predecessors h))

-- ---- the pairs, block by block

-- before the first block there are none
pub none_taken : (ps : List (ℕ × ℕ)) → [] ≡ take (first_of ps 0) ps
none_taken ps = ap (λ k. take k ps) (sym (ending_none (from_at ps) (length ps)))

-- one predecessor more of a block
pub one_taken : (ps : List (ℕ × ℕ)) → IsRising ps → (b p i : ℕ) → i < length (above_of ps b)
    → get_or (above_of ps b) i 0 ≡ p → take (first_of ps b + i) ps ++ (b, p) ∷ [] ≡ take (first_of ps b + (i + 1)) ps
one_taken ps r b p i l e = grind (
  arith,
  common_steps,
  (found_pair ps r b p i l e),
  (take_more ps (first_of ps b + i) (0, 0) (found_pair ps r b p i l e).0),
)

-- all of a block
pub block_taken : (ps : List (ℕ × ℕ)) (b i : ℕ) → i ≡ length (above_of ps b)
    → take (first_of ps b + i) ps ≡ take (first_of ps (b + 1)) ps
block_taken ps b i e = grind (
  arith,
  common_steps,
  (ap (first_of ps) (add-one b)),
  (add-one b),
  (above_length ps b),
  (ending_next (from_at ps) b (length ps)),
)

-- all of all blocks
pub all_taken : (n b : ℕ) (ps : List (ℕ × ℕ)) → All (IsKnown n) ps → b ≡ n → take (first_of ps b) ps ≡ ps
all_taken n b ps h e = grind (arith, common_steps, ending_all, take-length)
