-- Predecessors of a block that rise, and the rows of blocks without pairs.
use Rattle.fixed_worth.proofs.Common.{◌≡◌, ℕ, ◌+◌, ◌<◌, ◌≤◌, inl, inr, List, [], ◌∷◌, length, get_or, map, sym, ◌∙◌}
use Rattle.fixed_worth.proofs.Common.{refl, arith, All, cases_lt, get_or-map, length-map, get_or_default, All-map}
use Rattle.fixed_worth.proofs.Common.{All-contains, All-weaker, common_steps}
use Rattle.prec_file.specs.Prelude.{from_at, IsRising, AreApart, IsOfBlock, AreRows, pairs_by}
use Rattle.prec_file.proofs.Slots.{ending_all}
use Rattle.prec_file.proofs.RowSteps.{rows_told, rows_length}

-- the first k of them rise, are below the least that comes next, and the block isn't among them
pub record RowSoFar (row : List ℕ) (b k least : ℕ) : Type 0 where
  pub rises : (i j : ℕ) → i < j → j < k → get_or row i 0 < get_or row j 0
  pub below : (i : ℕ) → i < k → get_or row i 0 < least
  pub apart : (i : ℕ) → i < k → get_or row i 0 ≡ b → ⊥

row_at : (b : ℕ) (row : List ℕ) (i : ℕ) → i < length row → ◌≡◌ {A = ℕ × ℕ} (get_or (map (λ p. (b, p)) row) i (0, 0))
    (b, get_or row i 0)
row_at b row i l = get_or-map (λ p. (b, p)) row i 0 (0, 0) l

pub row_rising : (row : List ℕ) (b k least : ℕ) → RowSoFar row b k least → length row ≤ k
    → IsRising (map (λ p. (b, p)) row)
row_rising row b k least h all = grind (arith, common_steps, length-map, row_at)

pub row_apart : (row : List ℕ) (b k least : ℕ) → RowSoFar row b k least → length row ≤ k
    → AreApart (map (λ p. (b, p)) row)
row_apart row b k least h all =
    let own : All (λ q. b ≡ q → ⊥) row = λ i d l e. h.apart i (omega arith) (get_or_default row i 0 d l ∙ sym e) in
    λ p c. All-contains (λ (q : ℕ × ℕ). q.0 ≡ q.1 → ⊥) (map (λ p. (b, p)) row) p
    (All-map (λ (q : ℕ × ℕ). q.0 ≡ q.1 → ⊥) (λ p. (b, p)) row own) c

pub row_length : (b : ℕ) (row : List ℕ) → length (map {B = ℕ × ℕ} (λ p. (b, p)) row) ≡ length row
row_length b row = length-map {B = ℕ × ℕ} row (λ p. (b, p))

pub row_seconds : (b : ℕ) (row : List ℕ) → map (λ (q : ℕ × ℕ). q.1) (map (λ p. (b, p)) row) ≡ row
row_seconds b [] = refl
row_seconds b (p ∷ row) = let rest = row_seconds b row in λ i. p ∷ rest i

-- the pairs of a block with known predecessors
pub row_own : (n b : ℕ) (row : List ℕ) → All (λ p. p < n) row → All (IsOfBlock n b) (map (λ p. (b, p)) row)
row_own n b row h = All-map (IsOfBlock n b) (λ p. (b, p)) row
    (All-weaker (λ p. p < n) (λ p. IsOfBlock n b (b, p)) (λ p l. (refl, l)) row h)

-- the blocks up to a later one have no pairs
pub rows_skipped : (n next b count : ℕ) (ps : List (ℕ × ℕ)) (firsts filled predecessors : List ℕ)
    → AreRows n next ps firsts predecessors → next ≤ b → b ≤ n → count ≡ length predecessors → length filled ≡ b + 1
    → ((i : ℕ) → i < length firsts → get_or filled i 0 ≡ get_or firsts i 0)
    → ((i : ℕ) → length firsts ≤ i → i < b + 1 → get_or filled i 0 ≡ count) → AreRows n b ps filled predecessors
rows_skipped n next b count ps firsts filled predecessors h l m e size kept put =
    let old = h.firsts.size in
    let all = rows_length n next ps firsts predecessors h in
    record {
      rests = h.rests;
      few = h.few;
      within = m;
      listed = λ k i. let u = h.listed k i in omega arith;
      predecessors = h.predecessors;
      firsts = record {
        size = size;
        at = λ c i. elim (cases_lt c (next + 1)) [
          | inl o ↦ kept c (omega (arith, old)) ∙ h.firsts.at c (omega arith)
          | inr o ↦ put c (omega (arith, old)) (omega arith) ∙ e ∙ all
              ∙ sym (ending_all (from_at ps) c (length ps) (λ k q. let u = h.listed k q in omega arith))
        ];
      };
    }

module _ (n next b count : ℕ) (firsts filled predecessors : List ℕ)
    (h : AreRows n next (pairs_by firsts predecessors) firsts predecessors) (l : next ≤ b) (m : b ≤ n)
    (e : count ≡ length predecessors) (size : length filled ≡ b + 1)
    (kept : (i : ℕ) → i < length firsts → get_or filled i 0 ≡ get_or firsts i 0) (put : (i : ℕ) → length firsts ≤ i
    → i < b + 1 → get_or filled i 0 ≡ count) where
  skipped : AreRows n b (pairs_by firsts predecessors) filled predecessors
  skipped = rows_skipped n next b count (pairs_by firsts predecessors) firsts filled predecessors h l m e size kept put

  pub skipped_told : pairs_by filled predecessors ≡ pairs_by firsts predecessors
  skipped_told = rows_told n b (pairs_by firsts predecessors) filled predecessors skipped

  pub skipped_rows : AreRows n b (pairs_by filled predecessors) filled predecessors
  skipped_rows = grind (arith, common_steps, skipped_told, skipped)
