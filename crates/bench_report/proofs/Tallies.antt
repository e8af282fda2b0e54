-- Rows by bench and shell, as blocks are added to them.
use Rattle.fixed_worth.proofs.Common.{◌≡◌, ℕ, suc, ◌+◌, ◌<◌, ◌≤◌, ℤ, Bool, true, false, cond, ◌==◌, ◌&&◌, inl, inr}
use Rattle.fixed_worth.proofs.Common.{Option, Some, None, refl, sym, ap, subst, ◌∙◌, add-one, arith, unwrap_or}
use Rattle.fixed_worth.proofs.Common.{FitsSigned, w128, is_at, int_cmp, int_eq, nat_cmp, is_eq, tied_then, cases_lt}
use Rattle.fixed_worth.proofs.Common.{eqb-true, eq-eqb, nat_tests, Decides-int_eq, common_steps}
use Rattle.ordered_group.specs.Sets.{worth_in, count_in}
use Rattle.ordered_group.proofs.BlockSets.{count_in-most}
use Rattle.bench_report.specs.declared.bench_row.BenchRow.{BenchRow}
use Rattle.bench_report.specs.declared.report_fault.ReportFault.{ReportFault}
use Rattle.bench_report.specs.declared.report_fault.ReportFault.TheVariants.{TooLarge}
use Rattle.bench_report.specs.Prelude.{ReportedBlocks, blocks_at, by_bench, BenchSumsFit, SomeBenchSumOverflows}
use Rattle.bench_report.specs.Prelude.{row_below, no_blocks, with_block, row_at, if_filled, RowTakesBlock}
use Rattle.bench_report.specs.Prelude.{AddFaultStands, IsTallied, TallyFaultStands}
use Rattle.bench_report.proofs.Sums.{plus-none, worth_of_none}

-- ---- the row that is found

none_below : (m : ReportedBlocks) (z : ℤ) (k n : ℕ) → count_in (blocks_at m z k) n ≡ 0
    → no_blocks (z, k) ≡ row_below m z k n
none_below m z k n h = rw
    (h, worth_of_none m.tonnes (blocks_at m z k) n h, worth_of_none m.worth (blocks_at m z k) n h) refl

eqb_zero : (n : ℕ) → (n == 0) ≡ true → n ≡ 0
eqb_zero n h = eqb-true n 0 h

found_by : (m : ReportedBlocks) (z : ℤ) (k n : ℕ) (t : Bool) → (count_in (blocks_at m z k) n == 0) ≡ t
    → unwrap_or (cond t None (Some (row_below m z k n))) (no_blocks (z, k)) ≡ row_below m z k n
found_by m z k n true h = none_below m z k n (eqb_zero (count_in (blocks_at m z k) n) h)
found_by m z k n false h = refl

-- what is found is the row of the blocks so far
pub row_found : (m : ReportedBlocks) (n : ℕ) (f : ℤ × ℕ → Option BenchRow) → IsTallied m n f → (z : ℤ) (k : ℕ)
    → row_at f (z, k) ≡ row_below m z k n
row_found m n f h z k = ap (λ o. unwrap_or o (no_blocks (z, k))) (h.rows z k)
    ∙ found_by m z k n (count_in (blocks_at m z k) n == 0) refl

-- it has at most as many blocks as there were
pub few_blocks : (m : ReportedBlocks) (n : ℕ) (f : ℤ × ℕ → Option BenchRow) → IsTallied m n f → (z : ℤ) (k : ℕ)
    → (row_at f (z, k)).blocks ≤ n
few_blocks m n f h z k = subst (λ (r : BenchRow). r.blocks ≤ n) (sym (row_found m n f h z k))
    (count_in-most (blocks_at m z k) n)

-- ---- the next block

-- a block is in the set of its bench and its shell
pub inside_of : (m : ReportedBlocks) (n : ℕ) (x : ℤ) (j : ℕ) → m.height n ≡ x → m.shell n ≡ Some j
    → blocks_at m x j n ≡ true
inside_of m n x j hx hj = rw (hx, hj, (Decides-int_eq x x).1 refl, eq-eqb j j refl) refl

-- the block is in the set, or it isn't
row_with : (m : ReportedBlocks) (z : ℤ) (k n : ℕ) → blocks_at m z k n ≡ true
    → row_below m z k (suc n) ≡ with_block (row_below m z k n) (m.tonnes n) (m.worth n)
row_with m z k n h = rw h refl

row_without : (m : ReportedBlocks) (z : ℤ) (k n : ℕ) → blocks_at m z k n ≡ false
    → row_below m z k (suc n) ≡ row_below m z k n
row_without m z k n h =
    rw (h, plus-none (worth_in m.tonnes (blocks_at m z k) n), plus-none (worth_in m.worth (blocks_at m z k) n))
    (ap (λ c. record {
      z = z;
      shell = k;
      blocks = c;
      tonnes = worth_in m.tonnes (blocks_at m z k) n;
      worth =
          worth_in m.worth (blocks_at m z k) n;
    }) (zero_more (count_in (blocks_at m z k) n)))
  where
    zero_more : (c : ℕ) → c + 0 ≡ c
    zero_more c = omega arith

some_row : (r : BenchRow) (tonnes worth : ℤ) → Some (with_block r tonnes worth) ≡ if_filled (with_block r tonnes worth)
some_row r tonnes worth = sym (ap (λ t. cond t None (Some (with_block r tonnes worth))) (more r.blocks))
  where
    more : (n : ℕ) → (n + 1 == 0) ≡ false
    more n = grind (arith, nat_tests)

same_number : (x y : ℕ) → is_eq (nat_cmp x y) ≡ (x == y)
same_number x y = grind (arith, nat_tests)

-- a place is that of the block where the block is in the set of that place
at_place : (m : ReportedBlocks) (n : ℕ) (x : ℤ) (j : ℕ) → m.height n ≡ x → m.shell n ≡ Some j → (z : ℤ) (k : ℕ)
    → is_at (by_bench (x, j)) (z, k) ≡ blocks_at m z k n
at_place m n x j hx hj z k = sym (tied_then (int_cmp x z) (nat_cmp j k)) ∙ ap (λ t. int_eq x z && t) (same_number j k)
    ∙ rw (hx, hj) refl

-- a row's numbers are of 128 bits
abbrev FitsRow : BenchRow → Type 0
FitsRow r = FitsSigned w128 r.tonnes × FitsSigned w128 r.worth

-- the row of a place, where the block is of that place and where it isn't
found_more : (m : ReportedBlocks) (n : ℕ) (p : ℤ × ℕ) (z : ℤ) (k : ℕ) (f g : ℤ × ℕ → Option BenchRow) (t : Bool)
    → blocks_at m z k n ≡ t → IsTallied m n f → (t ≡ true → ◌≡◌ {A = ℤ × ℕ} (z, k) p)
    → g (z, k) ≡ cond t (Some (with_block (row_at f p) (m.tonnes n) (m.worth n))) (f (z, k))
    → g (z, k) ≡ if_filled (row_below m z k (suc n))
found_more m n p z k f g true b h at e = grind (arith, common_steps, row_found, some_row, row_with)
found_more m n p z k f g false b h at e = e ∙ h.rows z k ∙ ap if_filled (sym (row_without m z k n b))

-- its sums fit
fits_more : (m : ReportedBlocks) (n : ℕ) (p : ℤ × ℕ) (z : ℤ) (k : ℕ) (f : ℤ × ℕ → Option BenchRow) (t : Bool)
    → blocks_at m z k n ≡ t → IsTallied m n f → (t ≡ true → ◌≡◌ {A = ℤ × ℕ} (z, k) p)
    → RowTakesBlock (row_at f p) (m.tonnes n) (m.worth n) → BenchSumsFit m z k (suc n)
fits_more m n p z k f true b h at w = grind (arith, common_steps, row_found, FitsRow, row_with)
fits_more m n p z k f false b h at w = subst FitsRow (sym (row_without m z k n b)) (h.fits z k n (omega arith))

-- sums that fit up to one place fit on the whole way there
fits_upto : (m : ReportedBlocks) (n : ℕ) (z : ℤ) (k : ℕ) → ((j : ℕ) → j ≤ n → BenchSumsFit m z k j)
    → BenchSumsFit m z k (suc n) → (j : ℕ) → j ≤ suc n → BenchSumsFit m z k j
fits_upto m n z k h s j l = elim (cases_lt j (suc n)) [
  | inl i ↦ h j (omega (arith, i))
  | inr i ↦ (let e : suc n ≡ j = omega (arith, i, l) in subst (BenchSumsFit m z k) e s)
]

-- where a test of places passes, the place is the one that is asked for
same_place : (x z : ℤ) (j k : ℕ) → (int_eq x z && (j == k)) ≡ true → ◌≡◌ {A = ℤ × ℕ} (z, k) (x, j)
same_place x z j k h = grind (arith, common_steps)

-- the block has a shell, and is added to the row of its place
one_more : (m : ReportedBlocks) (n : ℕ) (x : ℤ) (j : ℕ) (f g : ℤ × ℕ → Option BenchRow) → m.height n ≡ x
    → m.shell n ≡ Some j → IsTallied m n f
    → ((q : ℤ × ℕ) → g q ≡ cond (is_at (by_bench (x, j)) q)
    (Some (with_block (row_at f (x, j)) (m.tonnes n) (m.worth n))) (f q))
    → RowTakesBlock (row_at f (x, j)) (m.tonnes n) (m.worth n) → IsTallied m (n + 1) g
one_more m n x j f g hx hj h u w = subst (λ i. IsTallied m i g) (sym (add-one n)) (record {
  rows = λ z k. found_more m n (x, j) z k f g (blocks_at m z k n) refl h (here z k)
      (u (z, k) ∙ ap (λ t. cond t (Some (with_block (row_at f (x, j)) (m.tonnes n) (m.worth n))) (f (z, k)))
      (at_place m n x j hx hj z k));
  fits = λ z k i. fits_upto m n z k (h.fits z k) (fits_more m n (x, j) z k f (blocks_at m z k n) refl h (here z k) w) i;
})
  where
    here : (z : ℤ) (k : ℕ) → blocks_at m z k n ≡ true → ◌≡◌ {A = ℤ × ℕ} (z, k) (x, j)
    here z k b = same_place x z j k (sym (rw (hx, hj) refl) ∙ b)

-- the block has no shell, and no row changes
pub none_more : (m : ReportedBlocks) (n : ℕ) (f : ℤ × ℕ → Option BenchRow) → m.shell n ≡ None → IsTallied m n f
    → IsTallied m (n + 1) f
none_more m n f hn h = subst (λ i. IsTallied m i f) (sym (add-one n)) (record {
  rows = λ z k. h.rows z k ∙ ap if_filled (sym (row_without m z k n (outside z k)));
  fits = λ z k i. fits_upto m n z k (h.fits z k)
      (subst FitsRow (sym (row_without m z k n (outside z k))) (h.fits z k n (omega arith))) i;
})
  where
    never : (t : Bool) → (t && false) ≡ false
    never true = refl
    never false = refl

    outside : (z : ℤ) (k : ℕ) → blocks_at m z k n ≡ false
    outside z k = rw hn (never (int_eq (m.height n) z))

-- the row of the block's place doesn't take it: a sum overflows
leaves_here : (m : ReportedBlocks) (n : ℕ) (x : ℤ) (j : ℕ) (f : ℤ × ℕ → Option BenchRow) → n < m.blocks
    → m.height n ≡ x → m.shell n ≡ Some j → IsTallied m n f
    → ¬ (RowTakesBlock (row_at f (x, j)) (m.tonnes n) (m.worth n)) → SomeBenchSumOverflows m
leaves_here m n x j f l hx hj h w = (
  x,
  j,
  suc n,
  omega (arith, l),
  λ s. w
      (subst FitsRow (row_with m x j n inside
      ∙ sym (ap (λ (r : BenchRow). with_block r (m.tonnes n) (m.worth n)) (row_found m n f h x j))) s),
)
  where
    inside : blocks_at m x j n ≡ true
    inside = inside_of m n x j hx hj

-- ---- the same, of a block whose place, tonnes and worth go by other names

pub block_added : (m : ReportedBlocks) (n k : ℕ) (p : ℤ × ℕ) (t w : ℤ) (f g : ℤ × ℕ → Option BenchRow)
    → p ≡ (m.height n, k) → m.shell n ≡ Some k → t ≡ m.tonnes n → w ≡ m.worth n → IsTallied m n f
    → ((q : ℤ × ℕ) → g q ≡ cond (is_at (by_bench p) q) (Some (with_block (row_at f p) t w)) (f q))
    → RowTakesBlock (row_at f p) t w → IsTallied m (n + 1) g
block_added m n k p t w f g ep es et ew h u v = one_more m n (m.height n) k f g refl es h
    (λ q. rw (ep, et, ew) at (u q)) (rw (ep, et, ew) at v)

pub block_leaves : (m : ReportedBlocks) (n k : ℕ) (p : ℤ × ℕ) (t w : ℤ) (f : ℤ × ℕ → Option BenchRow)
    (e : ReportFault) → n < m.blocks → p ≡ (m.height n, k) → m.shell n ≡ Some k → t ≡ m.tonnes n → w ≡ m.worth n
    → IsTallied m n f
    → AddFaultStands (row_at f p) t w e → TallyFaultStands m e
block_leaves m n k p t w f TooLarge l ep es et ew h v = leaves_here m n (m.height n) k f l refl es h
    (rw (ep, et, ew) at v)
block_leaves m n k p t w f e l ep es et ew h v = v

pub few_there : (m : ReportedBlocks) (n k : ℕ) (p : ℤ × ℕ) (f : ℤ × ℕ → Option BenchRow) → p ≡ (m.height n, k)
    → IsTallied m n f → (row_at f p).blocks ≤ n
few_there m n k p f ep h = subst (λ q. (row_at f q).blocks ≤ n) (sym ep) (few_blocks m n f h (m.height n) k)
