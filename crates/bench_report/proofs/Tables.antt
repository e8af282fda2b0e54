-- From rows by bench and shell to the table.
use Rattle.fixed_worth.proofs.Common.{◌≡◌, ℕ, ◌<◌, ℤ, Bool, true, false, cond, ◌==◌, Some, None, List, [], ◌∷◌, map}
use Rattle.fixed_worth.proofs.Common.{refl, sym, subst, ◌∙◌, arith, IsSome, BTreeMap, IsOrdered, get, values, keys}
use Rattle.fixed_worth.proofs.Common.{keys_of, values_of, All, AllByRecursion, Contains, IsStrictlySortedBy}
use Rattle.fixed_worth.proofs.Common.{IsTotalOrder, Ordering, Equal, int_cmp, nat_cmp, eq_by_cmp, is_eq, ne_eqb}
use Rattle.fixed_worth.proofs.Common.{nat_tests, int_cmp_total, nat_cmp_total, on_total, then_total, All-map}
use Rattle.fixed_worth.proofs.Common.{All-weaker, recursion_from_All, exact_signed, exact_unsigned, exact_pairs}
use Rattle.fixed_worth.proofs.Common.{All-found, Contains-keys_from_lookup, same_Some}
use Rattle.ordered_group.specs.Sets.{count_in}
use Rattle.bench_report.specs.declared.bench_row.BenchRow.{BenchRow}
use Rattle.bench_report.specs.Prelude.{ReportedBlocks, blocks_at, by_bench, bench_and_shell, IsBenchRow, IsBenchTable}
use Rattle.bench_report.specs.Prelude.{row_below, if_filled, IsTallied}
use Rattle.bench_report.proofs.Sums.{some_blocks}
use Rattle.bench_report.proofs.Tallies.{inside_of}

pub by_bench_total : IsTotalOrder by_bench
by_bench_total = then_total (on_total (λ (p : ℤ × ℕ). p.0) int_cmp_total) (on_total (λ (p : ℤ × ℕ). p.1) nat_cmp_total)

is_equal : (o : Ordering) → is_eq o ≡ true → o ≡ Equal
is_equal Equal h = refl
is_equal o h = absurd cc

-- places that compare equal are the same
pub same_places : (x y : ℤ × ℕ) → eq_by_cmp by_bench x y ≡ true → x ≡ y
same_places x y h = exact_pairs int_cmp nat_cmp exact_signed exact_unsigned x y (is_equal (by_bench x y) h)

-- a row that is found is that of its place, and has a block
abbrev IsRowAt : ReportedBlocks → (ℤ × ℕ) × BenchRow → Type 0
IsRowAt m e = IsBenchRow m e.1 × (bench_and_shell e.1 ≡ e.0)

row_by : (m : ReportedBlocks) (z : ℤ) (k : ℕ) (r : BenchRow) (t : Bool)
    → (count_in (blocks_at m z k) m.blocks == 0) ≡ t → cond t None (Some (row_below m z k m.blocks)) ≡ Some r
    → IsRowAt m ((z, k), r)
row_by m z k r true h e = absurd cc
row_by m z k r false h e = subst (λ (r : BenchRow). IsRowAt m ((z, k), r)) (same_Some _ _ e) (
  record { some = positive (count_in (blocks_at m z k) m.blocks) h; number = refl; tonnage = refl; value = refl },
  refl,
)
  where
    positive : (n : ℕ) → (n == 0) ≡ false → 0 < n
    positive n h = grind (arith, nat_tests)

rows_found : (m : ReportedBlocks) (rows : BTreeMap (ℤ × ℕ) BenchRow) → IsOrdered by_bench rows
    → IsTallied m m.blocks (get by_bench rows) → All (IsRowAt m) rows.entries
rows_found m rows o h = All-weaker (λ e. get by_bench rows e.0 ≡ Some e.1) (IsRowAt m)
    (λ e f. row_by m e.0.0 e.0.1 e.1 (count_in (blocks_at m e.0.0 e.0.1) m.blocks == 0) refl
    (sym (h.rows e.0.0 e.0.1) ∙ f)) rows.entries (All-found by_bench_total rows o)

places_found : (es : List ((ℤ × ℕ) × BenchRow)) → AllByRecursion (λ e. bench_and_shell e.1 ≡ e.0) es
    → map bench_and_shell (values_of es) ≡ keys_of es
places_found [] h = refl
places_found (e ∷ es) h = rw (h.0, places_found es h.1) refl

-- rows of all blocks, found by bench and shell, are the table
pub tallied_is_table : (m : ReportedBlocks) (rows : BTreeMap (ℤ × ℕ) BenchRow) → IsOrdered by_bench rows
    → IsTallied m m.blocks (get by_bench rows) → IsBenchTable m (values rows)
tallied_is_table m rows o h = record {
  each = All-map (IsBenchRow m) (λ e. e.1) rows.entries
      (All-weaker (IsRowAt m) (λ e. IsBenchRow m e.1) (λ e f. f.0) rows.entries found);
  rising = subst (IsStrictlySortedBy by_bench) (sym places) o;
  every = λ b k l s. subst (λ ps. Contains ps (m.height b, k)) (sym places)
      (Contains-keys_from_lookup {eq = eq_by_cmp by_bench} same_places (m.height b, k) rows.entries (has_row b k l s));
}
  where
    found : All (IsRowAt m) rows.entries
    found = rows_found m rows o h

    places : map bench_and_shell (values rows) ≡ keys rows
    places = places_found rows.entries
        (recursion_from_All (λ e. bench_and_shell e.1 ≡ e.0) rows.entries
        (All-weaker (IsRowAt m) (λ e. bench_and_shell e.1 ≡ e.0) (λ e f. f.1) rows.entries found))

    some_found : (r : BenchRow) → 0 < r.blocks → IsSome (if_filled r)
    some_found r l = rw (ne_eqb r.blocks 0 (λ e. omega (arith, l, e))) refl

    has_row : (b k : ℕ) → b < m.blocks → m.shell b ≡ Some k → IsSome (get by_bench rows (m.height b, k))
    has_row b k l s = subst IsSome (sym (h.rows (m.height b) k))
        (some_found (row_below m (m.height b) k m.blocks)
        (some_blocks (blocks_at m (m.height b) k) m.blocks b l (inside_of m b (m.height b) k refl s)))
