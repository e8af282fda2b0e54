-- Bench tables of the same heights and shells have the same places, and of the same blocks they are the same.
use Rattle.fixed_worth.proofs.Common.{◌≡◌, ℕ, ◌<◌, ℤ, true, Option, Some, None, List, [], ◌∷◌, map, refl, sym, ap}
use Rattle.fixed_worth.proofs.Common.{subst, ◌∙◌, arith, is_at, All, Contains, list_any, int_cmp, nat_cmp, eq_by_cmp}
use Rattle.fixed_worth.proofs.Common.{and_parts, eqb-true, Decides-int_eq, eq_by_cmp_equiv, All-map, All-weaker}
use Rattle.fixed_worth.proofs.Common.{All-contains, All-head, All-tail, exact_signed, exact_unsigned, exact_pairs}
use Rattle.fixed_worth.proofs.Common.{btree_set_from_contains, Contains-from_any, list_any-from_Contains, common_steps}
use Rattle.closure_net.proofs.Holding.{same_tests}
use Rattle.bench_report.specs.declared.bench_row.BenchRow.{BenchRow}
use Rattle.bench_report.specs.Prelude.{ReportedBlocks, is_shell, by_bench, bench_and_shell, IsBenchRow, IsBenchTable}
use Rattle.bench_report.specs.Prelude.{row_below}
use Rattle.bench_report.proofs.Sums.{some_block}
use Rattle.bench_report.proofs.Tables.{by_bench_total, same_places}

-- the blocks of the second are as high as those of the first, and in the same shells
pub record ArePlacedAlike (m other : ReportedBlocks) : Type 0 where
  pub blocks : other.blocks ≡ m.blocks
  pub height : (b : ℕ) → other.height b ≡ m.height b
  pub shell : (b : ℕ) → other.shell b ≡ m.shell b

-- a block of a set has its bench and its shell
in_shell : (o : Option ℕ) (k : ℕ) → is_shell o k ≡ true → o ≡ Some k
in_shell None k h = absurd cc
in_shell (Some x) k h = ap Some (eqb-true x k h)

-- a place has a block
abbrev HasBlock : ReportedBlocks → ℤ × ℕ → Type 0
HasBlock m q = (b : ℕ) × (b < m.blocks) × ((m.height b, q.1) ≡ q) × (m.shell b ≡ Some q.1)

has_block : (m : ReportedBlocks) (r : BenchRow) → IsBenchRow m r → HasBlock m (bench_and_shell r)
has_block m r h = grind (arith, common_steps, some_block, and_parts, Decides-int_eq, in_shell)

-- a place of the first is one of the other
there : (m other : ReportedBlocks) → ArePlacedAlike m other → (q : ℤ × ℕ) → HasBlock m q → HasBlock other q
there m other a q h = (
  h.0,
  omega (arith, h.1, a.blocks),
  ap (λ (z : ℤ). (z, q.1)) (a.height h.0) ∙ h.2,
  a.shell h.0
      ∙ h.3,
)

placed_back : (m other : ReportedBlocks) → ArePlacedAlike m other → ArePlacedAlike other m
placed_back m other a = record { blocks = sym a.blocks; height = λ b. sym (a.height b); shell = λ b. sym (a.shell b) }

-- each place of one table is a place of the other
also_there : (m other : ReportedBlocks) → ArePlacedAlike m other → (rows others : List BenchRow) → IsBenchTable m rows
    → IsBenchTable other others → (q : ℤ × ℕ) → list_any (is_at (by_bench q)) (map bench_and_shell rows) ≡ true
    → list_any (is_at (by_bench q)) (map bench_and_shell others) ≡ true
also_there m other a rows others h k q t =
    let places : All (HasBlock m) (map bench_and_shell rows) = All-map (HasBlock m) bench_and_shell rows
    (All-weaker (IsBenchRow m) (λ r. HasBlock m (bench_and_shell r)) (has_block m) rows h.each) in
    let b : HasBlock m q = All-contains (HasBlock m) (map bench_and_shell rows) q places
    (Contains-from_any {eq = eq_by_cmp by_bench} same_places q (map bench_and_shell rows) t) in
    let o : HasBlock other q = there m other a q b in
    list_any-from_Contains (eq_by_cmp_equiv by_bench_total) q (map bench_and_shell others)
    (subst (Contains (map bench_and_shell others)) o.2 (k.every o.0 q.1 o.1 o.3))

pub places_are_one : (m other : ReportedBlocks) → ArePlacedAlike m other → (rows others : List BenchRow)
    → IsBenchTable m rows → IsBenchTable other others → map bench_and_shell rows ≡ map bench_and_shell others
places_are_one m other a rows others h k =
    btree_set_from_contains by_bench_total (record { keys = map bench_and_shell rows })
    (record { keys = map bench_and_shell others }) h.rising k.rising
    (λ q. same_tests (list_any (is_at (by_bench q)) (map bench_and_shell rows))
    (list_any (is_at (by_bench q)) (map bench_and_shell others)) (also_there m other a rows others h k q)
    (also_there other m (placed_back m other a) others rows k h q))
    (exact_pairs int_cmp nat_cmp exact_signed exact_unsigned)

pub first_place : {x y : ℤ × ℕ} {xs ys : List (ℤ × ℕ)} → x ∷ xs ≡ y ∷ ys → x ≡ y
first_place e = cc

pub other_places : {x y : ℤ × ℕ} {xs ys : List (ℤ × ℕ)} → x ∷ xs ≡ y ∷ ys → xs ≡ ys
other_places e = cc

-- a row is that of its place
row_is : (m : ReportedBlocks) (r : BenchRow) → IsBenchRow m r → r ≡ row_below m r.z r.shell m.blocks
row_is m r h = grind (arith, common_steps)

rows_are_one : (m : ReportedBlocks) (rows others : List BenchRow) → All (IsBenchRow m) rows
    → All (IsBenchRow m) others → map bench_and_shell rows ≡ map bench_and_shell others → rows ≡ others
rows_are_one m [] [] h k e = refl
rows_are_one m [] (s ∷ ss) h k e = absurd cc
rows_are_one m (r ∷ rs) [] h k e = absurd cc
rows_are_one m (r ∷ rs) (s ∷ ss) h k e =
    let one : r ≡ s = row_is m r (All-head (IsBenchRow m) r rs h)
    ∙ ap (λ (q : ℤ × ℕ). row_below m q.0 q.1 m.blocks) (first_place e)
    ∙ sym (row_is m s (All-head (IsBenchRow m) s ss k)) in
    rw (one, rows_are_one m rs ss (All-tail (IsBenchRow m) r rs h) (All-tail (IsBenchRow m) s ss k) (other_places e))
    refl

pub table_is_one : (m : ReportedBlocks) (rows others : List BenchRow) → IsBenchTable m rows → IsBenchTable m others
    → rows ≡ others
table_is_one m rows others h k = rows_are_one m rows others h.each k.each
    (places_are_one m m (record { blocks = refl; height = λ b. refl; shell = λ b. refl }) rows others h k)
