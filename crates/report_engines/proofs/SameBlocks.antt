-- The bench table says nothing of numbers that are no blocks.
use Rattle.fixed_worth.proofs.Common.{◌≡◌, ℕ, ◌<◌, ℤ, Bool, true, false, ◌&&◌, Option, List, map, range_with_len, refl}
use Rattle.fixed_worth.proofs.Common.{sym, ap, ◌∙◌, subst, arith, Contains, All-weaker}
use Rattle.ordered_group.specs.Sets.{worth_in, count_in}
use Rattle.ordered_group.proofs.BlockSets.{count_in-same, worth_in-agrees}
use Rattle.bench_report.specs.declared.bench_row.BenchRow.{BenchRow}
use Rattle.bench_report.specs.Prelude.{ReportedBlocks, blocks_at, bench_and_shell, bench_text, goes_way, IsBenchRow}
use Rattle.bench_report.specs.Prelude.{IsBenchTable, way_table_text, way_tonnes}

-- the second has the blocks of the first, and says the same of each
pub record AreAlike (m other : ReportedBlocks) : Type 0 where
  pub blocks : other.blocks ≡ m.blocks
  pub height : (b : ℕ) → b < m.blocks → other.height b ≡ m.height b
  pub shell : (b : ℕ) → b < m.blocks → other.shell b ≡ m.shell b
  pub tonnes : (b : ℕ) → b < m.blocks → other.tonnes b ≡ m.tonnes b
  pub worth : (b : ℕ) → b < m.blocks → other.worth b ≡ m.worth b

module _ (m other : ReportedBlocks) (a : AreAlike m other) where
  at_same : (z : ℤ) (k b : ℕ) → b < m.blocks → blocks_at m z k b ≡ blocks_at other z k b
  at_same z k b l = rw (a.height b l, a.shell b l) refl

  row_same : (r : BenchRow) → IsBenchRow m r → IsBenchRow other r
  row_same r h =
      let e = blocks_at m r.z r.shell in
      let c = blocks_at other r.z r.shell in
      let same = at_same r.z r.shell in
      record {
        some = h.some;
        number = h.number ∙ count_in-same e c m.blocks same ∙ ap (count_in c) (sym a.blocks);
        tonnage = h.tonnage ∙ worth_in-agrees m.tonnes other.tonnes e c m.blocks (λ b l. sym (a.tonnes b l)) same
            ∙ ap (worth_in other.tonnes c) (sym a.blocks);
        value = h.value ∙ worth_in-agrees m.worth other.worth e c m.blocks (λ b l. sym (a.worth b l)) same
            ∙ ap (worth_in other.worth c) (sym a.blocks);
      }

  pub table_same : (rows : List BenchRow) → IsBenchTable m rows → IsBenchTable other rows
  table_same rows h = record {
    each = All-weaker (IsBenchRow m) (IsBenchRow other) row_same rows h.each;
    rising = h.rising;
    every = λ b k l s.
        let here : b < m.blocks = omega (arith, l, a.blocks) in
        subst (λ z. Contains (map bench_and_shell rows) (z, k)) (sym (a.height b here))
        (h.every b k here (sym (a.shell b here) ∙ s));
  }

  tonnes_same : (way : ℕ → Option ℕ) (r : BenchRow) (i : ℕ) → way_tonnes m way r i ≡ way_tonnes other way r i
  tonnes_same way r i =
      let e : ℕ → Bool = λ b. blocks_at m r.z r.shell b && goes_way (way b) i in
      let c : ℕ → Bool = λ b. blocks_at other r.z r.shell b && goes_way (way b) i in
      worth_in-agrees m.tonnes other.tonnes e c m.blocks (λ b l. sym (a.tonnes b l))
      (λ b l. ap (λ t. t && goes_way (way b) i) (at_same r.z r.shell b l))
      ∙ ap (worth_in other.tonnes c) (sym a.blocks)

  pub text_same : (ways : Bool) (way : ℕ → Option ℕ) (n : ℕ) (rows : List BenchRow)
      → bench_text ways m way n rows ≡ bench_text ways other way n rows
  text_same false way n rows = refl
  text_same true way n rows = λ t. way_table_text n (λ r. map (λ i. tonnes_same way r i t) (range_with_len 0 n)) rows
