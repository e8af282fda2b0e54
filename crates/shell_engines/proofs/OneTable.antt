-- There is one table of the blocks of the same texts.
use Rattle.fixed_worth.proofs.Common.{◌≡◌, ℕ, zero, suc, ◌<◌, Bool, true, false, List, [], ◌∷◌, ◌++◌, Option, refl, sym}
use Rattle.fixed_worth.proofs.Common.{ap, ◌∙◌, subst, arith, Contains, find}
use Rattle.closure_net.specs.Mine.{IsBest}
use Rattle.closure_net.proofs.BestPits.{best_is_one}
use Rattle.bench_report.specs.BlockShells.{names_line, block_lines, way_names_line, block_way_lines, blocks_text}
use Rattle.mine_inputs.specs.Mines.{PrecedenceBy, texts_by}
use Rattle.check_engines.proofs.Unread.{one_size}
use Rattle.shell_engines.specs.Prelude.{mine_at_factor, IsBlockTable, factors_said, way_said}

find_same : (p q : ℕ → Bool) (ks : List ℕ) → ((k : ℕ) → Contains ks k → p k ≡ q k) → find p ks ≡ find q ks
find_same p q [] h = refl
find_same p q (k ∷ ks) h = rw
    (h k (0, omega arith, refl), find_same p q ks (λ j c. h j (suc c.0, omega (arith, c.1), c.2))) refl

lines_same : (f g : ℕ → Option ℕ) (n : ℕ) → ((b : ℕ) → b < n → f b ≡ g b) → block_lines f n ≡ block_lines g n
lines_same f g zero h = refl
lines_same f g (suc n) h = rw (lines_same f g n (λ b l. h b (omega (arith, l))), h n (omega arith)) refl

way_lines_same : (f g way : ℕ → Option ℕ) (n : ℕ) → ((b : ℕ) → b < n → f b ≡ g b)
    → block_way_lines f way n ≡ block_way_lines g way n
way_lines_same f g way zero h = refl
way_lines_same f g way (suc n) h = rw (way_lines_same f g way n (λ b l. h b (omega (arith, l))), h n (omega arith)) refl

text_same : (ways : Bool) (f g way : ℕ → Option ℕ) (n : ℕ) → ((b : ℕ) → b < n → f b ≡ g b)
    → blocks_text ways f way n ≡ blocks_text ways g way n
text_same false f g way n h = ap (λ w. names_line ++ w) (lines_same f g n h)
text_same true f g way n h = ap (λ w. way_names_line ++ w) (way_lines_same f g way n h)

module _ (ways : Bool) (s t : List ℕ) (p : PrecedenceBy) (x y : List ℕ) (a : IsBlockTable ways s t p x)
    (b : IsBlockTable ways s t p y) where
  sizes : a.size ≡ b.size
  sizes = one_size (texts_by s t p 0) a.size b.size (a.mine 0).worths_read (b.mine 0).worths_read

  pits_same : (k c : ℕ) → Contains (factors_said s) k → c < a.size → a.pit k c ≡ b.pit k c
  pits_same k c h l = best_is_one (mine_at_factor a.size s t p k) (a.pit k) (b.pit k) (a.best k h)
      (subst (λ n. IsBest (mine_at_factor n s t p k) (b.pit k)) (sym sizes) (b.best k h)) c l

  shells_same : (c : ℕ) → c < a.size → find (λ k. a.pit k c) (factors_said s) ≡ find (λ k. b.pit k c) (factors_said s)
  shells_same c l = find_same (λ k. a.pit k c) (λ k. b.pit k c) (factors_said s) (λ k h. pits_same k c h l)

  pub one_table : x ≡ y
  one_table =
      let f : ℕ → Option ℕ = λ c. find (λ k. a.pit k c) (factors_said s) in
      let g : ℕ → Option ℕ = λ c. find (λ k. b.pit k c) (factors_said s) in
      a.spelled ∙ text_same ways f g (way_said s t) a.size shells_same ∙ ap (blocks_text ways g (way_said s t)) sizes
      ∙ sym b.spelled
