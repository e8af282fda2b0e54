-- The pieces of a written file, one after the other.
use Rattle.fixed_worth.proofs.Common.{◌≡◌, ℕ, zero, suc, ◌+◌, ◌≤◌, inl, inr, List, [], ◌++◌, refl, sym, ap, ◌∙◌}
use Rattle.fixed_worth.proofs.Common.{add-one, arith, append_assoc, append-nil, cases_eq}
use Rattle.prec_file.specs.Written.{prec_line, lines_below}

-- one more line
pub lines_more : (ps : List (ℕ × ℕ)) (b : ℕ) → lines_below ps b ++ prec_line ps b ≡ lines_below ps (b + 1)
lines_more ps b = rw add-one refl

-- The first lines are the front of all lines.
pub lines_front : (ps : List (ℕ × ℕ)) (b n : ℕ) → b ≤ n → (rest : List ℕ)
    × (lines_below ps b ++ rest ≡ lines_below ps n)
lines_front ps b zero h = let e : b ≡ 0 = omega arith in ([], append-nil (lines_below ps b) ∙ ap (lines_below ps) e)
lines_front ps b (suc n) h =
    elim (cases_eq b (suc n)) [
      | inl e ↦ ([], append-nil (lines_below ps b) ∙ ap (lines_below ps) e)
      | inr d ↦
          let q = lines_front ps b n (omega arith) in (
            q.0 ++ prec_line ps n,
            sym (append_assoc (lines_below ps b) q.0 (prec_line ps n))
                ∙ ap (λ l. l ++ prec_line ps n) q.1,
          )
    ]
