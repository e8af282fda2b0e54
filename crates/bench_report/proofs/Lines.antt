-- Records of fields that need no quotes, and the rows of a table.
use Rattle.fixed_worth.proofs.Common.{◌≡◌, ℕ, ◌+◌, ◌<◌, List, [], ◌∷◌, ◌++◌, length, take, get_or, codes, refl, sym, ap}
use Rattle.fixed_worth.proofs.Common.{◌∙◌, append_assoc, add-one, Option, append-nil, take-suc}
use Rattle.csv.specs.Writing.{default_writer, fields_text, row_text, is_blank}
use Rattle.bench_report.specs.declared.bench_row.BenchRow.{BenchRow}
use Rattle.bench_report.specs.Prelude.{names_line, block_shell_line, block_lines, header_line, row_line, rows_text}
use Rattle.bench_report.proofs.Plain.{IsPlain, plain_needs_none}

-- five plain fields, with commas between them and a line feed at the end
pub five_fields : (a b c d e : List ℕ) → IsPlain a → IsPlain b → IsPlain c → IsPlain d → IsPlain e
    → row_text default_writer (a ∷ b ∷ c ∷ d ∷ e ∷ []) ≡ a ++ 44 ∷ (b ++ 44 ∷ (c ++ 44 ∷ (d ++ 44 ∷ (e ++ 10 ∷ []))))
unfolding fields_text is_blank
five_fields a b c d e ha hb hc hd he =
    ap (λ t. t ++ 10 ∷ []) (rw (
      plain_needs_none a ha,
      plain_needs_none b hb,
      plain_needs_none c hc,
      plain_needs_none d hd,
      plain_needs_none
          e he,
    ) refl) ∙ joined a b c d e
  where
    joined : (a b c d e : List ℕ) → (a ++ 44 ∷ (b ++ 44 ∷ (c ++ 44 ∷ (d ++ 44 ∷ (e ++ []))))) ++ 10 ∷ [] ≡ a ++ 44
        ∷ (b ++ 44 ∷ (c ++ 44 ∷ (d ++ 44 ∷ (e ++ 10 ∷ []))))
    joined a b c d e = simp append_assoc

pub rows_text-append : (rs : List BenchRow) (r : BenchRow) → rows_text (rs ++ r ∷ []) ≡ rows_text rs ++ row_line r
rows_text-append [] r = append-nil (row_line r)
rows_text-append (s ∷ rs) r = ap (λ t. row_line s ++ t) (rows_text-append rs r)
    ∙ sym (append_assoc (row_line s) (rows_text rs) (row_line r))

pub rows_text-next : (rs : List BenchRow) (i : ℕ) (d : BenchRow) → i < length rs
    → rows_text (take (i + 1) rs) ≡ rows_text (take i rs) ++ row_line (get_or rs i d)
rows_text-next rs i d h = ap (λ k. rows_text (take k rs)) (add-one i) ∙ ap rows_text (take-suc rs i d h)
    ∙ rows_text-append (take i rs) (get_or rs i d)

pub header_row : row_text default_writer
    (codes "z" ∷ codes "shell" ∷ codes "blocks" ∷ codes "tonnes" ∷ codes "worth" ∷ []) ≡ header_line
unfolding fields_text is_blank
header_row = refl

-- one more row is written
pub table-next : (rs : List BenchRow) (i : ℕ) (d : BenchRow) (before after : List ℕ) → i < length rs
    → after ≡ before ++ row_line (get_or rs i d)
    → before ≡ header_line ++ rows_text (take i rs) → after ≡ header_line ++ rows_text (take (i + 1) rs)
table-next rs i d before after h e k =
    e ∙ ap (λ t. t ++ row_line (get_or rs i d)) k
    ∙ append_assoc header_line (rows_text (take i rs)) (row_line (get_or rs i d))
    ∙ ap (λ t. header_line ++ t) (sym (rows_text-next rs i d h))

-- two plain fields, with a comma between them and a line feed at the end
pub two_fields : (a b : List ℕ) → IsPlain a → IsPlain b → row_text default_writer (a ∷ b ∷ []) ≡ a ++ 44
    ∷ (b ++ 10 ∷ [])
unfolding fields_text is_blank
two_fields a b ha hb = ap (λ t. t ++ 10 ∷ []) (rw (plain_needs_none a ha, plain_needs_none b hb) refl) ∙ joined a b
  where
    joined : (a b : List ℕ) → (a ++ 44 ∷ (b ++ [])) ++ 10 ∷ [] ≡ a ++ 44 ∷ (b ++ 10 ∷ [])
    joined a b = simp append_assoc

pub names_row : row_text default_writer (codes "block" ∷ codes "shell" ∷ []) ≡ names_line
unfolding fields_text is_blank
names_row = refl

-- one more block is written
pub block_lines-next : (shell : ℕ → Option ℕ) (n : ℕ) (before after : List ℕ)
    → after ≡ before ++ block_shell_line n (shell n) → before ≡ names_line ++ block_lines shell n
    → after ≡ names_line ++ block_lines shell (n + 1)
block_lines-next shell n before after e k = e ∙ ap (λ t. t ++ block_shell_line n (shell n)) k
    ∙ append_assoc names_line (block_lines shell n) (block_shell_line n (shell n))
    ∙ sym (ap (λ i. names_line ++ block_lines shell i) (add-one n))
