-- Reading the lines of a part one after another.
use Rattle.fixed_worth.proofs.Common.{◌≡◌, ℕ, ◌+◌, ◌≤◌, List, [], ◌∷◌, ◌++◌, length, None, sym, refl, ap, subst, ◌∙◌}
use Rattle.fixed_worth.proofs.Common.{arith, append-nil, append_assoc}
use Rattle.fixed_worth.specs.declared.limits.TheConstants.{LINE_BYTES}
use Rattle.fixed_worth.specs.Prelude.{Left, fields_of, lines_of}
use Rattle.prec_file.specs.Prelude.{RowsView, ArePairsOf, IsPartRead, IsLineRead, fault_of, pairs_of_text}
use Rattle.prec_file.proofs.PartLines.{part_on, pairs_numbered}

-- What has been read, and what is left.
pub record PartSoFar (n from : ℕ) (text : List ℕ) (rows : RowsView) (listed : ℕ) (left : Left) : Type 0 where
  pub texts : List (List ℕ)
  pub read : IsPartRead n from texts rows listed
  pub all : lines_of text ≡ texts ++ left.lines

none_read : (n from : ℕ) → IsPartRead n from [] (record { blocks = n; next = from; pairs = [] }) 0
none_read n from = record {
  blocks = refl;
  rises = omega arith;
  size = refl;
  few = omega arith;
  kept = omega arith;
  held = record {
    rising = record { rises = λ i j l m. absurd (omega arith) };
    held = λ p c d. c;
    only = λ p c. absurd (omega (arith, c.1));
  };
  below = λ b l. refl;
  sound = λ k before h room. refl;
}

pub part_begun : (n from : ℕ) (text : List ℕ) (rows : RowsView) (listed : ℕ) (left : Left)
    → rows ≡ record { blocks = n; next = from; pairs = [] } → listed ≡ 0 → left.lines ≡ lines_of text
    → PartSoFar n from text rows listed left
part_begun n from text rows listed left e f g = record {
  texts = [];
  read = rw (e, f) (none_read n from);
  all = sym g;
}

pub part_further : (n from line : ℕ) (text next_text : List ℕ) (rows new : RowsView) (listed after : ℕ)
    (left next : Left) → PartSoFar n from text rows listed left → left.lines ≡ next_text ∷ next.lines
    → length next_text ≤ LINE_BYTES
    → IsLineRead n line (fields_of next_text) rows new listed after → PartSoFar n from text new after next
part_further n from line text next_text rows new listed after left next s e short r = record {
  texts = s.texts ++ next_text ∷ [];
  read = part_on n from line s.texts next_text rows new listed after s.read short r;
  all = s.all ∙ ap (λ ls. s.texts ++ ls) e ∙ sym (append_assoc s.texts (next_text ∷ []) next.lines);
}

pub part_whole : (n from : ℕ) (text : List ℕ) (rows : RowsView) (listed : ℕ) (left : Left)
    → PartSoFar n from text rows listed left → left.lines ≡ [] → IsPartRead n from (lines_of text) rows listed
part_whole n from text rows listed left s e =
    let all : s.texts ≡ lines_of text = sym (s.all ∙ ap (λ ls. s.texts ++ ls) e ∙ append-nil s.texts) in
    subst (λ (ts : List (List ℕ)). IsPartRead n from ts rows listed) all s.read

-- a text that is one part
pub text_read : (n from : ℕ) (text : List ℕ) (rows : RowsView) (listed : ℕ)
    → IsPartRead n from (lines_of text) rows listed → (fault_of n text ≡ None) × (rows.blocks ≡ n)
    × ArePairsOf (pairs_of_text text) rows.pairs
text_read n from text rows listed p = (
  p.sound 0 [] (λ b l. refl) (omega (arith, p.few)),
  p.blocks,
  subst (λ (ps : List (ℕ × ℕ)). ArePairsOf ps rows.pairs) (sym (pairs_numbered 0 (lines_of text))) p.held,
)
