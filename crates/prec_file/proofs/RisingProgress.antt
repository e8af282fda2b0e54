-- Reading line after line, where the blocks of the records rise.
use Rattle.fixed_worth.proofs.Common.{◌≡◌, ℕ, ◌+◌, ◌≤◌, Bool, false, List, [], ◌∷◌, ◌++◌, length, get_or, replicate}
use Rattle.fixed_worth.proofs.Common.{Some, None, sym, refl, ap, ◌∙◌, arith, length-append, length-replicate}
use Rattle.fixed_worth.proofs.Common.{common_steps}
use Rattle.fixed_worth.specs.Text.{Left, fields_of, lines_of}
use Rattle.fixed_worth.specs.declared.limits.TheConstants.{LINE_BYTES}
use Rattle.prec_file.specs.declared.limits.TheConstants.{MOST_PAIRS}
use Rattle.prec_file.specs.declared.prec_fault.PrecFault.{PrecFault}
use Rattle.prec_file.specs.Prelude.{RowsView, ArePairsOf, pairs_in, record_fault, fault_of, UnlessMemory, AreNew}
use Rattle.prec_file.specs.Prelude.{IsLineRead, TellsFault, marks_after}
use Rattle.prec_file.proofs.Shapes.{unless_told}
use Rattle.prec_file.proofs.Progress.{ReadSoFar, step_on, step_wrong}
use Rattle.prec_file.proofs.Marks.{none_marked}

-- What has been read, and what is left: the rows have the pairs that were listed.
pub record RisingSoFar (n : ℕ) (text : List ℕ) (rows : RowsView) (count : ℕ) (left : Left) : Type 0 where
  pub seen : List Bool
  pub pairs : List (ℕ × ℕ)
  pub going : ReadSoFar n text seen pairs left
  pub all : length seen ≡ n
  pub beyond : AreNew rows.next (λ b. get_or seen b false)
  pub blocks : rows.blocks ≡ n
  pub held : ArePairsOf pairs rows.pairs
  pub size : count ≡ length pairs
  pub few : count ≤ MOST_PAIRS
  pub kept : length rows.pairs ≤ count

-- nothing is read yet
pub rising_begun : (n : ℕ) (text : List ℕ) (left : Left) → left.lines ≡ lines_of text → left.number ≡ 0
    → RisingSoFar n text (record { blocks = n; next = 0; pairs = [] }) 0 left
rising_begun n text left e f = record {
  seen = replicate n false;
  pairs = [];
  going = record {
    before = [];
    fault = rw (e, f) refl;
    all = rw (e, f) refl;
    pairs_so = refl;
    seen_so = λ b l. none_marked n b;
  };
  all = length-replicate n false;
  beyond = λ b l. none_marked n b;
  blocks = refl;
  held = record {
    rising = record { rises = λ i j l m. absurd (omega arith) };
    held = λ p c d. c;
    only = λ p c. absurd (omega (arith, c.1));
  };
  size = refl;
  few = omega arith;
  kept = omega arith;
}

length_marked : (fs : List (List ℕ)) (seen : List Bool) → length (marks_after fs seen) ≡ length seen
length_marked fs seen = grind (arith, common_steps)

module _ (n k : ℕ) (text : List ℕ) (rows : RowsView) (count : ℕ) (left next : Left) (line : List ℕ)
    (g : RisingSoFar n text rows count left) (j : k ≡ next.number) (f : left.lines ≡ line ∷ next.lines)
    (h : next.number ≡ left.number + 1) (i : length line ≤ LINE_BYTES) where
  -- one line more
  pub rising_on : (new : RowsView) (after : ℕ) → IsLineRead n k (fields_of line) rows new count after
      → RisingSoFar n text new after next
  rising_on new after r =
      let fs = fields_of line in
      let sound : record_fault n (λ b. get_or g.seen b false) (length g.pairs) k fs ≡ None =
      ap (λ (x : ℕ). record_fault n (λ b. get_or g.seen b false) x k fs) (sym g.size)
      ∙ r.sound (λ b. get_or g.seen b false) g.beyond in
      let on = step_on n k text g.seen (marks_after fs g.seen) g.pairs (g.pairs ++ pairs_in fs) left next line g.going
      g.all j f h i sound refl refl in
      record {
        seen = marks_after fs g.seen;
        pairs = g.pairs ++ pairs_in fs;
        going = on;
        all = length_marked fs g.seen ∙ g.all;
        beyond = r.marks g.seen g.beyond;
        blocks = r.blocks ∙ g.blocks;
        held = r.rows g.pairs g.held;
        size = omega (arith, r.listed, g.size, length-append g.pairs (pairs_in fs));
        few = r.few;
        kept = r.kept;
      }

  -- a fault of the line
  pub rising_wrong : (e : PrecFault)
      → ((had : ℕ → Bool) → AreNew rows.next had → TellsFault e (record_fault n had count k (fields_of line)))
      → UnlessMemory e (fault_of n text ≡ Some e)
  rising_wrong e told =
      let had : ℕ → Bool = λ b. get_or g.seen b false in
      unless_told e (record_fault n had count k (fields_of line))
      (λ w. step_wrong n k text g.seen g.pairs left next line e g.going j f h i
      (ap (λ (x : ℕ). record_fault n had x k (fields_of line)) (sym g.size) ∙ w))
      (told had g.beyond)
