-- Reading the lines of a part one after another, and joining parts.
use Rattle.fixed_worth.proofs.Common.{◌≡◌, ℕ, ℤ, pos, ◌+◌, ◌-◌, ◌<◌, ◌≤◌, Bool, true, false, true≢false, List, [], ◌∷◌}
use Rattle.fixed_worth.proofs.Common.{◌++◌, length, replicate, get_or, None, sym, refl, ap, subst, ◌∙◌, arith}
use Rattle.fixed_worth.proofs.Common.{append-nil, append_assoc, length-append, length-replicate}
use Rattle.fixed_worth.specs.declared.limits.TheConstants.{LINE_BYTES}
use Rattle.fixed_worth.specs.Prelude.{Left, Line, numbered_lines, fields_of, lines_of, is_skipped, block_of}
use Rattle.fixed_worth.proofs.LineParts.{numbered-append}
use Rattle.fixed_worth.proofs.NextLine.{line, short}
use Rattle.upit_file.specs.Prelude.{AreValuesOf, IsPartRead, before_end, first_upit_fault, is_eof, upit_shape_fault}
use Rattle.upit_file.specs.Prelude.{value_among, value_of_record}
use Rattle.upit_file.proofs.PartLines.{joined_values, none_read, skipped_read, record_read, both_read, padded}

-- What has been read, and what is left.
pub record PartSoFar (n from : ℕ) (text : List ℕ) (values : List ℤ) (left : Left) : Type 0 where
  pub texts : List (List ℕ)
  pub read : AreValuesOf n from texts values
  pub all : lines_of text ≡ texts ++ left.lines

pub part_begun : (n from : ℕ) (text : List ℕ) (values : List ℤ) (left : Left) → from ≤ n → values ≡ []
    → left.lines ≡ lines_of text → PartSoFar n from text values left
part_begun n from text values left h e f = record {
  texts = [];
  read = rw e (none_read n from h);
  all = sym f;
}

more_lines : (text : List ℕ) (texts : List (List ℕ)) (next_text : List ℕ) (left next : Left)
    → lines_of text ≡ texts ++ left.lines → left.lines ≡ next_text ∷ next.lines
    → lines_of text ≡ (texts ++ next_text ∷ []) ++ next.lines
more_lines text texts next_text left next s e = s ∙ ap (λ ls. texts ++ ls) e
    ∙ sym (append_assoc texts (next_text ∷ []) next.lines)

-- no zeros between, and nothing after
none_added : (from : ℕ) (vs : List ℤ) → joined_values from (from + length vs) vs [] ≡ vs
none_added from vs =
    let none : from + length vs - (from + length vs) ≡ 0 = omega arith in
    append-nil (vs ++ replicate (from + length vs - (from + length vs)) (pos 0))
    ∙ ap (λ k. vs ++ replicate k (pos 0)) none ∙ append-nil vs

pub part_passes : (n from : ℕ) (text next_text : List ℕ) (values : List ℤ) (left next : Left)
    → PartSoFar n from text values left → left.lines ≡ next_text ∷ next.lines → length next_text ≤ LINE_BYTES
    → is_skipped (fields_of next_text) ≡ true → is_eof (fields_of next_text) ≡ false → PartSoFar n from text values next
part_passes n from text next_text values left next s e m skip not_end =
    let known = s.read.known in
    record {
      texts = s.texts ++ next_text ∷ [];
      read = subst (AreValuesOf n from (s.texts ++ next_text ∷ [])) (none_added from values)
          (both_read n from (from + length values) s.texts (next_text ∷ []) values [] s.read
          (skipped_read n (from + length values) next_text known m skip not_end) (omega arith));
      all = more_lines text s.texts next_text left next s.all e;
    }

pub part_further : (n from at place block : ℕ) (v : ℤ) (text next_text : List ℕ) (values more : List ℤ)
    (left next : Left) → PartSoFar n from text values left → left.lines ≡ next_text ∷ next.lines
    → length next_text ≤ LINE_BYTES
    → is_eof (fields_of next_text) ≡ false → is_skipped (fields_of next_text) ≡ false
    → upit_shape_fault at (fields_of next_text) ≡ None → block ≡ block_of (fields_of next_text)
    → v ≡ value_of_record (fields_of next_text) → block < n
    → block ≡ from + place → length values ≤ place → more ≡ (values ++ replicate (place - length values) (pos 0)) ++ v
    ∷ [] → PartSoFar n from text more next
part_further n from at place block v text next_text values more left next s e m not_end not_skip shape is worth few
    put room added =
    let zeros : block - (from + length values) ≡ place - length values = omega (arith, put) in
    let same : joined_values from block values (v ∷ []) ≡ more = ap (λ k. (values ++ replicate k (pos 0)) ++ v ∷ [])
    zeros ∙ sym added in
    record {
      texts = s.texts ++ next_text ∷ [];
      read = subst (AreValuesOf n from (s.texts ++ next_text ∷ [])) same
          (both_read n from block s.texts (next_text ∷ []) values (v ∷ []) s.read
          (record_read n at block v next_text m not_end not_skip shape is worth few) (omega (arith, put, room)));
      all = more_lines text s.texts next_text left next s.all e;
    }

-- no line is left
pub part_whole : (n from : ℕ) (text : List ℕ) (values : List ℤ) (left : Left) → PartSoFar n from text values left
    → left.lines ≡ [] → IsPartRead n from (lines_of text) values false
part_whole n from text values left s e = record {
  front = s.texts;
  held = s.read;
  all = λ h. s.all ∙ ap (λ ls. s.texts ++ ls) e ∙ append-nil s.texts;
  end = λ h. absurd (true≢false (sym h));
}

ends_at : (k : ℕ) (text : List ℕ) (ls : List Line) → length text ≤ LINE_BYTES → is_eof (fields_of text) ≡ true
    → before_end (line k text ∷ ls) ≡ []
ends_at k text ls m e = rw (short text m, e) refl

-- the next line ends the text
pub part_ended : (n from : ℕ) (text next_text : List ℕ) (values : List ℤ) (left next : Left)
    → PartSoFar n from text values left → left.lines ≡ next_text ∷ next.lines → length next_text ≤ LINE_BYTES
    → is_eof (fields_of next_text) ≡ true → IsPartRead n from (lines_of text) values true
part_ended n from text next_text values left next s e m ends =
    let lines = s.all ∙ ap (λ ls. s.texts ++ ls) e in
    record {
      front = s.texts;
      held = s.read;
      all = λ h. absurd (true≢false h);
      end = λ h k ls.
          let front = numbered_lines k s.texts in
          let back = numbered_lines (k + length s.texts) (next_text ∷ next.lines) in
          ap (λ ts. before_end (numbered_lines k ts ++ ls)) lines
          ∙ ap (λ (ms : List Line). before_end (ms ++ ls)) (numbered-append k s.texts (next_text ∷ next.lines))
          ∙ ap before_end (append_assoc front back ls) ∙ s.read.unended k (back ++ ls)
          ∙ ap (λ (ms : List Line). front ++ ms)
          (ends_at (k + length s.texts + 1) next_text (numbered_lines (k + length s.texts + 1) next.lines ++ ls) m
          ends) ∙ append-nil front;
    }

-- ---- two parts as one

-- lines after the end change nothing
pub ended_joined : (n from : ℕ) (xs ys : List (List ℕ)) (values : List ℤ) (ended : Bool) → ended ≡ true
    → IsPartRead n from xs values ended → IsPartRead n from (xs ++ ys) values ended
ended_joined n from xs ys values ended e p = record {
  front = p.front;
  held = p.held;
  all = λ h. absurd (true≢false (sym e ∙ h));
  end = λ h k ls. ap (λ (ms : List Line). before_end (ms ++ ls)) (numbered-append k xs ys)
      ∙ ap before_end (append_assoc (numbered_lines k xs) (numbered_lines (k + length xs) ys) ls)
      ∙ p.end h k (numbered_lines (k + length xs) ys ++ ls);
}

pub parts_joined : (n from later place : ℕ) (xs ys : List (List ℕ)) (vs ws all : List ℤ) (first_ended ended : Bool)
    → first_ended ≡ false → IsPartRead n from xs vs first_ended → IsPartRead n later ys ws ended
    → later ≡ from + place → length vs ≤ place
    → all ≡ (vs ++ replicate (place - length vs) (pos 0)) ++ ws → IsPartRead n from (xs ++ ys) all ended
parts_joined n from later place xs ys vs ws all first_ended ended e p q put room joined =
    let zeros : later - (from + length vs) ≡ place - length vs = omega (arith, put) in
    let same : joined_values from later vs ws ≡ all = ap (λ k. (vs ++ replicate k (pos 0)) ++ ws) zeros ∙ sym joined in
    let front = p.all e in
    record {
      front = p.front ++ q.front;
      held = subst (AreValuesOf n from (p.front ++ q.front)) same
          (both_read n from later p.front q.front vs ws p.held q.held (omega (arith, put, room)));
      all = λ h. ap (λ ts. ts ++ ys) front ∙ ap (λ ts. p.front ++ ts) (q.all h);
      end = λ h k ls.
          let first = numbered_lines k p.front in
          let second = numbered_lines (k + length p.front) ys in
          ap (λ ts. before_end (numbered_lines k (ts ++ ys) ++ ls)) front
          ∙ ap (λ (ms : List Line). before_end (ms ++ ls)) (numbered-append k p.front ys)
          ∙ ap before_end (append_assoc first second ls) ∙ p.held.unended k (second ++ ls)
          ∙ ap (λ (ms : List Line). first ++ ms) (q.end h (k + length p.front) ls)
          ∙ sym (numbered-append k p.front q.front);
    }

-- ---- the whole

-- the lines before the end are those that were read
read_lines : (n from k : ℕ) (texts : List (List ℕ)) (values : List ℤ) (ended t : Bool) → ended ≡ t
    → (p : IsPartRead n from texts values ended) → before_end (numbered_lines k texts) ≡ numbered_lines k p.front
read_lines n from k texts values ended true e p = ap before_end (sym (append-nil (numbered_lines k texts)))
    ∙ p.end e k []
read_lines n from k texts values ended false e p =
    ap (λ ts. before_end (numbered_lines k ts)) (p.all e)
    ∙ ap before_end (sym (append-nil (numbered_lines k p.front))) ∙ p.held.unended k []
    ∙ append-nil (numbered_lines k p.front)

pub text_read : (n k : ℕ) (texts : List (List ℕ)) (values whole : List ℤ) (ended : Bool)
    → IsPartRead n 0 texts values ended → whole ≡ values ++ replicate (n - length values) (pos 0)
    → (first_upit_fault n [] (before_end (numbered_lines k texts)) ≡ None) × (length whole ≡ n)
    × ((b : ℕ) → b < n → get_or whole b (pos 0) ≡ value_among (before_end (numbered_lines k texts)) b)
text_read n k texts values whole ended p e =
    let lines = read_lines n 0 k texts values ended ended refl p in (
      ap (first_upit_fault n []) lines ∙ p.held.sound k [] (λ b l. refl),
      ap length e ∙ omega (
        arith,
        p.held.known,
        length-append values (replicate (n - length values) (pos 0)),
        length-replicate (n - length values) (pos 0),
      ),
      λ b l. ap (λ vs. get_or vs b (pos 0)) e ∙ padded values (n - length values) b
          ∙ sym (ap (λ (ls : List Line). value_among ls b) lines ∙ p.held.worth k b),
    )
