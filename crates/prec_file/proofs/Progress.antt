-- Reading line after line.
use Rattle.fixed_worth.proofs.Common.{◌≡◌, ℕ, ◌+◌, ◌<◌, ◌≤◌, Bool, false, List, [], ◌∷◌, ◌++◌, length, get_or, Some}
use Rattle.fixed_worth.proofs.Common.{None, refl, arith, append_assoc, append-nil, option_or, common_steps}
use Rattle.fixed_worth.specs.Prelude.{Left, fields_of, Line, numbered_lines, has}
use Rattle.fixed_worth.specs.declared.limits.TheConstants.{LINE_BYTES}
use Rattle.prec_file.specs.declared.prec_fault.PrecFault.{PrecFault}
use Rattle.prec_file.specs.Prelude.{pairs_in, blocks_of_fields, record_fault, fault_after, blocks_of, pairs_of}
use Rattle.prec_file.specs.Prelude.{first_fault, fault_of, pairs_of_text, marks_after}
use Rattle.prec_file.proofs.History.{record_same, record_block}

-- What has been read, and what is left.
pub record ReadSoFar (n : ℕ) (text : List ℕ) (seen : List Bool) (pairs : List (ℕ × ℕ)) (left : Left) : Type 0 where
  pub before : List Line
  pub fault : first_fault n before (numbered_lines left.number left.lines) ≡ fault_of n text
  pub all : pairs ++ pairs_of (numbered_lines left.number left.lines) ≡ pairs_of_text text
  pub pairs_so : pairs ≡ pairs_of before
  pub seen_so : (b : ℕ) → b < n → get_or seen b false ≡ has (blocks_of before) b

-- The fault of the next line is that of its record, as the reader knows it.
pub beyond : (n : ℕ) (text : List ℕ) (seen : List Bool) (pairs : List (ℕ × ℕ)) (left : Left)
    (g : ReadSoFar n text seen pairs left) (k : ℕ) (line : List ℕ) → length line ≤ LINE_BYTES
    → fault_after n g.before (record { number = k; text = line }) ≡ record_fault n (λ b. get_or seen b false)
    (length pairs) k (fields_of line)
beyond n text seen pairs left g k line h = grind (arith, common_steps, record_same)

pub next_fault : (n : ℕ) (before : List Line) (left next : Left) (line : List ℕ) → left.lines ≡ line ∷ next.lines
    → next.number ≡ left.number + 1
    → first_fault n before (numbered_lines left.number left.lines) ≡ option_or
    (fault_after n before (record { number = next.number; text = line }))
    (first_fault n (before ++ record { number = next.number; text = line } ∷ [])
    (numbered_lines next.number next.lines))
next_fault n before left next line e f = rw (e, f) refl

pub goes_on : (n : ℕ) (text : List ℕ) (seen more : List Bool) (pairs others : List (ℕ × ℕ)) (left next : Left)
    (line : List ℕ) → ReadSoFar n text seen pairs left → length seen ≡ n
    → left.lines ≡ line ∷ next.lines → next.number ≡ left.number + 1 → length line ≤ LINE_BYTES
    → record_fault n (λ b. get_or seen b false) (length pairs) next.number (fields_of line) ≡ None
    → others ≡ pairs ++ pairs_in (fields_of line) → more ≡ marks_after (fields_of line) seen
    → ReadSoFar n text more others next
goes_on n text seen more pairs others left next line g e f h i w p m = grind (
  arith,
  common_steps,
  (numbered_lines next.number next.lines),
  (append-nil (blocks_of_fields (fields_of line))),
  (append-nil (pairs_in (fields_of line))),
  (beyond n text seen pairs left g next.number line i),
  (next_fault n g.before left next line f h),
  (append_assoc pairs (pairs_in (fields_of line)) (pairs_of (numbered_lines next.number next.lines))),
  (record_block n _ (length pairs) next.number (fields_of line) w),
)

-- A line without a fault is read, where the reader has the line's number apart.
pub step_on : (n k : ℕ) (text : List ℕ) (seen more : List Bool) (pairs others : List (ℕ × ℕ)) (left next : Left)
    (line : List ℕ) → ReadSoFar n text seen pairs left → length seen ≡ n → k ≡ next.number
    → left.lines ≡ line ∷ next.lines → next.number ≡ left.number + 1 → length line ≤ LINE_BYTES
    → record_fault n (λ b. get_or seen b false) (length pairs) k (fields_of line) ≡ None
    → others ≡ pairs ++ pairs_in (fields_of line) → more ≡ marks_after (fields_of line) seen
    → ReadSoFar n text more others next
step_on n k text seen more pairs others left next line g e j f h i w p m = grind (arith, common_steps, goes_on)

pub step_wrong : (n k : ℕ) (text : List ℕ) (seen : List Bool) (pairs : List (ℕ × ℕ)) (left next : Left)
    (line : List ℕ) (x : PrecFault) → ReadSoFar n text seen pairs left → k ≡ next.number
    → left.lines ≡ line ∷ next.lines → next.number ≡ left.number + 1 → length line ≤ LINE_BYTES
    → record_fault n (λ b. get_or seen b false) (length pairs) k (fields_of line) ≡ Some x → fault_of n text ≡ Some x
step_wrong n k text seen pairs left next line x g j f h i w =
    grind (
      arith,
      common_steps,
      (next_fault n g.before left next line f h),
      (beyond n text seen pairs left g next.number line i),
    )
