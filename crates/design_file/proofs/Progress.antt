-- Reading line after line.
use Rattle.fixed_worth.proofs.Common.{◌≡◌, ℕ, ◌+◌, ◌<◌, ◌≤◌, Bool, false, List, [], ◌∷◌, ◌++◌, length, get_or, Some}
use Rattle.fixed_worth.proofs.Common.{None, refl, subst, arith, append_assoc, append-nil, true, cond, Option, sym, ap}
use Rattle.fixed_worth.proofs.Common.{◌∙◌, option_or, flat_map-append, common_steps}
use Rattle.fixed_worth.proofs.NextLine.{next_is}
use Rattle.fixed_worth.specs.Prelude.{Left, fields_of, Line, numbered_lines, lines_in, has}
use Rattle.fixed_worth.specs.declared.limits.TheConstants.{LINE_BYTES}
use Rattle.design_file.specs.declared.design_fault.DesignFault.{DesignFault}
use Rattle.design_file.specs.declared.design_fault.DesignFault.TheVariants.{NoMemory}
use Rattle.design_file.specs.Records.{design_record_fault, design_line_fault, design_blocks_of, first_design_fault}
use Rattle.design_file.specs.Records.{design_fault_of, design_marks_after, is_open_after, is_left_open}
use Rattle.design_file.specs.Records.{UnlessDesignMemory, is_passed, design_block_word, named_fault, design_block_in}
use Rattle.design_file.specs.Records.{design_blocks_of_fields, set_in}

-- ---- marks

mark_word : (n : ℕ) (g : ℕ → Bool) (line : ℕ) (marks : List Bool) (bs : List ℕ) (o : Option (List ℕ))
    → length marks ≡ n → named_fault n g line o ≡ None → ((k : ℕ) → k < n → get_or marks k false ≡ has bs k)
    → (k : ℕ) → k < n → get_or (set_in marks o) k false ≡ has (bs ++ design_block_in o) k
mark_word n g line marks bs None e w h k j = cc
mark_word n g line marks bs (Some word) e w h k j = grind (arith, common_steps)

mark_by : (s : Bool) (n : ℕ) (g : ℕ → Bool) (line : ℕ) (marks : List Bool) (bs : List ℕ) (o : Option (List ℕ))
    → length marks ≡ n → cond s None (named_fault n g line o) ≡ None
    → ((k : ℕ) → k < n → get_or marks k false ≡ has bs k)
    → (k : ℕ) → k < n → get_or (cond s marks (set_in marks o)) k false ≡ has (bs ++ cond s [] (design_block_in o)) k
mark_by true n g line marks bs o e w h k j = h k j ∙ ap (λ (xs : List ℕ). has xs k) (sym (append-nil bs))
mark_by false n g line marks bs o e w h k j = mark_word n g line marks bs o e w h k j

pub mark : (n : ℕ) (g : ℕ → Bool) (line : ℕ) (marks : List Bool) (bs : List ℕ) (fs : List (List ℕ)) → length marks ≡ n
    → design_record_fault n g line fs ≡ None → ((k : ℕ) → k < n → get_or marks k false ≡ has bs k)
    → (k : ℕ) → k < n → get_or (design_marks_after fs marks) k false ≡ has (bs ++ design_blocks_of_fields fs) k
mark n g line marks bs fs e w h k j = mark_by (is_passed fs) n g line marks bs (design_block_word fs) e w h k j

-- ---- whether a certificate is open

opened : (o : Bool) (lines : List Line) (l : Line)
    → is_left_open o (lines ++ l ∷ []) ≡ is_open_after (is_left_open o lines) (fields_of l.text)
opened o [] l = refl
opened o (k ∷ lines) l = opened (is_open_after o (fields_of k.text)) lines l

-- What has been read, and what is left.
pub record ReadSoFar (n : ℕ) (text : List ℕ) (marks : List Bool) (is_open : Bool) (left : Left) : Type 0 where
  pub before : List Line
  pub fault : first_design_fault n before (numbered_lines left.number left.lines) ≡ design_fault_of n text
  pub whole : before ++ numbered_lines left.number left.lines ≡ lines_in text
  pub marks_so : (b : ℕ) → b < n → get_or marks b false ≡ has (design_blocks_of before) b
  pub open_so : is_open ≡ is_left_open false before

pub unless : (e : DesignFault) {Q : Type 0} → Q → UnlessDesignMemory e Q
unless NoMemory h = tt
unless e h = h

-- The fault of the next line is that of its record, as the reader knows it.
after : (n : ℕ) (text : List ℕ) (marks : List Bool) (is_open : Bool) (left : Left)
    (g : ReadSoFar n text marks is_open left) (k : ℕ) (line : List ℕ) → length line ≤ LINE_BYTES
    → design_line_fault n (has (design_blocks_of g.before)) (record { number = k; text = line })
    ≡ design_record_fault n (λ b. get_or marks b false) k (fields_of line)
after n text marks is_open left g k line h = grind (arith, common_steps)

next_fault : (n : ℕ) (before : List Line) (left next : Left) (line : List ℕ) → left.lines ≡ line ∷ next.lines
    → next.number ≡ left.number + 1
    → first_design_fault n before (numbered_lines left.number left.lines) ≡ option_or
    (design_line_fault n (has (design_blocks_of before)) (record { number = next.number; text = line }))
    (first_design_fault n (before ++ record { number = next.number; text = line } ∷ [])
    (numbered_lines next.number next.lines))
next_fault n before left next line e f = rw (e, f) refl

goes_wrong : (n : ℕ) (text : List ℕ) (marks : List Bool) (is_open : Bool) (left next : Left) (line : List ℕ)
    (x : DesignFault) → ReadSoFar n text marks is_open left
    → left.lines ≡ line ∷ next.lines → next.number ≡ left.number + 1 → length line ≤ LINE_BYTES
    → design_record_fault n (λ b. get_or marks b false) next.number (fields_of line) ≡ Some x
    → design_fault_of n text ≡ Some x
goes_wrong n text marks is_open left next line x g e f h w = grind (arith, common_steps)

goes_on : (n : ℕ) (text : List ℕ) (marks more : List Bool) (o p : Bool) (left next : Left) (line : List ℕ)
    → ReadSoFar n text marks o left → length marks ≡ n
    → left.lines ≡ line ∷ next.lines → next.number ≡ left.number + 1 → length line ≤ LINE_BYTES
    → design_record_fault n (λ b. get_or marks b false) next.number (fields_of line) ≡ None
    → more ≡ design_marks_after (fields_of line) marks → p ≡ is_open_after o (fields_of line)
    → ReadSoFar n text more p next
goes_on n text marks more o p left next line g e f h i w m q = grind (
  arith,
  common_steps,
  flat_map-append,
  append-nil,
  after,
  next_fault,
  append_assoc,
  next_is left next next.number
      line (record { lines = f; number = h; same = refl; small = i }),
  mark,
  opened,
)

-- A line without a fault is read, where the reader has the line's number apart.
pub step_on : (n k : ℕ) (text : List ℕ) (marks more : List Bool) (o p : Bool) (left next : Left) (line : List ℕ)
    → ReadSoFar n text marks o left → length marks ≡ n → k ≡ next.number
    → left.lines ≡ line ∷ next.lines → next.number ≡ left.number + 1 → length line ≤ LINE_BYTES
    → design_record_fault n (λ b. get_or marks b false) k (fields_of line) ≡ None
    → more ≡ design_marks_after (fields_of line) marks → p ≡ is_open_after o (fields_of line)
    → ReadSoFar n text more p next
step_on n k text marks more o p left next line g e j f h i w m q =
    goes_on n text marks more o p left next line g e f h i
    (subst (λ (x : ℕ). design_record_fault n (λ b. get_or marks b false) x (fields_of line) ≡ None) j w) m q

pub step_wrong : (n k : ℕ) (text : List ℕ) (marks : List Bool) (is_open : Bool) (left next : Left) (line : List ℕ)
    (x : DesignFault) → ReadSoFar n text marks is_open left → k ≡ next.number
    → left.lines ≡ line ∷ next.lines → next.number ≡ left.number + 1 → length line ≤ LINE_BYTES
    → design_record_fault n (λ b. get_or marks b false) k (fields_of line) ≡ Some x → design_fault_of n text ≡ Some x
step_wrong n k text marks is_open left next line x g j f h i w =
    goes_wrong n text marks is_open left next line x g f h i
    (subst (λ (y : ℕ). design_record_fault n (λ b. get_or marks b false) y (fields_of line) ≡ Some x) j w)
