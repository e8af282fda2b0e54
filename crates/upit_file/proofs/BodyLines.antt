-- Reading the records line after line.
use Rattle.fixed_worth.proofs.Common.{◌≡◌, ℕ, ◌<◌, Bool, true, false, cond, eqb, List, [], ◌∷◌, ◌++◌, length, get_or}
use Rattle.fixed_worth.proofs.Common.{set, Some, None, ℤ, pos, refl, sym, ap, ◌∙◌, arith, get_or-set_same}
use Rattle.fixed_worth.proofs.Common.{get_or-set_other, ◌||◌, nat_le, or_parts, nat_tests, list_any-append, or-false}
use Rattle.fixed_worth.proofs.Common.{common_steps}
use Rattle.std.proofs.Math.ListN.{length-set}
use Rattle.fixed_worth.specs.Prelude.{Left, fields_of, Line, numbered_lines, is_skipped, block_of, is_record_of}
use Rattle.upit_file.specs.declared.upit_fault.UpitFault.TheVariants.{UnknownBlock, Repeated}
use Rattle.upit_file.specs.Prelude.{is_eof, fields_in, value_of_record, upit_shape_fault, upit_block_fault}
use Rattle.upit_file.specs.Prelude.{upit_record_fault, has_value_record, value_among, first_upit_fault, before_end}
use Rattle.fixed_worth.proofs.NextLine.{line, short, Next}

-- What has been read, and what is left.
pub record Kept (n : ℕ) (all : List Line) (seen : List Bool) (values : List ℤ) (left : Left) : Type 0 where
  pub before : List Line
  pub fault : first_upit_fault n before (before_end (numbered_lines left.number left.lines)) ≡ first_upit_fault n []
      (before_end all)
  pub whole : before ++ before_end (numbered_lines left.number left.lines) ≡ before_end all
  pub marks : (b : ℕ) → b < n → get_or seen b false ≡ has_value_record before b
  pub worth : (b : ℕ) → b < n → get_or values b (pos 0) ≡ value_among before b
  pub all_seen : length seen ≡ n
  pub all_values : length values ≡ n

pub has-push : (before : List Line) (l : Line) (b : ℕ)
    → has_value_record (before ++ l ∷ []) b ≡ (has_value_record before b || is_record_of b (fields_in l))
has-push before l b = list_any-append (λ x. is_record_of b (fields_in x)) before (l ∷ [])
    ∙ ap (λ t. has_value_record before b || t) (or-false (is_record_of b (fields_in l)))

-- A line that is no record of b leaves b's value.
value_other : (before : List Line) (l : Line) (b : ℕ) → is_record_of b (fields_in l) ≡ false
    → value_among (before ++ l ∷ []) b ≡ value_among before b
value_other [] l b e = rw e refl
value_other (x ∷ xs) l b e = ap (cond (is_record_of b (fields_in x)) (value_of_record (fields_in x)))
    (value_other xs l b e)

-- A block's first record gives its value.
value_first : (before : List Line) (l : Line) (b : ℕ) → has_value_record before b ≡ false
    → is_record_of b (fields_in l) ≡ true → value_among (before ++ l ∷ []) b ≡ value_of_record (fields_in l)
value_first [] l b h e = rw e refl
value_first (x ∷ xs) l b h e =
    let p = or_parts (is_record_of b (fields_in x)) (has_value_record xs b) h in
    rw p.0 (value_first xs l b p.1 e)

-- A block's fault depends only on which of the n blocks had a record.
block_same : (n : ℕ) (g h : ℕ → Bool) (k block : ℕ) → ((b : ℕ) → b < n → g b ≡ h b) → (t : Bool) → nat_le n block ≡ t
    → upit_block_fault n g k block ≡ upit_block_fault n h k block
block_same n g h k block e true f = rw f refl
block_same n g h k block e false f = grind (arith, common_steps)

-- A block's fault by the records before is its fault by the marks.
known : (n : ℕ) (seen : List Bool) (before : List Line) (k block : ℕ)
    → ((b : ℕ) → b < n → get_or seen b false ≡ has_value_record before b) → length seen ≡ n
    → upit_block_fault n (has_value_record before) k block ≡ upit_block_fault (length seen) (λ b. get_or seen b false)
    k block
known n seen before k block m e =
    block_same n (has_value_record before) (λ b. get_or seen b false) k block (λ b i. sym (m b i))
    (nat_le n block) refl ∙ ap (λ (c : ℕ). upit_block_fault c (λ b. get_or seen b false) k block) (sym e)

-- The line has no fault, and joins those before.
joins : (n : ℕ) (all : List Line) (seen : List Bool) (values : List ℤ) (left next : Left) (k : ℕ) (text : List ℕ)
    (g : Kept n all seen values left) → Next left next k text → is_eof (fields_of text) ≡ false
    → upit_record_fault n (has_value_record g.before) k (fields_of text) ≡ None
    → (first_upit_fault n (g.before ++ line k text ∷ []) (before_end (numbered_lines next.number next.lines))
    ≡ first_upit_fault n [] (before_end all))
    × ((g.before ++ line k text ∷ []) ++ before_end (numbered_lines next.number next.lines) ≡ before_end all)
joins n all seen values left next k text g h e none = grind (arith, common_steps)

pub passes : (n : ℕ) (all : List Line) (seen : List Bool) (values : List ℤ) (left next : Left) (k : ℕ) (text : List ℕ)
    → Kept n all seen values left → Next left next k text → is_eof (fields_of text) ≡ false
    → is_skipped (fields_of text) ≡ true → Kept n all seen values next
passes n all seen values left next k text g h e s = grind
    (arith, common_steps, line, joins, short, has-push, or-false, value_other)

-- A block without a fault is one of the n, and had no record.
fault_none : (n : ℕ) (had : ℕ → Bool) (k block : ℕ) → upit_block_fault n had k block ≡ None → (t : Bool)
    → nat_le n block ≡ t → (u : Bool) → had block ≡ u → (block < n) × (had block ≡ false)
fault_none n had k block h true e u f = absurd (let q : Some (UnknownBlock k) ≡ None = sym (rw e refl) ∙ h in cc)
fault_none n had k block h false e true f = absurd (let q : Some (Repeated k) ≡ None = sym (rw (e, f) refl) ∙ h in cc)
fault_none n had k block h false e false f = (grind (arith, nat_tests), f)

mark_at : (seen : List Bool) (before : List Line) (block b : ℕ) (l : Line) → block < length seen
    → get_or seen b false ≡ has_value_record before b → is_record_of b (fields_in l) ≡ eqb block b → (t : Bool)
    → eqb block b ≡ t → get_or (set seen block true) b false ≡ has_value_record (before ++ l ∷ []) b
mark_at seen before block b l i h r true e = grind (arith, common_steps)
mark_at seen before block b l i h r false e = grind (arith, common_steps)

worth_at : (values : List ℤ) (before : List Line) (block b : ℕ) (v : ℤ) (l : Line) → block < length values
    → get_or values b (pos 0) ≡ value_among before b → is_record_of b (fields_in l) ≡ eqb block b
    → has_value_record before block ≡ false → v ≡ value_of_record (fields_in l)
    → (t : Bool) → eqb block b ≡ t → get_or (set values block v) b (pos 0) ≡ value_among (before ++ l ∷ []) b
worth_at values before block b v l i h r new is true e = grind (arith, common_steps, pos, get_or-set_same, value_first)
worth_at values before block b v l i h r new is false e = grind
    (arith, common_steps, get_or-set_other, pos, value_other)

pub keeps : (n block : ℕ) (v : ℤ) (all : List Line) (seen marked : List Bool) (values others : List ℤ)
    (left next : Left) (k : ℕ) (text : List ℕ) → Kept n all seen values left → Next left next k text
    → is_eof (fields_of text) ≡ false
    → is_skipped (fields_of text) ≡ false → upit_shape_fault k (fields_of text) ≡ None
    → block ≡ block_of (fields_of text) → v ≡ value_of_record (fields_of text)
    → upit_block_fault (length seen) (λ b. get_or seen b false) k block ≡ None
    → marked ≡ set seen block true → others ≡ set values block v → Kept n all marked others next
keeps n block v all seen marked values others left next k text g h e s f is worth w m o = grind
    (arith, common_steps, line, short, known, joins, fault_none, eqb, mark_at, ℤ, pos, worth_at, length-set)
