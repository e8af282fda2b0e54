-- Reading the records line after line.
use Rattle.fixed_worth.proofs.Common.{◌≡◌, ℕ, ℤ, pos, ◌+◌, ◌*◌, ◌<◌, ◌≤◌, ◌≢◌, Bool, true, false, cond, eqb, List, []}
use Rattle.fixed_worth.proofs.Common.{◌∷◌, ◌++◌, length, get_or, set, replicate, Option, Some, None, refl, sym, ap, ◌∙◌}
use Rattle.fixed_worth.proofs.Common.{arith, append-nil, true≢false, zero, suc, ◌||◌, nat_le, option_or, or_parts}
use Rattle.fixed_worth.proofs.Common.{nat_tests, length-replicate, get_or-replicate, list_any-append, or-false}
use Rattle.fixed_worth.proofs.Common.{common_steps}
use Rattle.std.proofs.Math.ListN.{length-set}
use Rattle.fixed_worth.specs.declared.limits.TheConstants.{MOST_BLOCKS}
use Rattle.blocks_file.specs.declared.limits.TheConstants.{MOST_COLUMNS}
use Rattle.fixed_worth.specs.Prelude.{Left, fields_of, Line, numbered_lines, is_skipped, block_of, is_record_of}
use Rattle.blocks_file.specs.declared.place.Place.{Place}
use Rattle.blocks_file.specs.declared.blocks_fault.BlocksFault.{BlocksFault}
use Rattle.blocks_file.specs.declared.blocks_fault.BlocksFault.TheVariants.{UnknownBlock, Repeated}
use Rattle.blocks_file.specs.Prelude.{place_of_record, columns_of, value_in, blocks_shape_fault, blocks_block_fault}
use Rattle.blocks_file.specs.Prelude.{blocks_record_fault, has_place_record, record_among, first_blocks_fault}
use Rattle.blocks_file.specs.Prelude.{long_fault, record_line_numbers, origin, HoldsValues, ArePut, AreKept}
use Rattle.fixed_worth.proofs.NextLine.{line, Next, next_is}
use Rattle.blocks_file.proofs.Counts.{moved, still_long, push_skipped, push_record, longer}
use Rattle.blocks_file.proofs.Slots.{blocks_apart}
use Rattle.blocks_file.proofs.Rows.{value_small}

abbrev pub marked : List Bool → ℕ
marked [] = 0
marked (true ∷ bs) = marked bs + 1
marked (false ∷ bs) = marked bs

pub marked-replicate : (n : ℕ) → marked (replicate n false) ≡ 0
marked-replicate zero = refl
marked-replicate (suc n) = marked-replicate n

pub marked-set : (bs : List Bool) (b : ℕ) → b < length bs → get_or bs b false ≡ false
    → marked (set bs b true) ≡ marked bs + 1
marked-set [] b h e = absurd (omega arith)
marked-set (true ∷ bs) zero h e = absurd (true≢false e)
marked-set (false ∷ bs) zero h e = refl
marked-set (true ∷ bs) (suc b) h e = ap (λ (n : ℕ). n + 1) (marked-set bs b (omega arith) e)
marked-set (false ∷ bs) (suc b) h e = marked-set bs b (omega arith) e

marked_most : (bs : List Bool) → marked bs ≤ length bs
marked_most [] = omega arith
marked_most (true ∷ bs) = omega (arith, marked_most bs)
marked_most (false ∷ bs) = omega (arith, marked_most bs)

-- As many marks as blocks leave none without.
pub all_marked : (bs : List Bool) (b : ℕ) → marked bs ≡ length bs → b < length bs → get_or bs b false ≡ true
all_marked [] b e h = absurd (omega arith)
all_marked (true ∷ bs) zero e h = refl
all_marked (true ∷ bs) (suc b) e h = all_marked bs b (omega arith) (omega arith)
all_marked (false ∷ bs) b e h = absurd (omega (arith, marked_most bs, e))

-- What has been read, and what is left.
pub record ReadSoFar (n : ℕ) (chosen : List ℕ) (all : List Line) (seen : List Bool) (places : List Place)
    (values : List ℤ) (left : Left) : Type 0 where
  pub before : List Line
  pub fault : first_blocks_fault n chosen before (numbered_lines left.number left.lines) ≡ first_blocks_fault n chosen
      [] all
  pub whole : before ++ numbered_lines left.number left.lines ≡ all
  pub long : long_fault (numbered_lines left.number left.lines) ≡ long_fault all
  pub marks : (b : ℕ) → b < n → get_or seen b false ≡ has_place_record before b
  pub count : marked seen ≡ length (record_line_numbers before)
  pub place : (b : ℕ) → b < n → get_or seen b false ≡ true
      → get_or places b origin ≡ place_of_record (record_among before b)
  pub value : (b i : ℕ) → b < n → get_or seen b false ≡ true → i < length chosen
      → get_or values (b * length chosen + i) (pos 0) ≡ value_in (columns_of (record_among before b))
      (get_or chosen i 0)
  pub all_seen : length seen ≡ n
  pub all_places : length places ≡ n
  pub all_values : length values ≡ n * length chosen

unseen : (n b : ℕ) (seen : List Bool) → seen ≡ replicate n false → b < n → get_or seen b false ≡ false
unseen n b seen s i = ap (λ (xs : List Bool). get_or xs b false) s ∙ get_or-replicate n b false false i

pub begins : (n : ℕ) (chosen : List ℕ) (all : List Line) (seen : List Bool) (places : List Place) (values : List ℤ)
    (left : Left) → all ≡ numbered_lines left.number left.lines → seen ≡ replicate n false → length places ≡ n
    → length values ≡ n * length chosen
    → ReadSoFar n chosen all seen places values left
begins n chosen all seen places values left e s p v = record {
  before = [];
  fault = ap (λ (ls : List Line). first_blocks_fault n chosen [] ls) (sym e);
  whole = sym e;
  long = ap long_fault (sym e);
  marks = λ b i. unseen n b seen s i;
  count = ap marked s ∙ marked-replicate n;
  place = λ b i t. absurd (true≢false (sym t ∙ unseen n b seen s i));
  value = λ b i h t l. absurd (true≢false (sym t ∙ unseen n b seen s h));
  all_seen = ap length s ∙ length-replicate n false;
  all_places = p;
  all_values = v;
}

has-push : (before : List Line) (l : Line) (b : ℕ)
    → has_place_record (before ++ l ∷ []) b ≡ (has_place_record before b || is_record_of b (fields_of l.text))
has-push before l b = list_any-append (λ x. is_record_of b (fields_of x.text)) before (l ∷ [])
    ∙ ap (λ t. has_place_record before b || t) (or-false (is_record_of b (fields_of l.text)))

-- A line that is no record of b leaves b's record.
record_other : (before : List Line) (l : Line) (b : ℕ) → is_record_of b (fields_of l.text) ≡ false
    → record_among (before ++ l ∷ []) b ≡ record_among before b
record_other [] l b e = rw e refl
record_other (x ∷ xs) l b e = ap (cond (is_record_of b (fields_of x.text)) (fields_of x.text)) (record_other xs l b e)

-- A block's first record is its record.
record_first : (before : List Line) (l : Line) (b : ℕ) → has_place_record before b ≡ false
    → is_record_of b (fields_of l.text) ≡ true → record_among (before ++ l ∷ []) b ≡ fields_of l.text
record_first [] l b h e = rw e refl
record_first (x ∷ xs) l b h e =
    let p = or_parts (is_record_of b (fields_of x.text)) (has_place_record xs b) h in
    rw p.0 (record_first xs l b p.1 e)

-- A block's fault depends only on which of the n blocks had a record.
block_same : (n : ℕ) (g h : ℕ → Bool) (k block : ℕ) → ((b : ℕ) → b < n → g b ≡ h b) → (t : Bool) → nat_le n block ≡ t
    → blocks_block_fault n g k block ≡ blocks_block_fault n h k block
block_same n g h k block e true f = rw f refl
block_same n g h k block e false f = grind (arith, common_steps)

-- A block's fault by the records before is its fault by the marks.
known : (n : ℕ) (seen : List Bool) (before : List Line) (k block : ℕ)
    → ((b : ℕ) → b < n → get_or seen b false ≡ has_place_record before b) → length seen ≡ n
    → blocks_block_fault n (has_place_record before) k block ≡ blocks_block_fault (length seen)
    (λ b. get_or seen b false) k block
known n seen before k block m e =
    block_same n (has_place_record before) (λ b. get_or seen b false) k block (λ b i. sym (m b i))
    (nat_le n block) refl ∙ ap (λ (c : ℕ). blocks_block_fault c (λ b. get_or seen b false) k block) (sym e)

-- The fault of the next line, and of those after it.
next_fault : (n : ℕ) (chosen : List ℕ) (all : List Line) (seen : List Bool) (places : List Place) (values : List ℤ)
    (left next : Left) (k : ℕ) (text : List ℕ) (g : ReadSoFar n chosen all seen places values left)
    → Next left next k text
    → option_or (blocks_record_fault n chosen (has_place_record g.before) k (fields_of text))
    (first_blocks_fault n chosen (g.before ++ line k text ∷ []) (numbered_lines next.number next.lines))
    ≡ first_blocks_fault n chosen [] all
next_fault n chosen all seen places values left next k text g h = sym
    (ap (λ (ls : List Line). first_blocks_fault n chosen g.before ls) (next_is left next k text h)) ∙ g.fault

-- The line has no fault.
no_fault : (n : ℕ) (chosen : List ℕ) (all : List Line) (seen : List Bool) (places : List Place) (values : List ℤ)
    (left next : Left) (k : ℕ) (text : List ℕ) (g : ReadSoFar n chosen all seen places values left)
    → Next left next k text
    → blocks_record_fault n chosen (has_place_record g.before) k (fields_of text) ≡ None
    → first_blocks_fault n chosen (g.before ++ line k text ∷ []) (numbered_lines next.number next.lines)
    ≡ first_blocks_fault n chosen [] all
no_fault n chosen all seen places values left next k text g h none =
    sym (ap (λ (o : Option BlocksFault). option_or o
    (first_blocks_fault n chosen (g.before ++ line k text ∷ []) (numbered_lines next.number next.lines))) none)
    ∙ next_fault n chosen all seen places values left next k text g h

-- The line is skipped.
pub passes : (n : ℕ) (chosen : List ℕ) (all : List Line) (seen : List Bool) (places : List Place) (values : List ℤ)
    (left next : Left) (k : ℕ) (text : List ℕ) → ReadSoFar n chosen all seen places values left → Next left next k text
    → is_skipped (fields_of text) ≡ true → ReadSoFar n chosen all seen places values next
passes n chosen all seen places values left next k text g h s =
    let l = line k text in
    let out : (b : ℕ) → is_record_of b (fields_of l.text) ≡ false = λ b. rw s refl in
    record {
      before = g.before ++ l ∷ [];
      fault = no_fault n chosen all seen places values left next k text g h (rw s refl);
      whole = moved all g.before left next k text g.whole h;
      long = still_long all left next k text g.long h;
      marks = λ b i. g.marks b i
          ∙ sym (has-push g.before l b ∙ ap (λ t. has_place_record g.before b || t) (out b)
          ∙ or-false (has_place_record g.before b));
      count = g.count ∙ sym (ap length (push_skipped g.before k text s));
      place = λ b i t. g.place b i t ∙ ap place_of_record (sym (record_other g.before l b (out b)));
      value = λ b i j t m. g.value b i j t m
          ∙ ap (λ (fs : List (List ℕ)). value_in (columns_of fs) (get_or chosen i 0))
          (sym (record_other g.before l b (out b)));
      all_seen = g.all_seen;
      all_places = g.all_places;
      all_values = g.all_values;
    }

-- A block without a fault is one of the n, and had no record.
fault_none : (n : ℕ) (had : ℕ → Bool) (k block : ℕ) → blocks_block_fault n had k block ≡ None → (t : Bool)
    → nat_le n block ≡ t → (u : Bool) → had block ≡ u → (block < n) × (had block ≡ false)
fault_none n had k block h true e u f = absurd (let q : Some (UnknownBlock k) ≡ None = sym (rw e refl) ∙ h in cc)
fault_none n had k block h false e true f = absurd (let q : Some (Repeated k) ≡ None = sym (rw (e, f) refl) ∙ h in cc)
fault_none n had k block h false e false f = (grind (arith, nat_tests), f)

-- What a block's record changes: its mark, its place and its values.
mark_at : (seen : List Bool) (before : List Line) (block b : ℕ) (l : Line) → block < length seen
    → get_or seen b false ≡ has_place_record before b → is_record_of b (fields_of l.text) ≡ eqb block b → (t : Bool)
    → eqb block b ≡ t → get_or (set seen block true) b false ≡ has_place_record (before ++ l ∷ []) b
mark_at seen before block b l i h r true e = grind (arith, common_steps)
mark_at seen before block b l i h r false e = grind (arith, common_steps)

place_here : (places : List Place) (before : List Line) (block b : ℕ) (p : Place) (l : Line) → block < length places
    → has_place_record before block ≡ false → is_record_of b (fields_of l.text) ≡ eqb block b
    → p ≡ place_of_record (fields_of l.text)
    → (t : Bool) → eqb block b ≡ t → (t ≡ false → get_or places b origin ≡ place_of_record (record_among before b))
    → get_or (set places block p) b origin ≡ place_of_record (record_among (before ++ l ∷ []) b)
place_here places before block b p l i new r is true e old = grind (arith, common_steps, record_first)
place_here places before block b p l i new r is false e old = grind (arith, common_steps, record_other)

untouched : (block b i w : ℕ) (row old new : List ℤ) → length row ≡ w → i < w → b ≢ block
    → ArePut (block * w) row old new → get_or new (b * w + i) (pos 0) ≡ get_or old (b * w + i) (pos 0)
untouched block b i w row old new s h ne p = grind (arith, common_steps, blocks_apart)

value_here : (chosen : List ℕ) (before : List Line) (block b i : ℕ) (row old new : List ℤ) (l : Line)
    → i < length chosen → has_place_record before block ≡ false → is_record_of b (fields_of l.text) ≡ eqb block b
    → HoldsValues chosen (columns_of (fields_of l.text)) row → ArePut (block * length chosen) row old new
    → (t : Bool) → eqb block b ≡ t
    → (t ≡ false → get_or old (b * length chosen + i) (pos 0) ≡ value_in (columns_of (record_among before b))
    (get_or chosen i 0))
    → get_or new (b * length chosen + i) (pos 0) ≡ value_in (columns_of (record_among (before ++ l ∷ []) b))
    (get_or chosen i 0)
value_here chosen before block b i row old new l h fresh r holds p true e was = grind
    (arith, common_steps, record_first)
value_here chosen before block b i row old new l h fresh r holds p false e was =
    let ne : b ≢ block = grind (arith, nat_tests) in
    untouched block b i (length chosen) row old new holds.size h ne p ∙ was refl
    ∙ ap (λ (fs : List (List ℕ)). value_in (columns_of fs) (get_or chosen i 0))
    (sym (record_other before l b (r ∙ e)))

seen_before : (seen : List Bool) (block b : ℕ) → eqb block b ≡ false → get_or (set seen block true) b false ≡ true
    → get_or seen b false ≡ true
seen_before seen block b e t = grind (arith, common_steps)

-- The line's record is kept.
pub keeps : (n block : ℕ) (chosen : List ℕ) (p : Place) (row : List ℤ) (all : List Line) (seen more : List Bool)
    (places others : List Place) (values new : List ℤ) (left next : Left) (k : ℕ) (text : List ℕ)
    → ReadSoFar n chosen all seen places values left → Next left next k text
    → is_skipped (fields_of text) ≡ false → blocks_shape_fault k chosen (fields_of text) ≡ None
    → block ≡ block_of (fields_of text) → p ≡ place_of_record (fields_of text)
    → HoldsValues chosen (columns_of (fields_of text)) row
    → blocks_block_fault (length seen) (λ b. get_or seen b false) k block ≡ None → more ≡ set seen block true
    → others ≡ set places block p → ArePut (block * length chosen) row values new
    → ReadSoFar n chosen all more others new next
keeps n block chosen p row all seen more places others values new left next k text g h s f is at holds w m o put =
    let l = line k text in
    let good : blocks_block_fault n (has_place_record g.before) k block ≡ None = known n seen g.before k block g.marks
    g.all_seen ∙ w in
    let none : blocks_record_fault n chosen (has_place_record g.before) k (fields_of text) ≡ None = rw (s, f)
    (ap (blocks_block_fault n (has_place_record g.before) k) (sym is) ∙ good) in
    let fresh = fault_none n (has_place_record g.before) k block good (nat_le n block) refl
    (has_place_record g.before block) refl in
    let i : block < length seen = omega (arith, fresh.0, g.all_seen) in
    let j : block < length places = omega (arith, fresh.0, g.all_places) in
    let r : (b : ℕ) → is_record_of b (fields_of l.text) ≡ eqb block b = λ b. rw s (ap (λ (x : ℕ). eqb x b) (sym is)) in
    let old : (b : ℕ) → get_or more b false ≡ true → eqb block b ≡ false
    → get_or seen b false ≡ true = λ b t e. seen_before seen block b e
    (ap (λ (xs : List Bool). get_or xs b false) (sym m) ∙ t) in
    record {
      before = g.before ++ l ∷ [];
      fault = no_fault n chosen all seen places values left next k text g h none;
      whole = moved all g.before left next k text g.whole h;
      long = still_long all left next k text g.long h;
      marks = λ b q. ap (λ (xs : List Bool). get_or xs b false) m
          ∙ mark_at seen g.before block b l i (g.marks b q) (r b) (eqb block b) refl;
      count = ap marked m ∙ marked-set seen block i (g.marks block fresh.0 ∙ fresh.1) ∙ ap (λ (x : ℕ). x + 1) g.count
          ∙ sym (ap length (push_record g.before k text s) ∙ longer (record_line_numbers g.before) k);
      place = λ b q t. ap (λ (xs : List Place). get_or xs b origin) o
          ∙ place_here places g.before block b p l j fresh.1 (r b) at (eqb block b) refl (λ e. g.place b q (old b t e));
      value = λ b c q t u. value_here chosen g.before block b c row values new l u fresh.1 (r b) holds put
          (eqb block b) refl (λ e. g.value b c q (old b t e) u);
      all_seen = ap length m ∙ length-set seen block true ∙ g.all_seen;
      all_places = ap length o ∙ length-set places block p ∙ g.all_places;
      all_values = put.size ∙ g.all_values;
    }

-- All is read.
pub read_all : (n : ℕ) (chosen : List ℕ) (all : List Line) (seen : List Bool) (places : List Place) (values : List ℤ)
    (left : Left) → ReadSoFar n chosen all seen places values left → left.lines ≡ []
    → n ≡ length (record_line_numbers all) → n ≤ MOST_BLOCKS → length chosen ≤ MOST_COLUMNS
    → (first_blocks_fault n chosen [] all ≡ None) × AreKept n chosen all places values
read_all n chosen all seen places values left g e count bound few =
    let none : numbered_lines left.number left.lines ≡ [] = rw e refl in
    let same : g.before ≡ all = sym (append-nil g.before) ∙ ap (λ (xs : List Line). g.before ++ xs) (sym none)
    ∙ g.whole in
    let full : marked seen ≡ length seen = g.count ∙ ap (λ (xs : List Line). length (record_line_numbers xs)) same
    ∙ sym count ∙ sym g.all_seen in
    let had : (b : ℕ) → b < n → get_or seen b false ≡ true = λ b i. all_marked seen b full
    (omega (arith, g.all_seen)) in (
      sym g.fault ∙ ap (λ (ls : List Line). first_blocks_fault n chosen g.before ls) none,
      record {
        model = record {
          bound = bound;
          few = few;
          all_places = g.all_places;
          all_values = g.all_values;
          small = λ b i
              h l. rw (g.value b i h (had b h) l)
              (value_small (columns_of (record_among g.before b)) (get_or chosen i 0));
        };
        each = λ b i. ap (λ (xs : List Line). has_place_record xs b) (sym same) ∙ sym (g.marks b i) ∙ had b i;
        place = λ b i. g.place b i (had b i) ∙ ap (λ (xs : List Line). place_of_record (record_among xs b)) same;
        value = λ b i h l. g.value b i h (had b h) l
            ∙ ap (λ (xs : List Line). value_in (columns_of (record_among xs b)) (get_or chosen i 0)) same;
      },
    )
