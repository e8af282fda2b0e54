-- Lines that are read by themselves: what they list, and that none of them is faulty, hang neither on their numbers nor
-- on what comes before.
use Rattle.fixed_worth.proofs.Common.{◌≡◌, ℕ, ◌+◌, ◌<◌, ◌≤◌, ◌||◌, ◌==◌, Bool, true, false, true≢false, cond, not, inl}
use Rattle.fixed_worth.proofs.Common.{inr, List, [], ◌∷◌, ◌++◌, length, get_or, replicate, set, Option, Some, None, sym}
use Rattle.fixed_worth.proofs.Common.{refl, ap, subst, ◌∙◌, arith, nat_lt, nat_le, nat_tests, length-append}
use Rattle.fixed_worth.proofs.Common.{length-replicate, append-nil, append_assoc, list_all, list_any, list_any-append}
use Rattle.fixed_worth.proofs.Common.{option_or, cases_lt, flat_map-append, Contains, Contains-append_cases}
use Rattle.fixed_worth.proofs.Common.{Contains-append_left, Contains-append_right, common_steps}
use Rattle.fixed_worth.specs.declared.limits.TheConstants.{LINE_BYTES}
use Rattle.fixed_worth.specs.Prelude.{Line, numbered_lines, fields_of, has, is_skipped, block_of, reads}
use Rattle.fixed_worth.proofs.LineParts.{numbered-append}
use Rattle.fixed_worth.proofs.NextLine.{short}
use Rattle.prec_file.specs.declared.limits.TheConstants.{MOST_PAIRS}
use Rattle.prec_file.specs.declared.prec_fault.PrecFault.{PrecFault}
use Rattle.prec_file.specs.declared.prec_fault.PrecFault.TheVariants.{Text, Number, UnknownBlock, Repeated, WrongCount}
use Rattle.prec_file.specs.declared.prec_fault.PrecFault.TheVariants.{TooMany}
use Rattle.prec_file.specs.Prelude.{RowsView, ArePairsOf, IsRising, IsPartRead, IsLineRead, AreNew, AreRowsAdded}
use Rattle.prec_file.specs.Prelude.{pairs_listed, blocks_listed, pairs_in, blocks_of_fields, pairs_of, blocks_of}
use Rattle.prec_file.specs.Prelude.{first_fault, fault_after, record_fault, shape_fault, history_fault, marks_after}
use Rattle.prec_file.specs.Prelude.{predecessors_of, predecessor_count_of}
use Rattle.prec_file.proofs.History.{pairs_length, or_none, none_after}
use Rattle.prec_file.proofs.Marks.{none_marked}

-- ---- what lines list, whatever their numbers

pub pairs_numbered : (k : ℕ) (texts : List (List ℕ)) → pairs_of (numbered_lines k texts) ≡ pairs_listed texts
pairs_numbered k [] = refl
pairs_numbered k (t ∷ ts) = ap (λ ps. pairs_in (fields_of t) ++ ps) (pairs_numbered (k + 1) ts)

pub blocks_numbered : (k : ℕ) (texts : List (List ℕ)) → blocks_of (numbered_lines k texts) ≡ blocks_listed texts
blocks_numbered k [] = refl
blocks_numbered k (t ∷ ts) = ap (λ bs. blocks_of_fields (fields_of t) ++ bs) (blocks_numbered (k + 1) ts)

pub pairs_listed-append : (xs ys : List (List ℕ)) → pairs_listed (xs ++ ys) ≡ pairs_listed xs ++ pairs_listed ys
pairs_listed-append xs ys = flat_map-append (λ t. pairs_in (fields_of t)) xs ys

pub blocks_listed-append : (xs ys : List (List ℕ)) → blocks_listed (xs ++ ys) ≡ blocks_listed xs ++ blocks_listed ys
blocks_listed-append xs ys = flat_map-append (λ t. blocks_of_fields (fields_of t)) xs ys

-- ---- the blocks before

has-append : (xs ys : List ℕ) (b : ℕ) → has (xs ++ ys) b ≡ (has xs b || has ys b)
has-append xs ys b = list_any-append (λ x. x == b) xs ys

none_of_both : (a b : Bool) → a ≡ false → b ≡ false → (a || b) ≡ false
none_of_both a b h g = rw (h, g) refl

-- what rises is new after both
pub new_both : (from next : ℕ) (xs ys : List ℕ) → from ≤ next → AreNew from (has xs) → AreNew next (has ys)
    → AreNew next (has (xs ++ ys))
new_both from next xs ys l h g b m = has-append xs ys b ∙ none_of_both (has xs b) (has ys b) (h b (omega arith)) (g b m)

-- the blocks of lines, and of those before them
pub new_after : (n from k : ℕ) (texts : List (List ℕ)) (rows : RowsView) (listed : ℕ) (before : List Line)
    → IsPartRead n from texts rows listed → AreNew from (has (blocks_of before))
    → AreNew rows.next (has (blocks_of (before ++ numbered_lines k texts)))
new_after n from k texts rows listed before p h =
    let e : blocks_of (before ++ numbered_lines k texts) ≡ blocks_of before ++ blocks_listed texts =
    flat_map-append (λ (l : Line). blocks_of_fields (fields_of l.text)) before (numbered_lines k texts)
    ∙ ap (λ bs. blocks_of before ++ bs) (blocks_numbered k texts) in
    subst (λ (bs : List ℕ). AreNew rows.next (has bs)) (sym e)
    (new_both from rows.next (blocks_of before) (blocks_listed texts) p.rises h p.below)

pub pairs_after : (k : ℕ) (texts : List (List ℕ)) (before : List Line)
    → length (pairs_of (before ++ numbered_lines k texts)) ≡ length (pairs_of before) + length (pairs_listed texts)
pairs_after k texts before =
    let e : pairs_of (before ++ numbered_lines k texts) ≡ pairs_of before ++ pairs_listed texts =
    flat_map-append (λ (l : Line). pairs_in (fields_of l.text)) before (numbered_lines k texts)
    ∙ ap (λ ps. pairs_of before ++ ps) (pairs_numbered k texts) in
    ap length e ∙ length-append (pairs_of before) (pairs_listed texts)

-- ---- faults

or_both : (a b : Option PrecFault) → a ≡ None → b ≡ None → option_or a b ≡ None
or_both a b h g = rw (h, g) refl

-- none of the lines is faulty, and none of those after them
pub none_faulty : (n : ℕ) (before xs ys : List Line) → first_fault n before xs ≡ None
    → first_fault n (before ++ xs) ys ≡ None → first_fault n before (xs ++ ys) ≡ None
none_faulty n before [] ys h g = ap (λ (ls : List Line). first_fault n ls ys) (sym (append-nil before)) ∙ g
none_faulty n before (x ∷ xs) ys h g =
    let first = or_none (fault_after n before x) (first_fault n (before ++ x ∷ []) xs) h in
    let rest : first_fault n (before ++ x ∷ []) xs ≡ None = grind (arith, common_steps) in
    or_both (fault_after n before x) (first_fault n (before ++ x ∷ []) (xs ++ ys)) first
    (none_faulty n (before ++ x ∷ []) xs ys rest
    (ap (λ (ls : List Line). first_fault n ls ys) (append_assoc before (x ∷ []) xs) ∙ g))

-- the tests of a fault, where it isn't one
tests_false : (a b c : Bool) (x y z : PrecFault) → cond a (Some x) (cond b (Some y) (cond c (Some z) None)) ≡ None
    → (a ≡ false) × (b ≡ false) × (c ≡ false)
tests_false a b c x y z h = grind (arith, common_steps)

or_rest : (a b : Option PrecFault) → option_or a b ≡ None → b ≡ None
or_rest None b h = h
or_rest (Some e) b h = grind (arith, common_steps)

shape_elsewhere : (n line other : ℕ) (fs : List (List ℕ)) → shape_fault n line fs ≡ None → shape_fault n other fs ≡ None
unfolding shape_fault
shape_elsewhere n line other fs h =
    let t = tests_false (nat_lt (length fs) 2) (not (list_all reads fs))
    (nat_le n (block_of fs) || list_any (nat_le n) (predecessors_of fs)) (Text line) (Number line)
    (UnknownBlock line) h in
    rw (t.0, t.1, t.2) refl

history_elsewhere : (had : ℕ → Bool) (k line j other : ℕ) (fs : List (List ℕ)) → history_fault had k line fs ≡ None
    → j + length (predecessors_of fs) ≤ MOST_PAIRS → history_fault had j other fs ≡ None
unfolding history_fault
history_elsewhere had k line j other fs h few =
    let t = tests_false (had (block_of fs)) (not (predecessor_count_of fs == length (predecessors_of fs)))
    (nat_lt MOST_PAIRS (k + length (predecessors_of fs))) (Repeated line) (WrongCount line) (TooMany line) h in
    let small : nat_lt MOST_PAIRS (j + length (predecessors_of fs)) ≡ false = grind (arith, nat_tests) in
    rw (t.0, t.1, small) refl

record_by : (n : ℕ) (had : ℕ → Bool) (k line j other : ℕ) (fs : List (List ℕ)) (s : Bool) → is_skipped fs ≡ s
    → record_fault n had k line fs ≡ None → j + length (pairs_in fs) ≤ MOST_PAIRS → record_fault n had j other fs ≡ None
record_by n had k line j other fs true s h few = rw s refl
record_by n had k line j other fs false s h few =
    let o = none_after (is_skipped fs) _ h s in
    let shape = shape_elsewhere n line other fs (or_none (shape_fault n line fs) (history_fault had k line fs) o) in
    let history = history_elsewhere had k line j other fs
    (or_rest (shape_fault n line fs) (history_fault had k line fs) o) (omega (arith, few, pairs_length fs s)) in
    rw s (or_both (shape_fault n other fs) (history_fault had j other fs) shape history)

-- a record without fault has none at another line either, after as many pairs as there may be
record_elsewhere : (n : ℕ) (had : ℕ → Bool) (k line j other : ℕ) (fs : List (List ℕ))
    → record_fault n had k line fs ≡ None → j + length (pairs_in fs) ≤ MOST_PAIRS → record_fault n had j other fs ≡ None
record_elsewhere n had k line j other fs h few = record_by n had k line j other fs (is_skipped fs) refl h few

-- ---- one line more

still_by : (s : Bool) (seen : List Bool) (i b : ℕ) → b < length seen → get_or seen b false ≡ true
    → get_or (cond s seen (set seen i true)) b false ≡ true
still_by true seen i b l h = h
still_by false seen i b l h = grind (arith, common_steps)

past_marks : (m b : ℕ) → m ≤ b → get_or (replicate m true) b false ≡ false
past_marks m b l = grind (arith, common_steps)

all_marked : (m b : ℕ) → b < m → get_or (replicate m true) b false ≡ true
all_marked m b l = grind (arith, common_steps)

module _ (n line : ℕ) (fs : List (List ℕ)) (old new : RowsView) (before after : ℕ)
    (r : IsLineRead n line fs old new before after) where
  -- the next block is no lower
  next_rises : old.next ≤ new.next
  next_rises = elim (cases_lt new.next old.next) [
    | inl o ↦
        let cleared = r.marks (replicate old.next true) (λ b l. past_marks old.next b l) new.next (omega arith) in
        let kept = still_by (is_skipped fs) (replicate old.next true) (block_of fs) new.next
        (omega (arith, length-replicate old.next true)) (all_marked old.next new.next o) in
        absurd (true≢false (sym kept ∙ cleared))
    | inr o ↦ o
  ]

  marked_here : (b : ℕ) → is_skipped fs ≡ false → block_of fs ≡ b
      → get_or (marks_after fs (replicate (b + 1) false)) b false ≡ true
  marked_here b s e = grind (arith, common_steps)

  not_here : (b : ℕ) → new.next ≤ b → is_skipped fs ≡ false → (t : Bool) → (block_of fs == b) ≡ t → t ≡ false
  not_here b l s false e = refl
  not_here b l s true e =
      let here : block_of fs ≡ b = grind (arith, nat_tests) in
      absurd (true≢false (sym (marked_here b s here)
      ∙ r.marks (replicate (b + 1) false) (λ c m. none_marked (b + 1) c) b l))

  below_by : (s : Bool) → is_skipped fs ≡ s → (b : ℕ) → new.next ≤ b → has (blocks_of_fields fs) b ≡ false
  below_by true s b l = rw s refl
  below_by false s b l =
      let e : (block_of fs == b) ≡ false = not_here b l s (block_of fs == b) refl in
      rw (s, e) refl

  -- its block is below the next one
  line_below : AreNew new.next (has (blocks_of_fields fs))
  line_below = below_by (is_skipped fs) refl

pub part_on : (n from line : ℕ) (texts : List (List ℕ)) (text : List ℕ) (rows new : RowsView) (listed after : ℕ)
    → IsPartRead n from texts rows listed → length text ≤ LINE_BYTES
    → IsLineRead n line (fields_of text) rows new listed after → IsPartRead n from (texts ++ text ∷ []) new after
part_on n from line texts text rows new listed after p short_line r =
    let fs = fields_of text in
    let more : pairs_listed (texts ++ text ∷ []) ≡ pairs_listed texts ++ pairs_in fs = pairs_listed-append texts
    (text ∷ []) ∙ ap (λ ps. pairs_listed texts ++ ps) (append-nil (pairs_in fs)) in
    let blocks : blocks_listed (texts ++ text ∷ []) ≡ blocks_listed texts ++ blocks_of_fields fs =
    blocks_listed-append texts (text ∷ [])
    ∙ ap (λ bs. blocks_listed texts ++ bs) (append-nil (blocks_of_fields fs)) in
    let up = next_rises n line fs rows new listed after r in
    record {
      blocks = r.blocks ∙ p.blocks;
      rises = omega (arith, p.rises, up);
      size = omega (arith, r.listed, p.size, ap length more, length-append (pairs_listed texts) (pairs_in fs));
      few = r.few;
      kept = r.kept;
      held = subst (λ (ps : List (ℕ × ℕ)). ArePairsOf ps new.pairs) (sym more) (r.rows (pairs_listed texts) p.held);
      below = subst (λ (bs : List ℕ). AreNew new.next (has bs)) (sym blocks)
          (new_both rows.next new.next (blocks_listed texts) (blocks_of_fields fs) up p.below
          (line_below n line fs rows new listed after r));
      sound = λ k before h few.
          let beyond = before ++ numbered_lines k texts in
          let number = k + length texts + 1 in
          let count = pairs_after k texts before in
          let record_sound : record_fault n (has (blocks_of beyond)) (length (pairs_of beyond)) number fs ≡ None =
          record_elsewhere n (has (blocks_of beyond)) listed line (length (pairs_of beyond)) number fs
          (r.sound (has (blocks_of beyond)) (new_after n from k texts rows listed before p h))
          (omega (arith, few, count, r.listed, p.size)) in
          let last : first_fault n beyond (numbered_lines (k + length texts) (text ∷ [])) ≡ None = rw
          (short text short_line) (or_both
          (record_fault n (has (blocks_of beyond)) (length (pairs_of beyond)) number fs) None record_sound refl) in
          ap (first_fault n before) (numbered-append k texts (text ∷ []))
          ∙ none_faulty n before (numbered_lines k texts) (numbered_lines (k + length texts) (text ∷ []))
          (p.sound k before h (omega (arith, few, r.listed))) last;
    }

-- ---- two parts as one

pairs_both : (xs ys ps qs all : List (ℕ × ℕ)) → all ≡ ps ++ qs → IsRising all → ArePairsOf xs ps → ArePairsOf ys qs
    → ArePairsOf (xs ++ ys) all
pairs_both xs ys ps qs all e r h g = record {
  rising = r;
  held = λ p c d. subst (λ (zs : List (ℕ × ℕ)). Contains zs p) (sym e) (elim (Contains-append_cases xs ys p c) [
    | inl l ↦ Contains-append_left ps qs p (h.held p l d)
    | inr l ↦ Contains-append_right ps qs p (g.held p l d)
  ]);
  only = λ p c. elim (Contains-append_cases ps qs p (subst (λ (zs : List (ℕ × ℕ)). Contains zs p) e c)) [
    | inl l ↦ (Contains-append_left xs ys p (h.only p l).0, (h.only p l).1)
    | inr l ↦ (Contains-append_right xs ys p (g.only p l).0, (g.only p l).1)
  ];
}

pub parts_joined : (n from later : ℕ) (xs ys : List (List ℕ)) (rows other new : RowsView) (listed more all : ℕ)
    → IsPartRead n from xs rows listed → IsPartRead n later ys other more → rows.next ≤ later → all ≡ listed + more
    → all ≤ MOST_PAIRS
    → AreRowsAdded rows other new → IsPartRead n from (xs ++ ys) new all
parts_joined n from later xs ys rows other new listed more all p q beyond sum few a =
    let pairs = pairs_listed-append xs ys in
    record {
      blocks = a.blocks ∙ p.blocks;
      rises = omega (arith, p.rises, a.rises, a.next);
      size = omega (arith, sum, p.size, q.size, ap length pairs, length-append (pairs_listed xs) (pairs_listed ys));
      few = few;
      kept = omega (arith, sum, p.kept, q.kept, ap length a.pairs, length-append rows.pairs other.pairs);
      held = subst (λ (ps : List (ℕ × ℕ)). ArePairsOf ps new.pairs) (sym pairs)
          (pairs_both (pairs_listed xs) (pairs_listed ys) rows.pairs other.pairs new.pairs a.pairs a.rests.rising
          p.held q.held);
      below =
          let last : AreNew new.next (has (blocks_listed ys)) = λ b l. q.below b (omega (arith, a.next)) in
          subst (λ (bs : List ℕ). AreNew new.next (has bs)) (sym (blocks_listed-append xs ys))
          (new_both rows.next new.next (blocks_listed xs) (blocks_listed ys) (omega (arith, a.rises, a.next))
          p.below last);
      sound = λ k before h room.
          let before_it = before ++ numbered_lines k xs in
          let fresh = new_after n from k xs rows listed before p h in
          let count = pairs_after k xs before in
          ap (first_fault n before) (numbered-append k xs ys)
          ∙ none_faulty n before (numbered_lines k xs) (numbered_lines (k + length xs) ys)
          (p.sound k before h (omega (arith, room, sum)))
          (q.sound (k + length xs) before_it (λ b l. fresh b (omega (arith, beyond)))
          (omega (arith, room, sum, count, p.size)));
    }
