-- The text of a value is read without a fault.
use Rattle.fixed_worth.proofs.Common.{◌≡◌, ℕ, ◌+◌, ◌≤◌, Bool, true, false, cond, ltb, List, [], ◌∷◌, ◌++◌, length, drop}
use Rattle.fixed_worth.proofs.Common.{Option, Some, None, Result, Ok, refl, ap, ◌∙◌, arith, append_assoc, length-append}
use Rattle.fixed_worth.proofs.Common.{eq-eqb, pos, bytes_eq, decimal, bytes_eq-Decides, nat_tests}
use Rattle.fixed_worth.proofs.Common.{length-decimal-le_wide, common_steps}
use lib.Chars.{codes}
use Rattle.fixed_worth.specs.declared.limits.TheConstants.{MOST_BLOCKS, LINE_BYTES, MOST_FACTOR}
use Rattle.ordered_group.specs.declared.groups.Group.{Group}
use Rattle.ordered_group.specs.Group.{group_name}
use Rattle.ordered_group.proofs.Names.{group_name-one_word, group_name-few}
use Rattle.certificate_file.specs.declared.header.Price.{Price}
use Rattle.certificate_file.specs.declared.header.Price.TheVariants.{Objective, Factor, Mill}
use Rattle.certificate_file.specs.declared.header.Version.{Version}
use Rattle.certificate_file.specs.declared.cert_fault.LineFault.{LineFault}
use Rattle.certificate_file.specs.declared.body_lines.LineKind.{LineKind}
use Rattle.certificate_file.specs.declared.body_lines.LineKind.TheVariants.{End}
use Rattle.certificate_file.specs.declared.body_lines.BodyLine.{BodyLine}
use Rattle.certificate_file.specs.Prelude.{Piece, pieces_of, words_of, read_line, piece_fault, number_below, header_for}
use Rattle.certificate_file.specs.Prelude.{version_in, value_after, or_number, blocks_in, factor_of, price_in, group_in}
use Rattle.certificate_file.specs.Prelude.{is_end, rank, may_follow, body_fault, lines_of_pieces, wanted_for, IsPrice}
use Rattle.certificate_file.specs.Prelude.{spaced_words, lines_text, line_words, version_for, price_words, header_words}
use Rattle.certificate_file.specs.Prelude.{header_with, body_text, end_text}
use Rattle.certificate_file.proofs.Texts.{is_word, are_words, has_no_feed, words_read, spaced_no_feed, line_before}
use Rattle.certificate_file.proofs.Texts.{decimal_is_word}
use Rattle.certificate_file.proofs.HeaderLines.{all_ok}
use Rattle.certificate_file.proofs.Heads.{version_text, regroup}
use Rattle.certificate_file.proofs.Order.{InOrder}
use Rattle.certificate_file.proofs.LineOrder.{Proper}
use Rattle.certificate_file.proofs.ValueLines.{UpTo, higher}
use Rattle.certificate_file.proofs.Readable.{Readable, number_read}

abbrev pub line_piece : List ℕ → Piece
line_piece text = record { text = text; ended = true }

-- A line that is short enough is read.
short_line : (k : ℕ) (text : List ℕ) → length text ≤ LINE_BYTES → piece_fault k (line_piece text) ≡ None
short_line k text h = let t : ltb LINE_BYTES (length text) ≡ false = grind (arith, nat_tests) in rw t refl

pub line_read : {A : Type 0} (f : List ℕ → Result A LineFault) (k : ℕ) (text : List ℕ) (x : A)
    → length text ≤ LINE_BYTES → f text ≡ Ok x → read_line f k (line_piece text) ≡ Ok x
line_read f k text x h e = rw (short_line k text h, e) refl

-- The body.
abbrev pub Both : Bool → ℕ → (ℕ → ℕ → Bool) → BodyLine → Type 0
Both counts n has l = Readable counts n l × Proper n has l

rank_most : (k : LineKind) → is_end k ≡ false → rank k ≤ 3
rank_most k h = grind (arith, common_steps)

-- The text is read without a fault, and as these lines.
pub record ReadAs (counts : Bool) (n : ℕ) (has : ℕ → ℕ → Bool) (previous : Option BodyLine) (k : ℕ) (text : List ℕ)
    (ls : List BodyLine) : Type 0 where
  pub none : body_fault counts n has previous k (pieces_of text) ≡ None
  pub lines : lines_of_pieces counts n (pieces_of text) ≡ ls

abbrev end_line : BodyLine
end_line = record { kind = End; block = 0; other = 0; worth = pos 0; count = pos 0 }

last_follows : (p : Option BodyLine) → UpTo 3 p → may_follow p end_line ≡ true
last_follows p u = higher 3 p end_line u (omega arith)

read_end : (counts : Bool) (n : ℕ) (has : ℕ → ℕ → Bool) (previous : Option BodyLine) (k : ℕ) → UpTo 3 previous
    → ReadAs counts n has previous k end_text []
read_end counts n has previous k u = let f : may_follow previous end_line ≡ true = last_follows previous u in record
    { none = rw f refl; lines = refl }

read_more : (counts : Bool) (n : ℕ) (has : ℕ → ℕ → Bool) (previous : Option BodyLine) (k : ℕ) (l : BodyLine)
    (ls : List BodyLine) (rest : List ℕ) → Both counts n has l → may_follow previous l ≡ true
    → ReadAs counts n has (Some l) (k + 1) rest ls
    → ReadAs counts n has previous k (spaced_words (line_words l) ++ (10 ∷ rest)) (l ∷ ls)
read_more counts n has previous k l ls rest b f r = grind (arith, common_steps, line_piece, line_before)

pub body_read : (counts : Bool) (n : ℕ) (has : ℕ → ℕ → Bool) (ls : List BodyLine) (previous : Option BodyLine) (k : ℕ)
    → UpTo 3 previous → InOrder (Both counts n has) previous ls
    → ReadAs counts n has previous k (body_text ls ++ end_text) ls
body_read counts n has [] previous k u o = let f : may_follow previous end_line ≡ true = last_follows previous u in
    record { none = rw f refl; lines = refl }
body_read counts n has (l ∷ ls) previous k u o = grind (
  arith,
  common_steps,
  (append_assoc (spaced_words (line_words l)) (10 ∷ body_text ls) end_text),
  (read_more counts n has previous k l ls (body_text ls ++ end_text) o.1 o.0
      (body_read counts n has ls (Some l) (k + 1) (rank_most l.kind o.1.1.last) o.2)),
  (rank_most l.kind o.1.1.last),
  (body_read counts n has ls (Some l) (k + 1) (rank_most l.kind o.1.1.last) o.2),
)

keyed_read : (key w : List ℕ) → is_word key ≡ true → is_word w ≡ true → bytes_eq key key ≡ true
    → value_after key (words_of (spaced_words (key ∷ w ∷ []))) ≡ Some w
keyed_read key w k h e = grind (arith, common_steps, (words_read key (w ∷ []) (rw (k, h) refl)))

keyed_feed : (key w : List ℕ) → is_word key ≡ true → is_word w ≡ true → has_no_feed (spaced_words (key ∷ w ∷ [])) ≡ true
keyed_feed key w k h = let both : are_words (key ∷ w ∷ []) ≡ true = rw (k, h) refl in spaced_no_feed key (w ∷ []) both

blocks_read : (n : ℕ) (name : Group) → n ≤ MOST_BLOCKS
    → blocks_in (wanted_for n name) (spaced_words (codes "BLOCKS" ∷ decimal n ∷ [])) ≡ Ok n
blocks_read n name h = grind (
  arith,
  common_steps,
  (keyed_read (codes "BLOCKS") (decimal n) refl (decimal_is_word n (omega arith)) refl),
  (decimal_is_word n (omega arith)),
  (number_read (MOST_BLOCKS + 1) n (omega arith) (omega arith)),
  (eq-eqb n n refl),
)

price_length : (price : Price) → IsPrice price → length (spaced_words (price_words price)) ≤ 20
price_length Objective h = omega arith
price_length (Factor k) h = let few = length-decimal-le_wide 5 k (omega arith) (omega arith) (omega arith) in omega
    arith
price_length (Mill k) h = let few = length-decimal-le_wide 5 k (omega arith) (omega arith) (omega arith) in omega arith

mill_words : (k : ℕ) → k ≤ MOST_FACTOR → are_words (codes "PRICE" ∷ codes "MILL" ∷ decimal k ∷ []) ≡ true
mill_words k h = let w : is_word (decimal k) ≡ true = decimal_is_word k (omega arith) in rw w refl

price_feed : (price : Price) → IsPrice price → has_no_feed (spaced_words (price_words price)) ≡ true
price_feed Objective h = refl
price_feed (Factor k) h = keyed_feed (codes "PRICE") (decimal k) refl (decimal_is_word k (omega arith))
price_feed (Mill k) h = spaced_no_feed (codes "PRICE") (codes "MILL" ∷ decimal k ∷ []) (mill_words k h)

version_short : (v : Version) → length (version_text v) ≤ LINE_BYTES
version_short v = grind (arith, common_steps)

version_read : (v : Version) → version_in (version_text v) ≡ Ok v
version_read v = grind (arith, common_steps)

factor_read : (k : ℕ) (t : Bool) → k ≤ MOST_FACTOR → (t ≡ true → decimal k ≡ codes "OBJECTIVE")
    → cond t (Ok Objective) (or_number (factor_of (number_below (MOST_FACTOR + 1) (decimal k)))) ≡ Ok (Factor k)
factor_read k true h e = grind
    (arith, common_steps, (length-decimal-le_wide 5 k (omega arith) (omega arith) (omega arith)), (ap length (e refl)))
factor_read k false h e = ap (λ (o : Option ℕ). or_number (factor_of o))
    (number_read (MOST_FACTOR + 1) k (omega arith) (omega arith))

price_read : (price : Price) → IsPrice price → price_in (version_for price) (spaced_words (price_words price))
    ≡ Ok price
price_read Objective h = refl
price_read (Factor k) h = grind (
  arith,
  common_steps,
  (keyed_read (codes "PRICE") (decimal k) refl (decimal_is_word k (omega arith)) refl),
  (decimal_is_word k (omega arith)),
  (factor_read k (bytes_eq (decimal k) (codes "OBJECTIVE")) h (bytes_eq-Decides (decimal k) (codes "OBJECTIVE")).0),
  (bytes_eq-Decides (decimal k) (codes "OBJECTIVE")),
)
price_read (Mill k) h = grind (
  arith,
  common_steps,
  (words_read (codes "PRICE") (codes "MILL" ∷ decimal k ∷ []) (mill_words k h)),
  (mill_words k h),
  (number_read (MOST_FACTOR + 1) k (omega arith) (omega arith)),
)

kind_read : (n : ℕ) (name : Group)
    → group_in (wanted_for n name) (spaced_words (codes "GROUP" ∷ group_name name ∷ [])) ≡ Ok name
kind_read n name = grind (arith, common_steps)

abbrev pub head_of : ℕ → Price → Group → List ℕ
head_of n price name = lines_text (header_words (header_with n price name))

-- the pieces of a header with these, before others
abbrev headed : ℕ → Price → Group → List Piece → List Piece
headed n price name ps = line_piece (version_text (version_for price)) ∷ line_piece
    (spaced_words (codes "BLOCKS" ∷ decimal n ∷ [])) ∷ line_piece (spaced_words (price_words price)) ∷ line_piece
    (spaced_words (codes "GROUP" ∷ group_name name ∷ [])) ∷ ps

pieces_four : (n : ℕ) (price : Price) (name : Group) (rest : List ℕ) → n ≤ MOST_BLOCKS → IsPrice price
    → pieces_of (head_of n price name ++ rest) ≡ headed n price name (pieces_of rest)
pieces_four n price name rest h p =
    let a = version_text (version_for price) in
    let b = spaced_words (codes "BLOCKS" ∷ decimal n ∷ []) in
    let c = spaced_words (price_words price) in
    let d = spaced_words (codes "GROUP" ∷ group_name name ∷ []) in
    ap pieces_of (regroup a b c d rest)
    ∙ line_before a (b ++ (10 ∷ (c ++ (10 ∷ (d ++ (10 ∷ rest)))))) (grind (arith, common_steps))
    ∙ ap (λ (ps : List Piece). line_piece a ∷ ps)
    (line_before b (c ++ (10 ∷ (d ++ (10 ∷ rest))))
    (keyed_feed (codes "BLOCKS") (decimal n) refl (decimal_is_word n (omega arith))))
    ∙ ap (λ (ps : List Piece). line_piece a ∷ line_piece b ∷ ps) (line_before c (d ++ (10 ∷ rest)) (price_feed price p))
    ∙ ap (λ (ps : List Piece). line_piece a ∷ line_piece b ∷ line_piece c ∷ ps)
    (line_before d rest (keyed_feed (codes "GROUP") (group_name name) refl (group_name-one_word name)))

short_pair : (key w : List ℕ) → length key ≤ 100 → length w ≤ 100 → length (spaced_words (key ∷ w ∷ [])) ≤ LINE_BYTES
short_pair key w h i = omega (arith, length-append key (32 ∷ w))

header_steps : (n : ℕ) (price : Price) (name : Group) (ps qs : List Piece) → n ≤ MOST_BLOCKS → IsPrice price
    → ps ≡ headed n price name qs → header_for (wanted_for n name) ps ≡ Ok (header_with n price name)
header_steps n price name ps qs h p e =
    let few = length-decimal-le_wide 8 n (omega arith) (omega arith) (omega arith) in
    let v = version_for price in
    let a : read_line version_in 1 (line_piece (version_text v)) ≡ Ok v = line_read version_in 1 (version_text v) v
    (version_short v) (version_read v) in
    let b : read_line (blocks_in (wanted_for n name)) 2 (line_piece (spaced_words (codes "BLOCKS" ∷ decimal n ∷ [])))
    ≡ Ok n = line_read (blocks_in (wanted_for n name)) 2 (spaced_words (codes "BLOCKS" ∷ decimal n ∷ [])) n
    (short_pair (codes "BLOCKS") (decimal n) (omega arith) (omega arith)) (blocks_read n name h) in
    let long = price_length price p in
    let c : read_line (price_in v) 3 (line_piece (spaced_words (price_words price))) ≡ Ok price = line_read
    (price_in v) 3 (spaced_words (price_words price)) price (omega (arith, long)) (price_read price p) in
    let d : read_line (group_in (wanted_for n name)) 4
    (line_piece (spaced_words (codes "GROUP" ∷ group_name name ∷ []))) ≡ Ok name = line_read
    (group_in (wanted_for n name)) 4 (spaced_words (codes "GROUP" ∷ group_name name ∷ [])) name
    (short_pair (codes "GROUP") (group_name name) (omega arith) (omega (arith, group_name-few name)))
    (kind_read n name) in
    ap (header_for (wanted_for n name)) e ∙ all_ok (read_line version_in 1 (line_piece (version_text v)))
    (read_line (blocks_in (wanted_for n name)) 2 (line_piece (spaced_words (codes "BLOCKS" ∷ decimal n ∷ []))))
    (λ x. read_line (price_in x) 3 (line_piece (spaced_words (price_words price))))
    (read_line (group_in (wanted_for n name)) 4
    (line_piece (spaced_words (codes "GROUP" ∷ group_name name ∷ [])))) v n price name a b c d

pub header_read : (n : ℕ) (price : Price) (name : Group) (rest : List ℕ) → n ≤ MOST_BLOCKS → IsPrice price
    → header_for (wanted_for n name) (pieces_of (head_of n price name ++ rest)) ≡ Ok (header_with n price name)
header_read n price name rest h p = header_steps n price name (pieces_of (head_of n price name ++ rest))
    (pieces_of rest) h p (pieces_four n price name rest h p)

pub body_left : (n : ℕ) (price : Price) (name : Group) (rest : List ℕ) → n ≤ MOST_BLOCKS → IsPrice price
    → drop 4 (pieces_of (head_of n price name ++ rest)) ≡ pieces_of rest
body_left n price name rest h p = ap (drop 4) (pieces_four n price name rest h p)
