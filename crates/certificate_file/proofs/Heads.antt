-- A header without a fault is spelled as its values are.
use Rattle.fixed_worth.proofs.Common.{◌≡◌, ℕ, ◌+◌, Bool, true, false, cond, List, [], ◌∷◌, ◌++◌, drop, Option, Some}
use Rattle.fixed_worth.proofs.Common.{None, Result, Ok, Err, refl, sym, ap, ◌∙◌, subst, append_assoc, arith}
use Rattle.fixed_worth.proofs.Common.{result_unwrap_or, bytes_eq, decimal, bytes_eq-Decides, common_steps}
use lib.Chars.{codes}
use Rattle.fixed_worth.specs.declared.limits.TheConstants.{MOST_BLOCKS, MOST_FACTOR}
use Rattle.ordered_group.specs.declared.groups.Group.{Group}
use Rattle.ordered_group.specs.Group.{group_name}
use Rattle.ordered_group.proofs.Names.{group_spelled}
use Rattle.certificate_file.specs.declared.header.Header.{Header}
use Rattle.certificate_file.specs.declared.header.Wanted.{Wanted}
use Rattle.certificate_file.specs.declared.header.Price.{Price}
use Rattle.certificate_file.specs.declared.header.Price.TheVariants.{Objective}
use Rattle.certificate_file.specs.declared.header.Version.{Version}
use Rattle.certificate_file.specs.declared.header.Version.TheVariants.{One, Two}
use Rattle.certificate_file.specs.declared.cert_fault.LineFault.{LineFault}
use Rattle.certificate_file.specs.declared.cert_fault.LineFault.TheVariants.{Text}
use Rattle.certificate_file.specs.Prelude.{Piece, piece_at, read_line, words_of, number_below, header_for, version_in}
use Rattle.certificate_file.specs.Prelude.{value_after, value_after_both, or_number, blocks_said, blocks_in, factor_of}
use Rattle.certificate_file.specs.Prelude.{price_said, mill_said, price_in, group_said, group_in, spaced_words}
use Rattle.certificate_file.specs.Prelude.{lines_text, version_for, version_word, price_words, header_words}
use Rattle.certificate_file.proofs.Texts.{pieces_text, words_make_line}
use Rattle.certificate_file.proofs.Going.{text_read}
use Rattle.certificate_file.proofs.Spelling.{number_is, read_ends, piece_text}
use Rattle.certificate_file.proofs.Wants.{joined}

after_is : (key w : List ℕ) (words : List (List ℕ)) → value_after key words ≡ Some w → words ≡ key ∷ w ∷ []
after_is key w words h = grind (arith, common_steps, bytes_eq-Decides)

keyed : (key w text : List ℕ) → value_after key (words_of text) ≡ Some w → text ≡ spaced_words (key ∷ w ∷ [])
keyed key w text h = sym (words_make_line text) ∙ ap spaced_words (after_is key w (words_of text) h)

both_is : (key other w : List ℕ) (words : List (List ℕ)) → value_after_both key other words ≡ Some w
    → words ≡ key ∷ other ∷ w ∷ []
both_is key other w words h = grind (arith, common_steps, bytes_eq-Decides)

-- The version.
abbrev pub version_text : Version → List ℕ
version_text v = spaced_words (codes "PITCERT" ∷ version_word v ∷ [])

version_at : (text : List ℕ) (v : Version) (s t : Bool) → (s ≡ true → text ≡ codes "PITCERT 1")
    → (t ≡ true → text ≡ codes "PITCERT 2") → cond s (Ok One) (cond t (Ok Two) (Err Text)) ≡ Ok v
    → text ≡ version_text v
version_at text v s t d e h = grind (arith, common_steps)

version_is : (text : List ℕ) (v : Version) → version_in text ≡ Ok v → text ≡ version_text v
version_is text v h = version_at text v (bytes_eq text (codes "PITCERT 1")) (bytes_eq text (codes "PITCERT 2"))
    (bytes_eq-Decides text (codes "PITCERT 1")).0 (bytes_eq-Decides text (codes "PITCERT 2")).0 h

blocks_at : (wanted : Option Wanted) (text : List ℕ) (o : Option (List ℕ)) (n : ℕ)
    → value_after (codes "BLOCKS") (words_of text) ≡ o → blocks_said wanted o ≡ Ok n
    → text ≡ spaced_words (codes "BLOCKS" ∷ decimal n ∷ [])
blocks_at wanted text (Some w) n e h = keyed (codes "BLOCKS") w text e
    ∙ ap (λ (x : List ℕ). spaced_words (codes "BLOCKS" ∷ x ∷ []))
    (number_is w (MOST_BLOCKS + 1) n (grind (arith, common_steps)))
blocks_at wanted text None n e h = absurd cc

-- The price.
-- A line that is read as a price in a text of a version is that price's line, and the version is that of its texts.
pub record Priced (v : Version) (words : List (List ℕ)) (price : Price) : Type 0 where
  pub version : v ≡ version_for price
  pub words_are : words ≡ price_words price

abbrev price_or : Price → Result Price LineFault → Price
price_or price r = result_unwrap_or r price

is_price : (price made : Price) (v : Version) (words : List (List ℕ)) → v ≡ version_for made
    → words ≡ price_words made → made ≡ price → Priced v words price
is_price price made v words e f same = record { version = e ∙ ap version_for same; words_are = f ∙ ap price_words same }

factor_at : (w : List ℕ) (o : Option ℕ) (price : Price) → number_below (MOST_FACTOR + 1) w ≡ o
    → or_number (factor_of o) ≡ Ok price → Priced One (codes "PRICE" ∷ w ∷ []) price
factor_at w o price e h = grind (arith, common_steps, is_price, number_is)

word_at : (w : List ℕ) (price : Price) (t : Bool) → (t ≡ true → w ≡ codes "OBJECTIVE")
    → cond t (Ok Objective) (or_number (factor_of (number_below (MOST_FACTOR + 1) w))) ≡ Ok price
    → Priced One (codes "PRICE" ∷ w ∷ []) price
word_at w price true e h = is_price price Objective One (codes "PRICE" ∷ w ∷ []) refl
    (ap (λ (x : List ℕ). codes "PRICE" ∷ x ∷ []) (e refl)) (ap (price_or price) h)
word_at w price false e h = grind (arith, common_steps, is_price, number_is)

plain_at : (words : List (List ℕ)) (o : Option (List ℕ)) (price : Price) → value_after (codes "PRICE") words ≡ o
    → price_said o ≡ Ok price → Priced One words price
plain_at words (Some w) price e h = subst (λ (ws : List (List ℕ)). Priced One ws price)
    (sym (after_is (codes "PRICE") w words e))
    (word_at w price (bytes_eq w (codes "OBJECTIVE")) (bytes_eq-Decides w (codes "OBJECTIVE")).0 h)
plain_at words None price e h = absurd cc

milled_at : (words : List (List ℕ)) (o : Option (List ℕ)) (price : Price)
    → value_after_both (codes "PRICE") (codes "MILL") words ≡ o → mill_said o ≡ Ok price → Priced Two words price
milled_at words (Some w) price e h = subst (λ (ws : List (List ℕ)). Priced Two ws price)
    (sym (both_is (codes "PRICE") (codes "MILL") w words e)) (grind (arith, common_steps, is_price, number_is))
milled_at words None price e h = absurd cc

price_at : (v : Version) (text : List ℕ) (price : Price) → price_in v text ≡ Ok price → Priced v (words_of text) price
price_at One text price h = plain_at (words_of text) (value_after (codes "PRICE") (words_of text)) price refl h
price_at Two text price h = milled_at (words_of text)
    (value_after_both (codes "PRICE") (codes "MILL") (words_of text)) price refl h

price_text : (v : Version) (text : List ℕ) (price : Price) → price_in v text ≡ Ok price
    → text ≡ spaced_words (price_words price)
price_text v text price h = sym (words_make_line text) ∙ ap spaced_words (price_at v text price h).words_are

group_at : (wanted : Option Wanted) (text : List ℕ) (o : Option (List ℕ)) (g : Group)
    → value_after (codes "GROUP") (words_of text) ≡ o → group_said wanted o ≡ Ok g
    → text ≡ spaced_words (codes "GROUP" ∷ group_name g ∷ [])
group_at wanted text (Some w) g e h = keyed (codes "GROUP") w text e
    ∙ ap (λ (x : List ℕ). spaced_words (codes "GROUP" ∷ x ∷ [])) (grind (arith, common_steps, group_spelled))
group_at wanted text None g e h = absurd cc

-- A text that has no more lines can't be read.
no_piece : {A : Type 0} (f : List ℕ → Result A LineFault) (k : ℕ) (x : A) {P : Type 0}
    → read_line f k (record { text = []; ended = false }) ≡ Ok x → P
no_piece f k x h = absurd (let z : false ≡ true = read_ends f k (record { text = []; ended = false }) x h in cc)

pub regroup : (v a b c rest : List ℕ) → (v ++ (10 ∷ (a ++ (10 ∷ (b ++ (10 ∷ (c ++ (10 ∷ [])))))))) ++ rest ≡ v
    ++ (10 ∷ (a ++ (10 ∷ (b ++ (10 ∷ (c ++ (10 ∷ rest)))))))
regroup v a b c rest = simp append_assoc

four : (ps : List Piece) (wanted : Option Wanted) (h : Header) (v : Version)
    → read_line version_in 1 (piece_at ps 0) ≡ Ok v → read_line (blocks_in wanted) 2 (piece_at ps 1) ≡ Ok h.blocks
    → read_line (price_in v) 3 (piece_at ps 2) ≡ Ok h.price → read_line (group_in wanted) 4 (piece_at ps 3) ≡ Ok h.group
    → pieces_text ps ≡ lines_text (header_words h) ++ pieces_text (drop 4 ps)
four [] wanted h v a b c d = no_piece version_in 1 v a
four (p ∷ []) wanted h v a b c d = no_piece (blocks_in wanted) 2 h.blocks b
four (p ∷ q ∷ []) wanted h v a b c d = no_piece (price_in v) 3 h.price c
four (p ∷ q ∷ r ∷ []) wanted h v a b c d = no_piece (group_in wanted) 4 h.group d
four (p ∷ q ∷ r ∷ s ∷ ps) wanted h v a b c d =
    let said = text_read (price_in v) 3 r h.price c in
    let first = version_text (version_for h.price) in
    let second = spaced_words (codes "BLOCKS" ∷ decimal h.blocks ∷ []) in
    let third = spaced_words (price_words h.price) in
    let fourth = spaced_words (codes "GROUP" ∷ group_name h.group ∷ []) in
    let one = piece_text p (q ∷ r ∷ s ∷ ps) first (read_ends version_in 1 p v a)
    (version_is p.text v (text_read version_in 1 p v a)
    ∙ ap version_text (price_at v r.text h.price said).version) in
    let two = piece_text q (r ∷ s ∷ ps) second (read_ends (blocks_in wanted) 2 q h.blocks b)
    (blocks_at wanted q.text (value_after (codes "BLOCKS") (words_of q.text)) h.blocks refl
    (text_read (blocks_in wanted) 2 q h.blocks b)) in
    let three = piece_text r (s ∷ ps) third (read_ends (price_in v) 3 r h.price c) (price_text v r.text h.price said) in
    let last = piece_text s ps fourth (read_ends (group_in wanted) 4 s h.group d)
    (group_at wanted s.text (value_after (codes "GROUP") (words_of s.text)) h.group refl
    (text_read (group_in wanted) 4 s h.group d)) in
    let all : pieces_text (p ∷ q ∷ r ∷ s ∷ ps) ≡ first
    ++ (10 ∷ (second ++ (10 ∷ (third ++ (10 ∷ (fourth ++ (10 ∷ pieces_text ps))))))) =
    one ∙ ap (λ (t : List ℕ). first ++ (10 ∷ t))
    (two ∙ ap (λ (t : List ℕ). second ++ (10 ∷ t)) (three ∙ ap (λ (t : List ℕ). third ++ (10 ∷ t)) last)) in
    all ∙ sym (regroup first second third fourth (pieces_text ps))

pub header_is : (wanted : Option Wanted) (ps : List Piece) (h : Header) → header_for wanted ps ≡ Ok h
    → pieces_text ps ≡ lines_text (header_words h) ++ pieces_text (drop 4 ps)
header_is wanted ps h e =
    let q = joined (read_line version_in 1 (piece_at ps 0)) (read_line (blocks_in wanted) 2 (piece_at ps 1))
    (λ v. read_line (price_in v) 3 (piece_at ps 2)) (read_line (group_in wanted) 4 (piece_at ps 3)) h e in
    four ps wanted h q.version q.said q.blocks q.price q.group
