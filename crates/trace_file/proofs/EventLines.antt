-- The line of an event is read as that event, and no other line is.
use Rattle.fixed_worth.proofs.Common.{◌≡◌, ℕ, ◌<◌, ◌^◌, Bool, true, false, cond, ltb, ℤ, pos, List, [], ◌∷◌, ◌++◌}
use Rattle.fixed_worth.proofs.Common.{Option, Some, None, Result, Ok, refl, sym, ap, ◌∙◌, arith, FitsSigned, codes}
use Rattle.fixed_worth.proofs.Common.{unwrap_or, w128, join_with_byte, bytes_eq, decimal, ints, nat_tests}
use Rattle.fixed_worth.proofs.Common.{bytes_eq-Decides, join_with_byte-slice_split, common_steps}
use Rattle.fixed_worth.specs.declared.numerals.NumberFault.{NumberFault}
use Rattle.fixed_worth.specs.Prelude.{plain_of, parts}
use Rattle.fixed_worth.proofs.Joined.{is_one_line}
use Rattle.fixed_worth.proofs.PlainNumbers.{one_spelling, printed_is_plain}
use Rattle.fixed_worth.proofs.WrittenNumbers.{decimal_digits, decimal_is_one_line}
use Rattle.machine_law.specs.declared.events.Kind.{Kind}
use Rattle.machine_law.specs.declared.events.Kind.TheVariants.{ReadExcess, ReadCapacity, ReadLabel, TakeCapacity}
use Rattle.machine_law.specs.declared.events.Kind.TheVariants.{GiveCapacity, TakeExcess, GiveExcess, RaiseLabel}
use Rattle.machine_law.specs.declared.events.Event.{Event}
use Rattle.trace_file.specs.Prelude.{kind_of_word, block_within, block_of_word, event_with, event_of_words, event_of}
use Rattle.trace_file.specs.Prelude.{kind_word, event_line}
use Rattle.trace_file.proofs.Parts.{digits_alone}

-- ---- what is written is read

below_read : (b : ℕ) → b < 2 ^ 32 → block_within (Ok (pos b)) ≡ Some b
below_read b h = let t : ltb b (2 ^ 32) ≡ true = grind (arith, nat_tests) in rw t refl

block_read : (b : ℕ) → b < 2 ^ 32 → block_of_word (decimal b) ≡ Some b
block_read b h =
    let fits : FitsSigned w128 (pos b) = omega (arith, ints) in
    ap block_within (printed_is_plain (pos b) fits) ∙ below_read b h

words_read : (k : Kind) (b : ℕ) → parts 32 (kind_word k ++ (32 ∷ decimal b)) ≡ kind_word k ∷ parts 32 (decimal b)
words_read ReadExcess b = refl
words_read _ b = refl

kind_read : (k : Kind) → kind_of_word (kind_word k) ≡ Some k
kind_read ReadExcess = refl
kind_read _ = refl

pub event_read : (e : Event) → e.block < 2 ^ 32 → event_of (event_line e) ≡ Some e
event_read e h = grind (arith, common_steps, words_read, digits_alone, decimal_digits, kind_read, block_read)

one_line : (k : Kind) (ds : List ℕ) → is_one_line (kind_word k ++ (32 ∷ ds)) ≡ is_one_line ds
one_line ReadExcess ds = refl
one_line _ ds = refl

pub event_is_one_line : (e : Event) → e.block < 2 ^ 32 → is_one_line (event_line e) ≡ true
event_is_one_line e h = one_line e.kind (decimal e.block) ∙ decimal_is_one_line e.block (omega arith)

no_end : (k : Kind) (ds : List ℕ) → bytes_eq (kind_word k ++ (32 ∷ ds)) (codes "END") ≡ false
no_end ReadExcess ds = refl
no_end _ ds = refl

pub event_is_no_end : (e : Event) → bytes_eq (event_line e) (codes "END") ≡ false
event_is_no_end e = no_end e.kind (decimal e.block)

-- ---- what is read is written so

named : (word given : List ℕ) (k j : Kind) → given ≡ kind_word j → Some j ≡ Some k → word ≡ given → word ≡ kind_word k
named word given k j w e h = h ∙ w ∙ ap kind_word (ap (λ (o : Option Kind). unwrap_or o k) e)

kind_at : (word : List ℕ) (k : Kind) (a b c d e f g h : Bool)
    → (a ≡ true → word ≡ codes "RE") → (b ≡ true → word ≡ codes "RC") → (c ≡ true → word ≡ codes "RL")
    → (d ≡ true → word ≡ codes "TC") → (e ≡ true → word ≡ codes "GC") → (f ≡ true → word ≡ codes "TE")
    → (g ≡ true → word ≡ codes "GE") → (h ≡ true → word ≡ codes "RA")
    → cond a (Some ReadExcess)
    (cond b (Some ReadCapacity)
    (cond c (Some ReadLabel)
    (cond d (Some TakeCapacity)
    (cond e (Some GiveCapacity)
    (cond f (Some TakeExcess) (cond g (Some GiveExcess) (cond h (Some RaiseLabel) None))))))) ≡ Some k
    → word ≡ kind_word k
kind_at word k true b c d e f g h p q r s t u v w is = named word (codes "RE") k ReadExcess refl is (p refl)
kind_at word k false true c d e f g h p q r s t u v w is = named word (codes "RC") k ReadCapacity refl is (q refl)
kind_at word k false false true d e f g h p q r s t u v w is = named word (codes "RL") k ReadLabel refl is (r refl)
kind_at word k false false false true e f g h p q r s t u v w is = named word (codes "TC") k TakeCapacity refl is
    (s refl)
kind_at word k false false false false true f g h p q r s t u v w is = named word (codes "GC") k GiveCapacity refl is
    (t refl)
kind_at word k false false false false false true g h p q r s t u v w is = named word (codes "TE") k TakeExcess refl
    is (u refl)
kind_at word k false false false false false false true h p q r s t u v w is = named word (codes "GE") k GiveExcess
    refl is (v refl)
kind_at word k false false false false false false false true p q r s t u v w is = named word
    (codes "RA") k RaiseLabel refl is (w refl)
kind_at word k false false false false false false false false p q r s t u v w is = absurd cc

same : (word key : List ℕ) → bytes_eq word key ≡ true → word ≡ key
same word key = (bytes_eq-Decides word key).0

kind_spelled : (word : List ℕ) (k : Kind) → kind_of_word word ≡ Some k → word ≡ kind_word k
kind_spelled word k h = grind (arith, common_steps, kind_at, same)

block_at : (word : List ℕ) (j k : ℕ) (t : Bool) → ltb j (2 ^ 32) ≡ t → plain_of word ≡ Ok (pos j)
    → cond t (Some j) None ≡ Some k → (word ≡ decimal k) × (k < 2 ^ 32)
block_at word j k true l e h =
    let s : j ≡ k = ap (λ (o : Option ℕ). unwrap_or o k) h in
    (one_spelling word (pos j) e ∙ ap decimal s, grind (arith, nat_tests))
block_at word j k false l e h = absurd cc

block_read_as : (word : List ℕ) (k : ℕ) (r : Result ℤ NumberFault) → plain_of word ≡ r → block_within r ≡ Some k
    → (word ≡ decimal k) × (k < 2 ^ 32)
block_read_as word k (Ok (pos j)) e h = block_at word j k (ltb j (2 ^ 32)) refl e h
block_read_as word k _ e h = absurd cc

block_spelled : (word : List ℕ) (k : ℕ) → block_of_word word ≡ Some k → (word ≡ decimal k) × (k < 2 ^ 32)
block_spelled word k h = block_read_as word k (plain_of word) refl h

-- The line is the event's, whose block is a number of 32 bits.
pub record Spelled (line : List ℕ) (e : Event) : Type 0 where
  pub written : line ≡ event_line e
  pub fits : e.block < 2 ^ 32

two_words : (word number : List ℕ) (e : Event) (o : Option Kind) (p : Option ℕ) → kind_of_word word ≡ o
    → block_of_word number ≡ p → event_with o p ≡ Some e → Spelled (word ++ (32 ∷ number)) e
two_words word number e (Some kind) (Some block) h i is = grind (arith, common_steps, kind_spelled, block_spelled)
two_words word number e _ _ h i is = absurd cc

words_spelled : (words : List (List ℕ)) (e : Event) → event_of_words words ≡ Some e
    → Spelled (join_with_byte 32 words) e
words_spelled (a ∷ b ∷ []) e h = two_words a b e (kind_of_word a) (block_of_word b) refl refl h
words_spelled _ e h = absurd cc

pub event_spelled : (line : List ℕ) (e : Event) → event_of line ≡ Some e → Spelled line e
event_spelled line e h =
    let s = words_spelled (parts 32 line) e h in
    record { written = sym (join_with_byte-slice_split 32 line) ∙ s.written; fits = s.fits }
