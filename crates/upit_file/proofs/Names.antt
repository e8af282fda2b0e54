-- Where a name lies in its line, and what its bytes are.
use Rattle.fixed_worth.proofs.Common.{◌≡◌, ℕ, ℤ, suc, ◌+◌, ◌-◌, ◌<◌, ◌≤◌, true, false, cond, eqb, List, [], ◌∷◌, length}
use Rattle.fixed_worth.proofs.Common.{take, drop, get_or, Option, None, refl, sym, ap, ◌∙◌, subst, arith, All}
use Rattle.fixed_worth.proofs.Common.{length-drop, nat_le, option_or, list_any, nat_tests, get_or-drop, get_or-take}
use Rattle.fixed_worth.proofs.Common.{length-take, common_steps}
use Rattle.fixed_worth.specs.declared.limits.TheConstants.{MOST_BLOCKS}
use Rattle.upit_file.specs.declared.limits.TheConstants.{NAME_BYTES}
use Rattle.fixed_worth.specs.Prelude.{is_separator, WordRun, runs_from, lines_of, Line, numbered_lines, IsField}
use Rattle.fixed_worth.specs.Prelude.{AreInOrder}
use Rattle.fixed_worth.proofs.FieldLaws.{fields_are}
use Rattle.fixed_worth.proofs.LineLaws.{lines_are, NoLineFeed}
use Rattle.upit_file.specs.declared.key.Key.{Key}
use Rattle.upit_file.specs.declared.key.Key.TheVariants.{Name}
use Rattle.upit_file.specs.Prelude.{fields_in, key_in, ends_header, header, last_end, from_second, name_after}
use Rattle.upit_file.specs.Prelude.{last_name, header_line_fault, header_lines_fault, header_fault, is_name, is_upit}

rest : (line : List ℕ) (r : WordRun) (rs : List WordRun) → All (IsField line) (r ∷ rs) → All (IsField line) rs
rest line r rs a = λ k d h. a (suc k) d (omega arith)

last_within : (line : List ℕ) (e : ℕ) (rs : List WordRun) → e ≤ length line → All (IsField line) rs → AreInOrder e rs
    → (e ≤ last_end e rs) × (last_end e rs ≤ length line)
last_within line e [] h a o = (omega arith, h)
last_within line e (r ∷ rs) h a o = grind (
  arith,
  common_steps,
  (last_within line (r.place + length r.text) rs (a 0 r (omega arith)).inside
      (rest line r rs a) o.1),
)

-- The name begins in its line before it ends there.
pub name_within : (line : List ℕ) (key r : WordRun) (rs : List WordRun) → runs_from 0 line ≡ key ∷ r ∷ rs
    → (r.place < last_end 0 (r ∷ rs)) × (last_end 0 (r ∷ rs) ≤ length line)
name_within line key r rs e =
    let all = fields_are line in
    let each : All (IsField line) (r ∷ rs) = rest line key (r ∷ rs)
    (subst (λ (fs : List WordRun). All (IsField line) fs) e all.each) in
    let ordered = subst (λ (fs : List WordRun). AreInOrder 0 fs) e all.ordered in
    let f : IsField line r = each 0 r (omega arith) in
    let w = last_within line (r.place + length r.text) rs f.inside (rest line r rs each) ordered.1.1 in
    (omega (arith, w.0, f.some), w.1)

-- A byte of a field, in its line.
byte_of : (line : List ℕ) (r : WordRun) (k : ℕ) → IsField line r → k < length r.text
    → is_separator (get_or line (r.place + k) 0) ≡ false
byte_of line r k f h = grind
    (arith, common_steps, (get_or-take (length r.text) (drop r.place line) k 0 h), (get_or-drop r.place line k 0))

last_byte : (line : List ℕ) (r : WordRun) (rs : List WordRun) → All (IsField line) (r ∷ rs)
    → is_separator (get_or line (last_end 0 (r ∷ rs) - 1) 0) ≡ false
last_byte line r [] a = grind (
  arith,
  common_steps,
  (a 0 r (omega arith)),
  (byte_of line r (length r.text - 1) (a 0 r (omega arith)) (omega (arith, (a 0 r (omega arith)).some))),
)
last_byte line r (s ∷ rs) a = last_byte line s rs (rest line r (s ∷ rs) a)

-- A byte of a slice of a line.
slice_byte : (line : List ℕ) (p e k : ℕ) → p + k < e → get_or (drop p (take e line)) k 0 ≡ get_or line (p + k) 0
slice_byte line p e k h = get_or-drop p (take e line) k 0 ∙ get_or-take e line (p + k) 0 h

none_any : (xs : List ℕ) → ((k : ℕ) → k < length xs → eqb (get_or xs k 0) 10 ≡ false)
    → list_any (λ b. eqb b 10) xs ≡ false
none_any [] h = refl
none_any (x ∷ xs) h = let e : eqb x 10 ≡ false = h 0 (omega arith) in rw e
    (none_any xs (λ k i. h (suc k) (omega arith)))

slice_is_name : (line : List ℕ) (p e : ℕ) → p < e → e ≤ length line → NoLineFeed line
    → is_separator (get_or line p 0) ≡ false → is_separator (get_or line (e - 1) 0) ≡ false
    → length (drop p (take e line)) ≤ NAME_BYTES
    → is_name (drop p (take e line)) ≡ true
slice_is_name line p e h i whole first last few =
    let name = drop p (take e line) in
    let len : length (drop p (take e line)) ≡ e - p = omega (arith, length-drop p (take e line), length-take e line) in
    let no_feed : list_any (λ b. eqb b 10) (drop p (take e line)) ≡ false = none_any name
    (λ k j. ap (λ (b : ℕ). eqb b 10) (slice_byte line p e k (omega arith)) ∙ whole (p + k) (omega arith)) in
    let z : p + 0 ≡ p = omega arith in
    let a : is_separator (get_or (drop p (take e line)) 0 0) ≡ false = ap is_separator
    (slice_byte line p e 0 (omega arith) ∙ ap (λ (k : ℕ). get_or line k 0) z) ∙ first in
    let y : p + (length (drop p (take e line)) - 1) ≡ e - 1 = omega arith in
    let b : is_separator (get_or (drop p (take e line)) (length (drop p (take e line)) - 1) 0)
    ≡ false = ap is_separator (slice_byte line p e (length name - 1) (omega arith)
    ∙ ap (λ (k : ℕ). get_or line k 0) y) ∙ last in
    let some : eqb (length (drop p (take e line))) 0 ≡ false = grind (arith, nat_tests) in
    let most : nat_le (length (drop p (take e line))) NAME_BYTES ≡ true = grind (arith, nat_tests) in
    rw (some, most, no_feed, a, b) refl

-- What a NAME record gives is a name.
from_second_is_name : (line : List ℕ) (rs : List WordRun) → runs_from 0 line ≡ rs → NoLineFeed line
    → length (from_second line rs) ≤ NAME_BYTES → is_name (from_second line rs) ≡ true
from_second_is_name line [] e whole few = refl
from_second_is_name line (key ∷ []) e whole few = refl
from_second_is_name line (key ∷ r ∷ rs) e whole few =
    let w = name_within line key r rs e in
    let each : All (IsField line) (r ∷ rs) = rest line key (r ∷ rs)
    (subst (λ (fs : List WordRun). All (IsField line) fs) e (fields_are line).each) in
    let f : IsField line r = each 0 r (omega arith) in
    let z : r.place + 0 ≡ r.place = omega arith in
    let first : is_separator (get_or line r.place 0) ≡ false = ap (λ (k : ℕ). is_separator (get_or line k 0)) (sym z)
    ∙ byte_of line r 0 f f.some in
    slice_is_name line r.place (last_end 0 (r ∷ rs)) w.0 w.1 whole first (last_byte line r rs each) few

-- No line holds a line feed.
abbrev pub Whole : List Line → Type 0
Whole [] = Unit {0}
Whole (l ∷ ls) = NoLineFeed l.text × Whole ls

whole_numbered : (k : ℕ) (lines : List (List ℕ)) → All NoLineFeed lines → Whole (numbered_lines k lines)
whole_numbered k [] a = tt
whole_numbered k (l ∷ ls) a = (a 0 [] (omega arith), whole_numbered (k + 1) ls (λ i d h. a (suc i) d (omega arith)))

whole_header : (ls : List Line) → Whole ls → Whole (header ls)
whole_header [] w = tt
whole_header (l ∷ ls) w = elim (ends_header (key_in (fields_in l))) as (λ t. Whole (cond t [] (l ∷ header ls)))
    [ true ↦ tt | false ↦ (w.0, whole_header ls w.1) ]

pub none_parts : {X : Type 0} → (a b : Option X) → option_or a b ≡ None → (a ≡ None) × (b ≡ None)
none_parts a b h = grind (arith, common_steps)

named_after : (n : ℕ) (name : List ℕ) (l : Line) → is_name name ≡ true → NoLineFeed l.text
    → header_line_fault n l ≡ None → (k : Key) → key_in (fields_in l) ≡ k → is_name (name_after name k l.text) ≡ true
named_after n name l h w f Name e = from_second_is_name l.text (runs_from 0 l.text) refl w (grind (arith, common_steps))
named_after n name l h w f k e = h

named : (n : ℕ) (name : List ℕ) (ls : List Line) → is_name name ≡ true → Whole ls → header_lines_fault n ls ≡ None
    → is_name (last_name name ls) ≡ true
named n name [] h w f = h
named n name (l ∷ ls) h w f =
    let p = none_parts (header_line_fault n l) (header_lines_fault n ls) f in
    named n (name_after name (key_in (fields_in l)) l.text) ls
    (named_after n name l h w.0 p.0 (key_in (fields_in l)) refl) w.1 p.1

-- A header with no fault gives a name.
pub header_named : (n : ℕ) (text : List ℕ) → header_lines_fault n (header (numbered_lines 0 (lines_of text))) ≡ None
    → is_name (last_name [] (header (numbered_lines 0 (lines_of text)))) ≡ true
header_named n text f = named n [] (header (numbered_lines 0 (lines_of text))) refl
    (whole_header (numbered_lines 0 (lines_of text)) (whole_numbered 0 (lines_of text) (lines_are text).whole)) f

-- What a text gives is what the type can hold.
pub read_is_upit : (n : ℕ) (text : List ℕ) (lines : List (List ℕ)) (given name : List ℕ) (values : List ℤ)
    → lines ≡ lines_of text → header_fault n (numbered_lines 0 lines) ≡ None
    → given ≡ last_name [] (header (numbered_lines 0 lines)) → name ≡ given
    → length values ≡ n → n ≤ MOST_BLOCKS → is_upit name values ≡ true
read_is_upit n text lines given name values e f g h len few = grind (arith, common_steps, none_parts, header_named)

-- The name begins in its line before it ends there, where the fields were given one after another.
pub name_bounds : (line : List ℕ) (end : ℕ) (all seconds thirds left : List WordRun) (key r : WordRun)
    → all ≡ runs_from 0 line → all ≡ key ∷ seconds → seconds ≡ r ∷ thirds → left ≡ []
    → last_end end left ≡ last_end (r.place + length r.text) thirds
    → (r.place < end) × (end ≤ length line)
name_bounds line end all seconds thirds left key r e f g none last = grind (arith, common_steps, name_within)
