-- The header's lines are read back.
use Rattle.fixed_worth.proofs.Common.{◌≡◌, ℕ, ◌+◌, ◌^◌, ◌<◌, ◌≤◌, true, false, cond, eqb, List, [], ◌∷◌, ◌++◌, length}
use Rattle.fixed_worth.proofs.Common.{take, drop, get_or, Some, None, refl, sym, ap, ◌∙◌, arith, length-append, codes}
use Rattle.fixed_worth.proofs.Common.{map, list_any, position_or_len, decimal, not-true, and_parts}
use Rattle.fixed_worth.proofs.Common.{length-decimal-le_wide, take_all, common_steps}
use Rattle.fixed_worth.specs.declared.limits.TheConstants.{MOST_BLOCKS}
use Rattle.upit_file.specs.declared.limits.TheConstants.{NAME_BYTES}
use Rattle.fixed_worth.specs.Prelude.{Line, WordRun, is_separator, runs_from}
use Rattle.fixed_worth.proofs.Cuts.{first_run}
use Rattle.upit_file.specs.declared.key.Key.{Key}
use Rattle.upit_file.specs.declared.key.Key.TheVariants.{Name, FileType, Blocks, Objective}
use Rattle.upit_file.specs.declared.upit_fault.UpitFault.TheVariants.{Text}
use Rattle.upit_file.specs.Prelude.{is_long, fields_in, key_in, header, after_header, count_fault, key_fault, last_end}
use Rattle.upit_file.specs.Prelude.{from_second, name_in, last_name, header_line_fault, header_fault, is_name}
use Rattle.fixed_worth.proofs.Joined.{word_run, gap_run, word_alone}
use Rattle.fixed_worth.proofs.NextLine.{line, short}
use Rattle.fixed_worth.proofs.WrittenNumbers.{whole_of-decimal, decimal_is_word}

-- ---- the name

-- The last field ends where the text does, where the text ends in no separator.
abbrev last_of : ℕ → List ℕ → ℕ
last_of b [] = b
last_of b (c ∷ cs) = last_of c cs

abbrev EndsAt : ℕ → List WordRun → ℕ → Type 0
EndsAt e rs n = (0 < length rs) × (last_end e rs ≡ n)

ends_at : (p e b : ℕ) (bs : List ℕ) → is_separator (last_of b bs) ≡ false
    → EndsAt e (runs_from p (b ∷ bs)) (p + length (b ∷ bs))
ends_at p e b [] h = rw h (omega arith, refl)
ends_at p e b (c ∷ cs) h = grind (arith, common_steps, (ends_at (p + 1) e c cs h))

last_is : (c : ℕ) (cs : List ℕ) → get_or (c ∷ cs) (length cs) 0 ≡ last_of c cs
last_is c [] = refl
last_is c (d ∷ ds) = last_is d ds

-- What a name is that is not empty.
record NameParts (c : ℕ) (cs : List ℕ) : Type 0 where
  few : length (c ∷ cs) ≤ NAME_BYTES
  whole : list_any (λ b. eqb b 10) (c ∷ cs) ≡ false
  first : is_separator c ≡ false
  last : is_separator (last_of c cs) ≡ false

name_parts : (c : ℕ) (cs : List ℕ) → is_name (c ∷ cs) ≡ true → NameParts c cs
name_parts c cs h = grind (arith, common_steps, eqb, and_parts, not-true, last_is)

pub name_few : (name : List ℕ) → is_name name ≡ true → length name ≤ NAME_BYTES
name_few [] h = omega arith
name_few (c ∷ cs) h = (name_parts c cs h).few

pub name_whole : (name : List ℕ) → is_name name ≡ true → list_any (λ b. eqb b 10) name ≡ false
name_whole [] h = refl
name_whole (c ∷ cs) h = (name_parts c cs h).whole

-- The fields of a NAME line: the key, and those of the name.
name_runs : (name : List ℕ) → runs_from 0 (codes "NAME: " ++ name) ≡ record { text = codes "NAME"; place = 0 }
    ∷ runs_from 6 name
unfolding is_separator
name_runs name =
    let key : WordRun = record { text = codes "NAME"; place = 0 } in
    word_run 0 (codes "NAME") (58 ∷ 32 ∷ name) refl refl
    ∙ ap (λ (rs : List WordRun). key ∷ rs) (gap_run 4 58 (32 ∷ name) refl ∙ gap_run 5 32 name refl)

second_is : (line : List ℕ) (key r : WordRun) (rs : List WordRun) (n : ℕ) → r.place ≡ 6 → last_end 0 (r ∷ rs) ≡ n
    → length line ≤ n → from_second line (key ∷ r ∷ rs) ≡ drop 6 line
second_is line key r rs n e f h = ap (λ p. drop p (take (last_end 0 (r ∷ rs)) line)) e
    ∙ ap (λ m. drop 6 (take m line)) f ∙ ap (drop 6) (take_all n line h)

pub name_back : (name : List ℕ) → is_name name ≡ true → name_in (codes "NAME: " ++ name) ≡ name
name_back [] h = ap (from_second (codes "NAME: ")) (name_runs [])
name_back (c ∷ cs) h =
    let p = name_parts c cs h in
    let key : WordRun = record { text = codes "NAME"; place = 0 } in
    let line = codes "NAME: " ++ (c ∷ cs) in
    let w = position_or_len is_separator (c ∷ cs) in
    let r : WordRun = record { text = take w (c ∷ cs); place = 6 } in
    let rest = runs_from (6 + w) (drop w (c ∷ cs)) in
    let runs : runs_from 6 (c ∷ cs) ≡ r ∷ rest = first_run 6 (c ∷ cs) (omega arith) p.first in
    let end : last_end 0 (r ∷ rest) ≡ 6 + length (c ∷ cs) = ap (last_end 0) (sym runs) ∙ (ends_at 6 0 c cs p.last).1 in
    ap (from_second line) (name_runs (c ∷ cs) ∙ ap (λ (rs : List WordRun). key ∷ rs) runs)
    ∙ second_is line key r rest (6 + length (c ∷ cs)) refl end (omega arith)

-- ---- the four lines

abbrev texts : List WordRun → List (List ℕ)
texts rs = map (λ r. r.text) rs

name_key : (fields : List (List ℕ)) → key_in (codes "NAME" ∷ fields) ≡ Name
name_key [] = refl
name_key (f ∷ fs) = refl

fault_by_key : (n : ℕ) (l : Line) (k : Key) → is_long l ≡ false → key_in (fields_in l) ≡ k
    → header_line_fault n l ≡ key_fault n l k (fields_in l)
fault_by_key n l k s e = ap (λ t. cond t (Some (Text l.number)) (key_fault n l (key_in (fields_in l)) (fields_in l)))
    s ∙ ap (λ x. key_fault n l x (fields_in l)) e

-- A line of the header with this key has no fault.
record IsSound (n : ℕ) (k : Key) (l : Line) : Type 0 where
  key : key_in (fields_in l) ≡ k
  sound : header_line_fault n l ≡ None

name_sound : (n : ℕ) (name : List ℕ) → is_name name ≡ true → IsSound n Name (line 1 (codes "NAME: " ++ name))
name_sound n name h = grind
    (arith, common_steps, name_few, short, length-append, line, texts, name_runs, name_key, fault_by_key, name_back)

type_sound : (n : ℕ) → IsSound n FileType (line 2 (codes "TYPE: UPIT"))
unfolding is_separator
type_sound n = record { key = refl; sound = refl }

objective_key : key_in (fields_in (line 4 (codes "OBJECTIVE_FUNCTION:"))) ≡ Objective
unfolding is_separator
objective_key = refl

count_runs : (n : ℕ) → n < 2 ^ 64
    → runs_from 0 (codes "NBLOCKS: " ++ decimal n) ≡ record { text = codes "NBLOCKS"; place = 0 }
    ∷ record { text = decimal n; place = 9 } ∷ []
unfolding is_separator
count_runs n h = grind (arith, common_steps, word_run, gap_run, word_alone, decimal_is_word)

count_sound : (n : ℕ) → n ≤ MOST_BLOCKS → IsSound n Blocks (line 3 (codes "NBLOCKS: " ++ decimal n))
count_sound n h =
    let few = length-decimal-le_wide 20 n (omega arith) (omega arith) (omega arith) in
    let l = line 3 (codes "NBLOCKS: " ++ decimal n) in
    let s = short (codes "NBLOCKS: " ++ decimal n) (omega (arith, length-append (codes "NBLOCKS: ") (decimal n))) in
    let f : fields_in (line 3 (codes "NBLOCKS: " ++ decimal n)) ≡ codes "NBLOCKS" ∷ decimal n ∷ [] = rw s
    (ap texts (count_runs n (omega arith))) in
    let k : key_in (fields_in l) ≡ Blocks = ap key_in f in
    record {
      key = k;
      sound = fault_by_key n l Blocks s k ∙ ap (count_fault n 3) f
          ∙ (grind (arith, common_steps, eqb, whole_of-decimal));
    }

-- ---- the four lines together

split_at_end : (n : ℕ) (a b c d : Line) (rest : List Line) → IsSound n Name a → IsSound n FileType b
    → IsSound n Blocks c → key_in (fields_in d) ≡ Objective → (header (a ∷ b ∷ c ∷ d ∷ rest) ≡ a ∷ b ∷ c ∷ [])
    × (after_header (a ∷ b ∷ c ∷ d ∷ rest) ≡ d ∷ rest)
split_at_end n a b c d rest x y z e = (rw (x.key, y.key, z.key, e) refl, rw (x.key, y.key, z.key, e) refl)

four_sound : (n : ℕ) (a b c d : Line) (rest : List Line) → IsSound n Name a → IsSound n FileType b
    → IsSound n Blocks c → key_in (fields_in d) ≡ Objective → header_fault n (a ∷ b ∷ c ∷ d ∷ rest) ≡ None
four_sound n a b c d rest x y z e = grind (arith, common_steps)

-- The header of a written text.
abbrev pub written : List ℕ → ℕ → List Line → List Line
written name n rest = line 1 (codes "NAME: " ++ name) ∷ line 2 (codes "TYPE: UPIT") ∷ line 3
    (codes "NBLOCKS: " ++ decimal n) ∷ line 4 (codes "OBJECTIVE_FUNCTION:") ∷ rest

pub header_back : (n : ℕ) (name : List ℕ) (rest : List Line) → is_name name ≡ true → n ≤ MOST_BLOCKS
    → (header_fault n (written name n rest) ≡ None) × (last_name [] (header (written name n rest)) ≡ name)
    × (drop 1 (after_header (written name n rest)) ≡ rest)
header_back n name rest h few =
    let a = line 1 (codes "NAME: " ++ name) in
    let b = line 2 (codes "TYPE: UPIT") in
    let c = line 3 (codes "NBLOCKS: " ++ decimal n) in
    let d = line 4 (codes "OBJECTIVE_FUNCTION:") in
    let x = name_sound n name h in
    let y = type_sound n in
    let z = count_sound n few in
    let split = split_at_end n a b c d rest x y z objective_key in (
      four_sound n a b c d rest x y z objective_key,
      ap (last_name []) split.0 ∙ (rw (x.key, y.key, z.key) refl) ∙ name_back name h,
      ap (drop 1) split.1,
    )
