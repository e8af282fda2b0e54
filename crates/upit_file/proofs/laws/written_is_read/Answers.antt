use Rattle.fixed_worth.proofs.Common.{◌≡◌, true, List, ℕ, ℤ, ◌≤◌, ◌^◌, subst, arith, All, ◌+◌, Bool, false, not, eqb}
use Rattle.fixed_worth.proofs.Common.{[], ◌∷◌, ◌++◌, length, refl, sym, ap, ◌∙◌, unsigned_abs, codes, list_all}
use Rattle.fixed_worth.proofs.Common.{list_any, option_or, decimal, or_parts, list_all-append}
use Rattle.upit_file.specs.Prelude.{is_name, UpitView, header, last_name, header_fault, body, before_end}
use Rattle.upit_file.specs.Prelude.{first_upit_fault, value_among, header_lines, record_lines, upit_lines, upit_text}
use Rattle.upit_file.specs.Prelude.{IsUpitReadBack}
use Rattle.fixed_worth.specs.Prelude.{lines_in, Line, numbered_lines}
use Rattle.upit_file.proofs.laws.written_is_read.Goals as goal
use Rattle.fixed_worth.specs.declared.limits.TheConstants.{MOST_BLOCKS}
use Rattle.fixed_worth.proofs.Joined.{is_one_line, lines_cut}
use Rattle.fixed_worth.proofs.WrittenNumbers.{decimal_is_one_line}
use Rattle.upit_file.proofs.HeaderBack.{name_whole, written, header_back}
use Rattle.upit_file.proofs.BodyBack.{Sizes, sizes_each, no_first_fault, values_back, body_back, record_lines_whole}

none_passes : (p : ℕ → Bool) (bs : List ℕ) → list_any p bs ≡ false → list_all (λ b. not (p b)) bs ≡ true
none_passes p [] h = refl
none_passes p (b ∷ bs) h = let q = or_parts (p b) (list_any p bs) h in rw (q.0, none_passes p bs q.1) refl

-- No line that is written has a line feed within.
all_lines : (name : List ℕ) (vs : List ℤ) → is_name name ≡ true → length vs ≤ MOST_BLOCKS → Sizes vs
    → list_all is_one_line (header_lines name (length vs) ++ (record_lines 0 vs ++ (codes "EOF" ∷ []))) ≡ true
all_lines name vs h few s =
    let a : is_one_line name ≡ true = none_passes (λ b. eqb b 10) name (name_whole name h) in
    let b : is_one_line (decimal (length vs)) ≡ true = decimal_is_one_line (length vs) (omega arith) in
    let c : list_all is_one_line (record_lines 0 vs ++ (codes "EOF" ∷ [])) ≡ true = list_all-append is_one_line
    (record_lines 0 vs) (codes "EOF" ∷ []) ∙ rw (record_lines_whole 0 vs (omega arith) s) refl in
    rw (a, b, c) refl

-- The lines that are read are those that were written.
read_lines : (u : UpitView) → is_name u.name ≡ true → length u.values ≤ MOST_BLOCKS → Sizes u.values
    → lines_in (upit_text u) ≡ written u.name (length u.values)
    (numbered_lines 4 (record_lines 0 u.values ++ (codes "EOF" ∷ [])))
read_lines u h few s = ap (numbered_lines 0) (lines_cut (upit_lines u) (all_lines u.name u.values h few s))

-- The name and the values are such as the type holds: each value has at most 10^18 millionths either way.
pub record CanBeWritten (u : UpitView) : Type 0 where
  pub named : is_name u.name ≡ true
  pub few : length u.values ≤ MOST_BLOCKS
  pub sizes : All (λ value. unsigned_abs value ≤ 10 ^ 18) u.values

read_back : (u : UpitView) → CanBeWritten u → IsUpitReadBack u
read_back u c =
    let n = length u.values in
    let few : length u.values ≤ MOST_BLOCKS = c.few in
    let s = sizes_each u.values c.sizes in
    let rest = numbered_lines 4 (record_lines 0 u.values ++ (codes "EOF" ∷ [])) in
    let lines = read_lines u c.named few s in
    let h = header_back n u.name rest c.named few in
    let records : body (lines_in (upit_text u)) ≡ numbered_lines 4 (record_lines 0 u.values) = ap body lines
    ∙ ap before_end h.2 ∙ body_back 4 0 u.values (omega arith) s in
    record {
      sound = ap (λ (ls : List Line). option_or (header_fault n ls)
          (first_upit_fault n [] (body (lines_in (upit_text u))))) lines
          ∙ ap (λ o. option_or o (first_upit_fault n [] (body (lines_in (upit_text u))))) h.0
          ∙ ap (first_upit_fault n []) records ∙ no_first_fault n 4 0 u.values [] (omega arith) few s (λ j i. refl);
      same = record {
        count = refl;
        worth = λ b i.
            let z : 0 + b ≡ b = omega arith in
            sym (ap (λ (ls : List Line). value_among ls b) records
            ∙ ap (value_among (numbered_lines 4 (record_lines 0 u.values))) (sym z)
            ∙ values_back 4 0 b u.values i (omega arith) s);
        named = sym (ap (λ (ls : List Line). last_name [] (header ls)) lines ∙ h.1);
      };
    }

pub returns : goal.returns
returns c =
    let P : List ℕ → Type 0 = λ name. is_name name ≡ true in
    let Q : List ℤ → Type 0 = λ values. All (λ value. unsigned_abs value ≤ 10 ^ 18) values in
    let all : All (λ value. unsigned_abs value ≤ 10 ^ 18) c.values-values.result.now = λ k d h. c.loop-value.invariant
    k d (omega (arith, h)) in
    read_back c.args.upit.now (record {
      named = subst P c.name.ensures.value c.name.ensures.form;
      few = omega (arith, c.len.ensures.value, c.len.ensures.bound);
      sizes = subst Q c.values-values.ensures all;
    })
