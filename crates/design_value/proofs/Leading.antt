-- The pairs that lead out of a set, pair by pair and block by block.
use Rattle.fixed_worth.proofs.Common.{◌≡◌, ℕ, ◌+◌, ◌<◌, ◌≤◌, Bool, true, false, cond, Contains, List, [], ◌∷◌, ◌++◌}
use Rattle.fixed_worth.proofs.Common.{length, take, refl, sym, ap, ◌∙◌, arith, length-append, take_all, take-append-le}
use Rattle.fixed_worth.proofs.Common.{filter-append, append-nil, common_steps}
use Rattle.prec_file.proofs.OneListing.{tail_holds}
use Rattle.prec_file.proofs.Sorting.{length_filter_most}
use Rattle.design_value.specs.OpenPairs.{leads_out, open_pairs, most_open_told, AreOpen}

-- ---- one pair more

one : (design : ℕ → Bool) (pair : ℕ × ℕ) (t : Bool) → leads_out design pair ≡ t
    → open_pairs design (pair ∷ []) ≡ cond t (pair ∷ []) []
one design pair true e = rw e refl
one design pair false e = rw e refl

with_pair : (design : ℕ → Bool) (ps : List (ℕ × ℕ)) (pair : ℕ × ℕ) (t : Bool) → leads_out design pair ≡ t
    → open_pairs design (ps ++ pair ∷ []) ≡ open_pairs design ps ++ cond t (pair ∷ []) []
with_pair design ps pair t e = filter-append (leads_out design) ps (pair ∷ [])
    ∙ ap (λ (xs : List (ℕ × ℕ)). open_pairs design ps ++ xs) (one design pair t e)

pub stays : (design : ℕ → Bool) (ps : List (ℕ × ℕ)) (pair : ℕ × ℕ) (count : ℕ) (first : List (ℕ × ℕ))
    → leads_out design pair ≡ false → AreOpen design ps count first → AreOpen design (ps ++ pair ∷ []) count first
stays design ps pair count first e h = grind (arith, common_steps)

more_all : (design : ℕ → Bool) (ps : List (ℕ × ℕ)) (pair : ℕ × ℕ) (count : ℕ) → leads_out design pair ≡ true
    → count ≡ length (open_pairs design ps) → count + 1 ≡ length (open_pairs design (ps ++ pair ∷ []))
more_all design ps pair count e h = omega
    (arith, h, ap length (with_pair design ps pair true e), length-append (open_pairs design ps) (pair ∷ []))

few_open : (xs first : List (ℕ × ℕ)) → first ≡ take most_open_told xs → length first < most_open_told
    → length xs < most_open_told
few_open xs first e l = grind (arith, common_steps)

many_open : (xs first : List (ℕ × ℕ)) → first ≡ take most_open_told xs → most_open_told ≤ length first
    → most_open_told ≤ length xs
many_open xs first e l = grind (arith, common_steps)

pub opens_told : (design : ℕ → Bool) (ps : List (ℕ × ℕ)) (pair : ℕ × ℕ) (count : ℕ) (first : List (ℕ × ℕ))
    → leads_out design pair ≡ true → length first < most_open_told → AreOpen design ps count first
    → AreOpen design (ps ++ pair ∷ []) (count + 1) (first ++ pair ∷ [])
opens_told design ps pair count first e l h =
    let xs = open_pairs design ps in
    let few : length xs < most_open_told = few_open xs first h.first l in
    let room : length (xs ++ pair ∷ []) ≤ most_open_told = omega (arith, few, length-append xs (pair ∷ [])) in
    let all : length xs ≤ most_open_told = omega (arith, few) in
    record {
      all = more_all design ps pair count e h.all;
      first = ap (λ (ys : List (ℕ × ℕ)). ys ++ pair ∷ []) (h.first ∙ take_all most_open_told xs all)
          ∙ sym (take_all most_open_told (xs ++ pair ∷ []) room)
          ∙ ap (take most_open_told) (sym (with_pair design ps pair true e));
    }

pub opens_untold : (design : ℕ → Bool) (ps : List (ℕ × ℕ)) (pair : ℕ × ℕ) (count : ℕ) (first : List (ℕ × ℕ))
    → leads_out design pair ≡ true → most_open_told ≤ length first → AreOpen design ps count first
    → AreOpen design (ps ++ pair ∷ []) (count + 1) first
opens_untold design ps pair count first e l h =
    let xs = open_pairs design ps in
    record {
      all = more_all design ps pair count e h.all;
      first = h.first ∙ sym (take-append-le most_open_told xs (pair ∷ []) (many_open xs first h.first l))
          ∙ ap (take most_open_told) (sym (with_pair design ps pair true e));
    }

-- ---- the pairs of a block

pub not_from : (design : ℕ → Bool) (b p : ℕ) → design b ≡ false → leads_out design (b, p) ≡ false
not_from design b p e = rw e refl

pub not_to : (design : ℕ → Bool) (b p : ℕ) → design p ≡ true → leads_out design (b, p) ≡ false
not_to design b p e = grind (arith, common_steps)

none_open : (design : ℕ → Bool) (row : List (ℕ × ℕ)) → ((q : ℕ × ℕ) → Contains row q → leads_out design q ≡ false)
    → open_pairs design row ≡ []
none_open design [] h = refl
none_open design (q ∷ row) h = rw (h q (0, omega arith, refl))
    (none_open design row (λ x c. h x (tail_holds q row x c)))

-- pairs of which none leads out
pub stays_row : (design : ℕ → Bool) (ps row : List (ℕ × ℕ)) (count : ℕ) (first : List (ℕ × ℕ))
    → ((q : ℕ × ℕ) → Contains row q → leads_out design q ≡ false) → AreOpen design ps count first
    → AreOpen design (ps ++ row) count first
stays_row design ps row count first none h =
    let e : open_pairs design (ps ++ row) ≡ open_pairs design ps = filter-append (leads_out design) ps row
    ∙ ap (λ (xs : List (ℕ × ℕ)). open_pairs design ps ++ xs) (none_open design row none)
    ∙ append-nil (open_pairs design ps) in
    record { all = h.all ∙ ap length (sym e); first = h.first ∙ ap (take most_open_told) (sym e) }

-- no more of the pairs lead out than there are
pub few_lead : (design : ℕ → Bool) (ps : List (ℕ × ℕ)) (count : ℕ) (first : List (ℕ × ℕ))
    → AreOpen design ps count first → count ≤ length ps
few_lead design ps count first h = omega (arith, h.all, length_filter_most (leads_out design) ps)
