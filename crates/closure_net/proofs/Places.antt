-- Amounts that are kept by their places.
use Rattle.fixed_worth.proofs.Common.{◌≡◌, ℕ, zero, suc, ◌≤◌, ◌<◌, ◌^◌, List, [], ◌∷◌, ◌++◌, length, map, replicate}
use Rattle.fixed_worth.proofs.Common.{set, get_or, inl, inr, Option, None, Some, All, refl, sym, ap, ◌∙◌, arith}
use Rattle.fixed_worth.proofs.Common.{length-set, get_or-set_same, get_or-set_other, cases_eq, map-set, get_or-map}
use Rattle.fixed_worth.proofs.Common.{get_or-replicate, length-map, length-replicate, ext_get_or, length-append}
use Rattle.fixed_worth.proofs.Common.{get_or-set_at, common_steps, get_or-append_seam}
use Rattle.ordered_group.specs.Amount.{Amount, zero_amount}
use Rattle.closure_net.specs.Carrying.{amount_of_place, carried_by, placed_count, ArePlaces}

-- ---- places

placed_count_most : (ps : List ℕ) → placed_count ps ≤ length ps
placed_count_most [] = omega arith
placed_count_most (zero ∷ ps) = omega (arith, placed_count_most ps)
placed_count_most (suc p ∷ ps) = omega (arith, placed_count_most ps)

-- one more pair has a place where one had none
placed_count-set : (ps : List ℕ) (k n : ℕ) → k < length ps → get_or ps k 0 ≡ 0
    → placed_count (set ps k (suc n)) ≡ suc (placed_count ps)
placed_count-set [] k n l e = absurd (omega arith)
placed_count-set (zero ∷ ps) zero n l e = refl
placed_count-set (suc p ∷ ps) zero n l e = absurd cc
placed_count-set (zero ∷ ps) (suc k) n l e = placed_count-set ps k n (omega arith) e
placed_count-set (suc p ∷ ps) (suc k) n l e = ap suc (placed_count-set ps k n (omega arith) e)

placed_count-none : (n : ℕ) → placed_count (replicate n 0) ≡ 0
placed_count-none zero = refl
placed_count-none (suc n) = placed_count-none n

-- at first no pair has a place
pub places_none : (ps : List ℕ) (n amounts : ℕ) → ps ≡ replicate n 0 → n < 2 ^ 32 → amounts ≡ 0 → ArePlaces ps amounts
places_none ps n amounts e few none = grind (arith, common_steps, length-replicate, get_or-replicate, placed_count-none)

-- while a pair has no place, the next place is a number of 32 bits
pub place_fits : (ps : List ℕ) (n k : ℕ) → ArePlaces ps n → k < length ps → get_or ps k 0 ≡ 0 → suc n < 2 ^ 32
place_fits ps n k h l e = omega
    (arith, placed_count_most (set ps k 1), placed_count-set ps k 0 l e, length-set ps k 1, h.count, h.few)

-- a pair that has no place gets the next one
pub places_more : (ps : List ℕ) (n k : ℕ) → ArePlaces ps n → k < length ps → get_or ps k 0 ≡ 0
    → ArePlaces (set ps k (suc n)) (suc n)
places_more ps n k h l e = grind (arith, common_steps, (length-set ps k (suc n)), (placed_count-set ps k n l e))

-- one more amount, in a list and in what was read of it
pub grown : {X : Type 0} (xs ys zs : List X) (x : X) → ys ≡ xs ++ x ∷ [] → zs ≡ ys → length zs ≡ suc (length xs)
grown xs ys zs x e f = ap length (f ∙ e) ∙ length-append xs (x ∷ []) ∙ omega arith

-- ---- what the pairs carry

-- one more amount leaves those of the places before it
same_at : (xs : List Amount) (x : Amount) (p : ℕ) → p ≤ length xs
    → amount_of_place (xs ++ x ∷ []) p ≡ amount_of_place xs p
same_at xs x p h = grind (arith, common_steps)

same_map : (xs : List Amount) (x : Amount) (ps : List ℕ) → All (λ p. p ≤ length xs) ps
    → map (amount_of_place (xs ++ x ∷ [])) ps ≡ map (amount_of_place xs) ps
same_map xs x [] h = refl
same_map xs x (p ∷ ps) h =
    ap (λ (a : Amount). a ∷ map (amount_of_place (xs ++ x ∷ [])) ps) (same_at xs x p (h 0 0 (omega arith)))
    ∙ ap (λ (ys : List Amount). amount_of_place xs p ∷ ys) (same_map xs x ps (λ k d l. h (suc k) d (omega arith)))

-- with another amount at its place, a pair carries that amount, and the others what they did
pub replaced_is_set : (xs : List Amount) (x : Amount) (ps : List ℕ) (k p : ℕ) → ArePlaces ps (length xs)
    → k < length ps → get_or ps k 0 ≡ suc p
    → map (amount_of_place (set xs p x)) ps ≡ set (map (amount_of_place xs) ps) k x
replaced_is_set xs x ps k p h l e =
    let f = amount_of_place (set xs p x) in
    let g = amount_of_place xs in
    let size = length-map ps f in
    let same : length (set (map g ps) k x) ≡ length ps = length-set (map g ps) k x ∙ length-map ps g in
    let inside : p < length xs = omega (arith, h.inside k 0 l) in
    ext_get_or zero_amount _ _ (size ∙ sym same) (λ i li.
    let there : i < length ps = omega (arith, size) in
    get_or-map f ps i 0 zero_amount there ∙ elim (cases_eq i k) [
      | inl z ↦
          ap f (ap (λ j. get_or ps j 0) z ∙ e)
          ∙ get_or-set_same xs p x zero_amount inside
          ∙ sym (get_or-set_at (map g ps) k i x zero_amount z (omega (arith, length-map ps g)))
      | inr d ↦
          grind (arith, common_steps)
          ∙ sym (get_or-set_other (map g ps) k i x zero_amount d ∙ get_or-map g ps i 0 zero_amount there)
    ])

-- pairs without a place carry nothing
pub none_placed : (xs : List Amount) (ps : List ℕ) (n : ℕ) → ps ≡ replicate n 0
    → map (amount_of_place xs) ps ≡ replicate n zero_amount
none_placed xs ps n e =
    let size : length (map (amount_of_place xs) (replicate n 0)) ≡ n = length-map (replicate n 0) (amount_of_place xs)
    ∙ length-replicate n 0 in
    let inside : (i : ℕ) → i < length (map (amount_of_place xs) (replicate n 0)) → i < n = λ i l. omega (arith, size) in
    ap (map (amount_of_place xs)) e
    ∙ ext_get_or zero_amount _ _ (size ∙ sym (length-replicate n zero_amount)) (λ i l.
    get_or-map (amount_of_place xs) (replicate n 0) i 0 zero_amount
    (let m = length-replicate {A = ℕ} n 0 in omega (arith, m, inside i l))
    ∙ ap (amount_of_place xs) (get_or-replicate n i 0 0 (inside i l))
    ∙ sym (get_or-replicate n i zero_amount zero_amount (inside i l)))

-- the amounts that are kept of a few pairs, once a pair that had none gets one
pub few_set : {Kept : Type 0} (items : Kept → List ℕ) (o : Option Kept) (v : Kept) (xs ys zs : List Amount)
    (x : Amount) (k n : ℕ)
    → o ≡ Some v → All (λ p. p ≤ length xs) (items v) → ys ≡ xs ++ x ∷ [] → n ≡ length ys → carried_by items o xs ≡ zs
    → map (amount_of_place ys) (set (items v) k n) ≡ set zs k x
few_set {Kept = Kept} items o v xs ys zs x k n e h f g is = grind
    (arith, common_steps, length-append, map-set, same_map, get_or-append_seam)

-- the amounts that are kept of a few pairs, once a pair that had one gets another
pub few_replaced : {Kept : Type 0} (items : Kept → List ℕ) (o : Option Kept) (v : Kept) (xs zs : List Amount)
    (x : Amount) (k p : ℕ)
    → o ≡ Some v → ArePlaces (items v) (length xs) → k < length (items v) → get_or (items v) k 0 ≡ suc p
    → carried_by items o xs ≡ zs
    → map (amount_of_place (set xs p x)) (items v) ≡ set zs k x
few_replaced {Kept = Kept} items o v xs zs x k p e h l at is = grind (arith, common_steps, replaced_is_set)

-- as many pairs as are kept
pub few_size : {Kept : Type 0} (items : Kept → List ℕ) (o : Option Kept) (v : Kept) (xs zs : List Amount)
    → o ≡ Some v → carried_by items o xs ≡ zs → length (items v) ≡ length zs
few_size {Kept = Kept} items o v xs zs e is = grind (arith, common_steps)

pub all_set : {Kept : Type 0} {X : Type 0} (parts : X → Amount) (items : Kept → List ℕ) (o : Option Kept)
    (xs : List X) (zs : List Amount) (x : X) (k : ℕ)
    → o ≡ None → carried_by items o (map parts xs) ≡ zs → carried_by items o (map parts (set xs k x)) ≡ set zs k
    (parts x)
all_set parts items o xs zs x k e is = grind (arith, common_steps, map-set)
