-- Ascending lists, and what a binary search among one finds.
use Rattle.fixed_worth.proofs.Common.{◌≡◌, ℕ, zero, suc, ◌+◌, ◌-◌, ◌<◌, ◌≤◌, false, List, ◌∷◌, length, get_or, take}
use Rattle.fixed_worth.proofs.Common.{drop, slice_range, arith, inl, inr, Result, Ok, Err, MatchResult, subst, sym, ap}
use Rattle.fixed_worth.proofs.Common.{◌∙◌, IsBinarySearchResult, nat_cmp, is_ok, cases_eq, cases_lt, cases_Bool}
use Rattle.fixed_worth.proofs.Common.{searched, common_steps}
use Rattle.prec_file.proofs.Parts.{length-part, get_or-part}
use Rattle.closure_net.specs.Prelude.{IsAscending, holds_of, StandsFrom, StandsBelow}
use Rattle.closure_net.proofs.Holding.{holds_at, place_of}

-- each place from 1 up to m is above the one before it
abbrev pub StepsRise : List ℕ → ℕ → Type 0
StepsRise xs m = (k : ℕ) → 0 < k → k < m → get_or xs (k - 1) 0 < get_or xs k 0

rise_to : (xs : List ℕ) (m : ℕ) → StepsRise xs m → (i j : ℕ) → i < j → j < m → get_or xs i 0 < get_or xs j 0
rise_to xs m h i zero l k = absurd (omega arith)
rise_to xs m h i (suc j) l k =
    let s : get_or xs j 0 < get_or xs (suc j) 0 = let e : suc j - 1 ≡ j = omega arith in let P : ℕ
    → Type 0 = λ (q : ℕ). get_or xs q 0 < get_or xs (suc j) 0 in subst P e (h (suc j) (omega arith) k) in
    elim (cases_eq i j) [
      | inl e ↦ let P : ℕ → Type 0 = λ (q : ℕ). get_or xs q 0 < get_or xs (suc j) 0 in subst P (sym e) s
      | inr ne ↦ let r = rise_to xs m h i j (omega arith) (omega arith) in omega (arith, r, s)
    ]

pub steps_ascend : (xs : List ℕ) → StepsRise xs (length xs) → IsAscending xs
steps_ascend xs h i j l k = rise_to xs (length xs) h i j l k

not_falling : (xs : List ℕ) → IsAscending xs → (i j : ℕ) → i ≤ j → j < length xs → get_or xs i 0 ≤ get_or xs j 0
not_falling xs a i j h l = elim (cases_eq i j) [
  | inl e ↦ let P : ℕ → Type 0 = λ k. get_or xs i 0 ≤ get_or xs k 0 in subst P e (omega arith)
  | inr d ↦ omega (arith, a i j (omega arith) l)
]

-- blocks lie at least as far apart as their places
pub apart_by_places : (xs : List ℕ) → IsAscending xs → (i k : ℕ) → i + k < length xs
    → get_or xs i 0 + k ≤ get_or xs (i + k) 0
apart_by_places xs a i zero l = let e : i + zero ≡ i = omega arith in let P : ℕ
    → Type 0 = λ q. get_or xs i 0 + zero ≤ get_or xs q 0 in subst P (sym e) (omega arith)
apart_by_places xs a i (suc k) l = grind (arith, common_steps, (apart_by_places xs a i k (omega arith)))

-- an ascending list without its first ascends
pub tail_ascends : (x : ℕ) (xs : List ℕ) → IsAscending (x ∷ xs) → IsAscending xs
tail_ascends x xs h i j l k = h (suc i) (suc j) (omega (arith, l)) (omega (arith, k))

-- a part of an ascending list ascends
part_ascends : (xs : List ℕ) (i k : ℕ) → IsAscending xs → i + k ≤ length xs → IsAscending (take k (drop i xs))
part_ascends xs i k a h p q l m =
    let e : length (take k (drop i xs)) ≡ k = length-part xs i k h in
    let m' : q < k = omega (arith, e, m) in
    let f = get_or-part xs i k p (omega arith) in
    let g = get_or-part xs i k q m' in
    let s = a (i + p) (i + q) (omega arith) (omega arith) in
    omega (arith, f, g, s)

-- what a binary search in a part of an ascending list says of the whole, where nothing else can hold the block
pub found_in_part : (xs : List ℕ) (x from to : ℕ) (r : Result ℕ ℕ) → IsAscending xs → from ≤ to → to ≤ length xs
    → StandsFrom xs x from → StandsBelow xs x from to
    → IsBinarySearchResult (λ y. nat_cmp y x) (slice_range xs from to) r
    → MatchResult r (λ i. (from + i < length xs) × (get_or xs (from + i) 0 ≡ x)) (λ _. holds_of xs x ≡ false)
found_in_part xs x from to (Ok i) a h l low high b = grind (
  arith,
  common_steps,
  (to - from),
  (length-part xs from (to - from) (omega arith)),
  (searched (take (to - from) (drop from xs)) x (Ok i) b
      (not_falling (take (to - from) (drop from xs)) (part_ascends xs from (to - from) a (omega arith)))),
  (not_falling (take (to - from) (drop from xs)) (part_ascends xs from (to - from) a (omega arith))),
  (part_ascends xs from (to - from) a (omega arith)),
)
found_in_part xs x from to (Err i) a h l low high b =
    let k = to - from in
    let c : from + k ≤ length xs = omega arith in
    let e : length (take k (drop from xs)) ≡ k = length-part xs from k c in
    let s = searched (take k (drop from xs)) x (Err i) b
    (not_falling (take k (drop from xs)) (part_ascends xs from k a c)) in
    elim (cases_Bool (holds_of xs x)) [
      | inl t ↦
          let p = place_of xs x t in
          let f = low p.0 p.1 p.2 in
          let g = high p.0 p.1 f p.2 in
          let j = p.0 - from in
          let j' : j < k = omega arith in
          let w : from + j ≡ p.0 = omega arith in
          let v : get_or (take k (drop from xs)) j 0 ≡ x = get_or-part xs from k j j' ∙ ap (λ q. get_or xs q 0) w
          ∙ p.2 in
          elim (cases_lt j i) [
            | inl u ↦ absurd (omega (arith, s.1 j u, v))
            | inr u ↦ absurd
                (omega (arith, s.2 j u (omega (arith, e, j')), v))
          ]
      | inr f ↦ f
    ]

-- a binary search finds what the list holds, and nothing else
pub found_is_held : (xs : List ℕ) (x : ℕ) (r : Result ℕ ℕ) → IsAscending xs
    → IsBinarySearchResult (λ y. nat_cmp y x) xs r → is_ok r ≡ holds_of xs x
found_is_held xs x (Ok i) a h = grind (
  arith,
  common_steps,
  (searched xs x (Ok i) h (not_falling xs a)),
  (not_falling xs a),
  (holds_at xs i (searched xs x (Ok i) h (not_falling xs a)).0),
)
found_is_held xs x (Err i) a h =
    let s = searched xs x (Err i) h (not_falling xs a) in
    elim (cases_Bool (holds_of xs x)) [
      | inl t ↦ let p = place_of xs x t in
          elim (cases_lt p.0 i) [
            | inl b ↦ absurd (omega (arith, s.1 p.0 b, p.2))
            | inr b ↦ absurd
                (omega (arith, s.2 p.0 b p.1, p.2))
          ]
      | inr f ↦ sym f
    ]
