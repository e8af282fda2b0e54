-- Whether a node is early.
use Rattle.fixed_worth.proofs.Common.{◌≡◌, ℕ, suc, ◌+◌, ◌/◌, ◌%◌, ◌<◌, ◌≤◌, Bool, true, false, ◌&&◌, ◌==◌, nat_lt, List}
use Rattle.fixed_worth.proofs.Common.{[], ◌∷◌, length, get_or, list_any, inl, inr, refl, sym, ap, ap₂, ◌∙◌, arith}
use Rattle.fixed_worth.proofs.Common.{or_cases, cases_lt, eq-eqb, eqb-true, lt-ltb, le-ltb, list_any_at}
use Rattle.prec_file.specs.Rests.{above_of, from_at, first_of, IsRests, RestsView}
use Rattle.prec_file.proofs.Finding.{above_at, above_has}
use Rattle.expanded_mine.specs.Prelude.{is_early}

-- where a block has a pair
some_listed : (b : ℕ) (ps : List (ℕ × ℕ)) → list_any (λ q. q.0 == b) ps ≡ true → (k : ℕ) × (k < length ps)
    × (from_at ps k ≡ b)
some_listed b [] h = absurd cc
some_listed b (q ∷ ps) h = elim (or_cases (q.0 == b) (list_any (λ p. p.0 == b) ps) h) [
  | inl e ↦ (0, omega arith, eqb-true q.0 b e)
  | inr e ↦ let x = some_listed b ps e in (suc x.0, (let l = x.1 in omega (arith, l)), x.2)
]

-- a block that has pairs has one that is listed
pub some_above : (w : RestsView) → IsRests w → (b : ℕ) (xs : List ℕ) → xs ≡ above_of w.pairs b → 0 < length xs
    → list_any (λ q. q.0 == b) w.pairs ≡ true
some_above w h b xs e l =
    let x = above_at w.pairs h.rising b 0 (omega (arith, l, ap length e)) in
    let k = first_of w.pairs b + 0 in
    list_any_at (λ q. q.0 == b) w.pairs k (0, 0) x.0
    (eq-eqb (get_or w.pairs k (0, 0)).0 b (ap (λ (p : ℕ × ℕ). p.0) x.1))

pub none_above : (w : RestsView) (b : ℕ) (xs : List ℕ) → xs ≡ above_of w.pairs b → length xs ≡ 0
    → list_any (λ q. q.0 == b) w.pairs ≡ false
none_above w b xs e l = by_test (list_any (λ q. q.0 == b) w.pairs) refl
  where
    by_test : (t : Bool) → list_any (λ q. q.0 == b) w.pairs ≡ t → t ≡ false
    by_test false h = refl
    by_test true h =
        let c = some_listed b w.pairs h in
        let x = above_has w.pairs b c.0 c.1 c.2 in
        absurd (omega (arith, x.0, l, ap length e))

pub early_is : (w : RestsView) → IsRests w → (n lag i : ℕ) (xs : List ℕ) → xs ≡ above_of w.pairs (i % n) → i / n < lag
    → nat_lt 0 (length xs) ≡ is_early n lag w.pairs i
early_is w h n lag i xs e low = elim (cases_lt 0 (length xs)) [
  | inl l ↦ lt-ltb 0 (length xs) l
      ∙ sym (ap₂ (λ (x y : Bool). x && y) (lt-ltb (i / n) lag low) (some_above w h (i % n) xs e l))
  | inr z ↦ le-ltb 0 (length xs) z
      ∙ sym (ap₂ (λ (x y : Bool). x && y) (lt-ltb (i / n) lag low) (none_above w (i % n) xs e (omega (arith, z))))
]

pub late_is : (n lag i : ℕ) (waits : List (ℕ × ℕ)) → lag ≤ i / n → false ≡ is_early n lag waits i
late_is n lag i waits late = sym (ap (λ (x : Bool). x && list_any (λ q. q.0 == i % n) waits) (le-ltb (i / n) lag late))
