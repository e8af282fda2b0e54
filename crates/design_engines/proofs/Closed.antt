-- No pair leads out exactly where the set is a pit.
use Rattle.fixed_worth.proofs.Common.{◌≡◌, ◌↔◌, ℕ, Bool, true, false, cond, not, ◌&&◌, List, [], ◌∷◌, length, get_or}
use Rattle.fixed_worth.proofs.Common.{refl, ap, ◌∙◌, arith, All, filter, All-nil, All-cons, All-head, All-tail}
use Rattle.fixed_worth.proofs.Common.{All-contains, Contains-get_or}
use Rattle.closure_net.specs.Mine.{IsPit}
use Rattle.design_value.specs.OpenPairs.{leads_out, open_pairs}
use Rattle.mine_inputs.specs.Prelude.{ArePairsBy, MineTexts, rests_of, mine_of}

-- ---- a list of which no element passes a test

first_fails : {X : Type 0} (t : X → Bool) (x : X) (rest : List X) (b : Bool) → t x ≡ b
    → length (cond b (x ∷ rest) rest) ≡ 0 → (t x ≡ false) × (length rest ≡ 0)
first_fails t x rest true e l = absurd (omega (arith, l))
first_fails t x rest false e l = (e, l)

none_pass : {X : Type 0} (t : X → Bool) (xs : List X) → length (filter t xs) ≡ 0 → All (λ x. t x ≡ false) xs
none_pass t [] h = All-nil (λ x. t x ≡ false)
none_pass t (x ∷ xs) h = let first = first_fails t x (filter t xs) (t x) refl h in All-cons (λ y. t y ≡ false) x xs
    first.0 (none_pass t xs first.1)

all_fail : {X : Type 0} (t : X → Bool) (xs : List X) → All (λ x. t x ≡ false) xs → filter t xs ≡ []
all_fail t [] h = refl
all_fail t (x ∷ xs) h = rw (All-head (λ y. t y ≡ false) x xs h) (all_fail t xs (All-tail (λ y. t y ≡ false) x xs h))

-- ---- pairs

leads_not : (a b : Bool) → (a ≡ true → b ≡ true) → (a && not b) ≡ false
leads_not false b h = refl
leads_not true b h = rw (h refl) refl

follows : (a b : Bool) → (a && not b) ≡ false → a ≡ true → b ≡ true
follows true true h e = refl
follows a b h e = cc

pub closed_where : (texts : MineTexts) (n : ℕ) (pairs : List (ℕ × ℕ)) (e : ℕ → Bool) (leading : ℕ)
    → ArePairsBy (rests_of texts) pairs → leading ≡ length (open_pairs e pairs)
    → (leading ≡ 0) ↔ IsPit (mine_of n texts) e
closed_where texts n pairs e leading are is = (
  λ none b p rests held.
      let c = (are.same b p).1 rests in
      let l : length (open_pairs e pairs) ≡ 0 = omega (arith, is, none) in
      follows (e b) (e p) (All-contains (λ q. leads_out e q ≡ false) pairs (b, p) (none_pass (leads_out e) pairs l) c)
      held,
  λ pit.
      let fail : All (λ q. leads_out e q ≡ false) pairs =
      λ k d l.
      let q = get_or pairs k d in
      leads_not (e q.0) (e q.1) (λ held. pit q.0 q.1 ((are.same q.0 q.1).0 (Contains-get_or pairs k d l)) held)
      in
      is ∙ ap length (all_fail (leads_out e) pairs fail),
)
