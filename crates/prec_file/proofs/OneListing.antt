-- Pairs in order are determined by what they contain.
use Rattle.fixed_worth.proofs.Common.{◌≡◌, ℕ, suc, ◌⊎◌, inl, inr, List, [], ◌∷◌, refl, sym, ap, subst, ◌∙◌, arith}
use Rattle.fixed_worth.proofs.Common.{Contains, get_or_default, common_steps}
use Rattle.prec_file.specs.Rests.{Before, IsRising, ArePairsOf}

no_way_back : (x y : ℕ × ℕ) → Before x y → Before y x → ⊥
no_way_back x y h k = grind (arith, common_steps)

head_before : (p : ℕ × ℕ) (ps : List (ℕ × ℕ)) (x : ℕ × ℕ) → IsRising (p ∷ ps) → Contains ps x → Before p x
head_before p ps x r c =
    let e = get_or_default ps c.0 (0, 0) x c.1 ∙ c.2 in
    subst (λ y. Before p y) e (r.rises 0 (suc c.0) (omega arith) (omega (arith, c.1)))

rest_rises : (p : ℕ × ℕ) (ps : List (ℕ × ℕ)) → IsRising (p ∷ ps) → IsRising ps
rest_rises p ps r = record { rises = λ i j h l. r.rises (suc i) (suc j) (omega arith) (omega arith) }

first : (p : ℕ × ℕ) (ps : List (ℕ × ℕ)) → Contains (p ∷ ps) p
first p ps = (0, omega arith, refl)

pub tail_holds : (p : ℕ × ℕ) (ps : List (ℕ × ℕ)) (x : ℕ × ℕ) → Contains ps x → Contains (p ∷ ps) x
tail_holds p ps x c = (suc c.0, omega (arith, c.1), c.2)

first_or_later : (p : ℕ × ℕ) (ps : List (ℕ × ℕ)) (x : ℕ × ℕ) → Contains (p ∷ ps) x → (p ≡ x) ⊎ Contains ps x
first_or_later p ps x h = grind (arith, common_steps)

same_first : (p q : ℕ × ℕ) (ps qs : List (ℕ × ℕ)) → IsRising (p ∷ ps) → IsRising (q ∷ qs) → Contains (q ∷ qs) p
    → Contains (p ∷ ps) q → p ≡ q
same_first p q ps qs r s f g = elim (first_or_later q qs p f) [
  | inl e ↦ sym e
  | inr a ↦ elim (first_or_later p ps q g)
      [ inl e ↦ e | inr b ↦ absurd (no_way_back p q (head_before p ps q r b) (head_before q qs p s a)) ]
]

among_later : (p q : ℕ × ℕ) (ps qs : List (ℕ × ℕ)) (x : ℕ × ℕ) → p ≡ q → IsRising (p ∷ ps) → Contains ps x
    → Contains (q ∷ qs) x → Contains qs x
among_later p q ps qs x e r c f = grind (arith, common_steps, first_or_later, head_before, no_way_back)

one_order : (ps qs : List (ℕ × ℕ)) → IsRising ps → IsRising qs → ((x : ℕ × ℕ) → Contains ps x → Contains qs x)
    → ((x : ℕ × ℕ) → Contains qs x → Contains ps x) → ps ≡ qs
one_order [] [] r s f g = refl
one_order [] (q ∷ qs) r s f g = let c = g q (first q qs) in absurd (omega (arith, c.1))
one_order (p ∷ ps) [] r s f g = let c = f p (first p ps) in absurd (omega (arith, c.1))
one_order (p ∷ ps) (q ∷ qs) r s f g =
    let e = same_first p q ps qs r s (f p (first p ps)) (g q (first q qs)) in
    let rest = one_order ps qs (rest_rises p ps r) (rest_rises q qs s)
    (λ x c. among_later p q ps qs x e r c (f x (tail_holds p ps x c)))
    (λ x c. among_later q p qs ps x (sym e) s c (g x (tail_holds q qs x c))) in
    ap (λ x. x ∷ ps) e ∙ ap (λ l. q ∷ l) rest

-- The pairs that are listed are one list.
pub one_listing : (listed ps qs : List (ℕ × ℕ)) → ArePairsOf listed ps → ArePairsOf listed qs → ps ≡ qs
one_listing listed ps qs a b =
    one_order ps qs a.rising b.rising
    (λ x c. let o = a.only x c in b.held x o.0 o.1)
    (λ x c. let o = b.only x c in a.held x o.0 o.1)
