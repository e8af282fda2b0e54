-- The number of blocks of an ascending list.
use Rattle.fixed_worth.proofs.Common.{◌≡◌, ℕ, zero, suc, ◌+◌, ◌<◌, ◌≤◌, Bool, false, cond, ◌||◌, ◌==◌, List, [], ◌∷◌}
use Rattle.fixed_worth.proofs.Common.{length, get_or, refl, ap, ◌∙◌, arith, inl, inr, All, cases_eq, ne_eqb}
use Rattle.fixed_worth.proofs.Common.{list_any_none, get_or_default, common_steps}
use Rattle.ordered_group.specs.Sets.{count_in}
use Rattle.ordered_group.proofs.BlockSets.{count_in-most}
use Rattle.closure_net.specs.Network.{IsAscending, holds_of}
use Rattle.closure_net.proofs.Ascending.{tail_ascends}

-- the set with one block more
with_block : ℕ → (ℕ → Bool) → ℕ → Bool
with_block x e b = (x == b) || e b

count_apart : (x : ℕ) (e : ℕ → Bool) (n : ℕ) → n ≤ x → count_in (with_block x e) n ≡ count_in e n
unfolding with_block
count_apart x e zero h = refl
count_apart x e (suc n) h = rw (count_apart x e n (omega (arith, h)), ne_eqb x n (λ k. omega (arith, h, k))) refl

one_more : (x n : ℕ) (e : ℕ → Bool) (t : Bool) (k : ℕ) → x ≡ n → e x ≡ false → count_in (with_block x e) n ≡ k
    → count_in e n ≡ k → e n ≡ t → count_in (with_block x e) n + cond (with_block x e n) 1 0 ≡ suc
    (count_in e n + cond (e n) 1 0)
unfolding with_block
one_more x n e t k h off p q s = grind (arith, common_steps)

one_later : (x n : ℕ) (e : ℕ → Bool) → (x ≡ n → ⊥) → count_in (with_block x e) n ≡ suc (count_in e n)
    → count_in (with_block x e) n + cond (with_block x e n) 1 0 ≡ suc (count_in e n + cond (e n) 1 0)
unfolding with_block
one_later x n e h p = rw (ne_eqb x n h, p) (omega arith)

count_with : (x : ℕ) (e : ℕ → Bool) (n : ℕ) → x < n → e x ≡ false → count_in (with_block x e) n ≡ suc (count_in e n)
count_with x e zero h off = absurd (omega (arith, h))
count_with x e (suc n) h off =
    elim (cases_eq x n) [
      | inl q ↦ one_more x n e (e n) (count_in e n) q off (count_apart x e n (omega (arith, q))) refl refl
      | inr ne ↦ one_later x n e ne (count_with x e n (omega (arith, h)) off)
    ]

count_none : (n : ℕ) → count_in (λ b. false) n ≡ 0
count_none zero = refl
count_none (suc n) = rw (count_none n) refl

above_first : (xs : List ℕ) (k d x : ℕ) → k < length xs → x < get_or xs k 0 → get_or xs k d ≡ x → ⊥
above_first xs k d x l a e = let z = get_or_default xs k d 0 l in omega (arith, a, e, z)

not_first : (x : ℕ) (xs : List ℕ) → IsAscending (x ∷ xs) → holds_of xs x ≡ false
not_first x xs h =
    list_any_none (λ y. y == x) xs
    (λ k d l. let a = h 0 (suc k) (omega arith) (omega (arith, l)) in ne_eqb (get_or xs k d) x
    (λ e. above_first xs k d x l a e))

tail_below : (x : ℕ) (xs : List ℕ) (n : ℕ) → All (λ b. b < n) (x ∷ xs) → All (λ b. b < n) xs
tail_below x xs n h k d l = h (suc k) d (omega (arith, l))

-- an ascending list of blocks below n has as many blocks as its set
pub count_in-ascending : (xs : List ℕ) (n : ℕ) → IsAscending xs → All (λ b. b < n) xs
    → count_in (holds_of xs) n ≡ length xs
unfolding with_block
count_in-ascending [] n h k = count_none n
count_in-ascending (x ∷ xs) n h k =
    count_with x (holds_of xs) n (k 0 0 (omega arith)) (not_first x xs h)
    ∙ ap suc (count_in-ascending xs n (tail_ascends x xs h) (tail_below x xs n k))

-- and at most n
pub ascending_short : (xs : List ℕ) (n : ℕ) → IsAscending xs → All (λ b. b < n) xs → length xs ≤ n
ascending_short xs n h k = omega (arith, count_in-ascending xs n h k, count_in-most (holds_of xs) n)
