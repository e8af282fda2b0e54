-- The pairs of a list of predecessors, block by block.
use Rattle.fixed_worth.proofs.Common.{◌≡◌, ℕ, suc, ◌+◌, ◌<◌, List, [], ◌∷◌, ◌++◌, length, take, get_or, ap, ◌∙◌, subst}
use Rattle.fixed_worth.proofs.Common.{arith, add-one, take_all, take_more, common_steps}
use Rattle.prec_file.specs.Rests.{IsKnown, IsRests, RestsView, from_at, first_of, above_of}
use Rattle.prec_file.proofs.Finding.{above_at, above_length}
use Rattle.prec_file.proofs.Slots.{ending_next, ending_none, ending_all}

-- the pair at this place of block b's
pub next_pair : (v : RestsView) → IsRests v → (b i : ℕ) → i < length (above_of v.pairs b)
    → (first_of v.pairs b + i < length v.pairs)
    × (take (first_of v.pairs b + (i + 1)) v.pairs ≡ take (first_of v.pairs b + i) v.pairs
    ++ (b, get_or (above_of v.pairs b) i 0) ∷ []) × (get_or (above_of v.pairs b) i 0 < v.blocks)
next_pair v r b i l =
    let at = above_at v.pairs r.rising b i l in
    let k = first_of v.pairs b + i in
    let place : first_of v.pairs b + (i + 1) ≡ k + 1 = omega arith in
    let known = r.known k (0, 0) at.0 in
    let P : ℕ × ℕ → Type 0 = λ p. IsKnown v.blocks p in (
      at.0,
      ap (λ (m : ℕ). take m v.pairs) place ∙ take_more v.pairs k (0, 0) at.0
          ∙ ap (λ (p : ℕ × ℕ). take k v.pairs ++ p ∷ []) at.1,
      (subst P at.1 known).1,
    )

pub block_passed : (ps : List (ℕ × ℕ)) (b : ℕ) → first_of ps b + length (above_of ps b) ≡ first_of ps (b + 1)
block_passed ps b =
    let next : first_of ps (b + 1) ≡ first_of ps (suc b) = ap (first_of ps) (add-one b) in
    omega (arith, next, ending_next (from_at ps) b (length ps), above_length ps b)

pub none_passed : (ps : List (ℕ × ℕ)) → first_of ps 0 ≡ 0
none_passed ps = ending_none (from_at ps) (length ps)

pub all_passed : (v : RestsView) → IsRests v → take (first_of v.pairs v.blocks) v.pairs ≡ v.pairs
all_passed v r = grind (arith, common_steps, ending_all, take_all)
