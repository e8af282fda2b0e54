-- Passes over the blocks beside one, and what they add to what is found.
use Rattle.fixed_worth.proofs.Common.{◌≡◌, ℕ, ◌+◌, ◌<◌, ◌==◌, List, length, get_or, sym, subst, arith, get_or-map}
use Rattle.fixed_worth.proofs.Common.{length-map, common_steps}
use Rattle.prec_file.specs.Rests.{from_at, to_at, RestsView, IsRests, numbers, above_of, below_of}
use Rattle.prec_file.proofs.Passing.{passing_at}
use Rattle.closure_net.specs.Searches.{list_with, PassedPlaces}

-- a place that does not count
pub passed_skip : (W : ℕ → Type 0) (g : ℕ → ℕ) (old cur : List ℕ) (i : ℕ) → PassedPlaces W g old cur i → ¬ (W i)
    → PassedPlaces W g old cur (i + 1)
passed_skip W g old cur i h n = grind (arith, common_steps)

-- a place that counts
pub passed_add : (W : ℕ → Type 0) (g : ℕ → ℕ) (old cur new : List ℕ) (i y : ℕ) → PassedPlaces W g old cur i → W i
    → g i ≡ y → new ≡ list_with cur y → PassedPlaces W g old new (i + 1)
passed_add W g old cur new i y h w q e = grind (arith, common_steps)

-- the blocks above b are known, and so are the pairs below it
pub above_known : (v : RestsView) (b i : ℕ) (ts : List ℕ) → IsRests v → ts ≡ above_of v.pairs b → i < length ts
    → get_or ts i 0 < v.blocks
above_known v b i ts h e l =
    let ks = numbers (from_at v.pairs) b (length v.pairs) in
    let P : List ℕ → Type 0 = λ xs. (i < length xs) → get_or xs i 0 < v.blocks in
    subst P (sym e) (λ r.
    let inside : i < length ks = omega (arith, length-map ks (to_at v.pairs)) in
    let p = passing_at (λ j. from_at v.pairs j == b) (length v.pairs) i inside in
    let known = h.known (get_or ks i 0) (0, 0) p.below in
    let at = get_or-map (to_at v.pairs) ks i 0 0 inside in
    omega (arith, known.1, at)) l

pub below_known : (v : RestsView) (b i : ℕ) (ks : List ℕ) → ks ≡ below_of v.pairs b → i < length ks
    → get_or ks i 0 < length v.pairs
below_known v b i ks e l = grind (arith, common_steps, passing_at)

-- places that are passed with a list are so with any list that equals it
pub passed_same : (W : ℕ → Type 0) (g : ℕ → ℕ) (old cur new : List ℕ) (i : ℕ) → new ≡ cur → PassedPlaces W g old cur i
    → PassedPlaces W g old new i
passed_same W g old cur new i e h = let P : List ℕ → Type 0 = λ xs. PassedPlaces W g old xs i in subst P (sym e) h
