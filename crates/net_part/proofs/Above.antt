-- The blocks that a block rests on.
use Rattle.fixed_worth.proofs.Common.{◌≡◌, ℕ, ◌<◌, List, All, IfSome, Option, Some, None, length, get_or, subst, arith}
use Rattle.fixed_worth.proofs.Common.{get_or_default}
use Rattle.prec_file.specs.Rests.{RestsView, IsRests, above_of}
use Rattle.closure_net.proofs.Spreads.{above_known}

-- they are known
pub above_all : (v : RestsView) (b : ℕ) (ts : List ℕ) → IsRests v → ts ≡ above_of v.pairs b → All (λ p. p < v.blocks) ts
above_all v b ts h e k d l = let P : ℕ → Type 0 = λ x. x < v.blocks in subst P (get_or_default ts k 0 d l)
    (above_known v b k ts h e l)

-- one of known blocks is known
pub some_known : (ts : List ℕ) (place n : ℕ) (found : Option ℕ) → All (λ p. p < n) ts
    → IfSome found (λ b. (place < length ts) × (b ≡ get_or ts place 0)) → IfSome found (λ b. b < n)
some_known ts place n None known h = tt
some_known ts place n (Some b) known h = omega (arith, known place 0 h.0, h.1)
