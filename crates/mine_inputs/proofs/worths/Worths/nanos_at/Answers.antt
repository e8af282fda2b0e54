use Rattle.fixed_worth.proofs.Common.{◌≡◌, pos, ◌*ℤ◌, ◌+◌, ◌<◌, length, ℤ, ℕ, List, [], ◌∷◌, ◌++◌, map, take, get_or}
use Rattle.fixed_worth.proofs.Common.{ap, sym, ◌∙◌, arith, rules, w128, to_z-of_z, take_more, map_push}
use Rattle.std.specs.Int.{w64}
use Rattle.mine_inputs.proofs.worths.Worths.nanos_at.Goals as goal

next : (f : ℤ → ℤ) (xs : List ℤ) (i : ℕ) (ys zs : List ℤ) (y : ℤ) → i < length xs → ys ≡ map f (take i xs)
    → zs ≡ ys ++ y ∷ [] → y ≡ f (get_or xs i (pos 0)) → zs ≡ map f (take (i + 1) xs)
next f xs i ys zs y h so is e =
    is ∙ ap (λ l. l ++ y ∷ []) so ∙ ap (λ v. map f (take i xs) ++ v ∷ []) e
    ∙ sym (ap (map f) (take_more xs i (pos 0) h) ∙ map_push f (take i xs) (get_or xs i (pos 0)))

pub loop-b-preserved : goal.loop-b-preserved
loop-b-preserved g c =
    next (λ x. pos 1000 *ℤ x) c.in-Values.upit.values c.loop-b.b c.loop-b.nanos.items _ _
    (omega arith) c.loop-b.invariant c.in_ok-push-in-Values.ensures.items
    (to_z-of_z w128 _ (search rules)
    ∙ ap (λ v. pos 1000 *ℤ v) (to_z-of_z w128 _ (search rules) ∙ c.from.ensures ∙ to_z-of_z w64 _ (search rules)
    ∙ c.get.ensures.value ∙ c.value.ensures))
