-- The laws, one of another.
use Rattle.fixed_worth.proofs.Common.{◌≡◌, ℕ, Bool, true, ◌&&◌, sym, subst, arith, common_steps}
use Rattle.closure_net.specs.Mine.{Mine, IsBest}
use Rattle.sub_mines.specs.Prelude.{difference_of, no_block, every_block, part, PartOfBest, BestWithin, BestOfRest}
use Rattle.sub_mines.specs.Prelude.{BestBetween, BestBySmallMine}
use Rattle.sub_mines.proofs.Parts.{best_by_part, best_between, best_cuts}
use Rattle.sub_mines.proofs.Bounds.{between_by_bounds, best_is_floor, best_is_ceiling}
use Rattle.sub_mines.proofs.Renumbering.{best_image}

pub part_of_best : PartOfBest
part_of_best mine low high e own known h = grind
    (arith, common_steps, (best_between mine low high own known e h), (best_cuts mine low high own known e h))

-- a set without no block is that set
nothing_less : (x : Bool) → (x && true) ≡ x
nothing_less x = grind (arith, common_steps)

-- the part of a set, and of that set without no block
same_part : (mine : Mine) (set : ℕ → Bool) → part mine (difference_of set no_block) ≡ part mine set
same_part mine set = λ i. part mine (λ b. nothing_less (set b) i)

pub best_within : BestWithin
best_within mine high e own known = (
  λ h.
      let k = best_cuts mine no_block high own known e h in
      subst (λ m. IsBest m e) (same_part mine high)
      (subst (IsBest (part mine (difference_of high no_block))) (λ i b. nothing_less (e b) i) k),
  λ h. best_by_part mine no_block high e own known (subst (λ m. IsBest m e) (sym (same_part mine high)) h),
)

pub best_of_rest : BestOfRest
best_of_rest mine low f own known h = best_by_part mine low every_block f own known h

pub best_between_best : BestBetween
best_between_best earlier mine later low high f own rises falls e c h = grind (
  arith,
  common_steps,
  (best_by_part mine low high f own
      (between_by_bounds mine low high (best_is_floor earlier mine low rises e)
      (best_is_ceiling mine later high falls c)) h),
  (between_by_bounds mine low high (best_is_floor earlier mine low rises e)
      (best_is_ceiling mine later high falls c)),
  (best_is_floor earlier mine low rises e),
  (best_is_ceiling mine later high falls c),
)

pub best_by_small_mine : BestBySmallMine
best_by_small_mine mine small low high at s t own known listed is im h = grind (
  arith,
  common_steps,
  (best_by_part mine low high t own known
      (best_image mine small (difference_of high low) at own listed is s t im h)),
  (best_image mine small (difference_of high low) at own listed is s t im h),
)
