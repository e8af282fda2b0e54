use Rattle.fixed_worth.proofs.Common.{◌<◌, length, refl, ap, arith, ◌≡◌, ◌≢◌, ℕ, List, Option, Some, None, MatchOption}
use Rattle.fixed_worth.proofs.Common.{set, sym, subst, ◌∙◌, common_steps}
use Rattle.slope.specs.Prelude.{SurroundingsView, AreSeen, IsSight, StandsAtOffset, StandsNone, block_place}
use Rattle.slope.specs.Prelude.{offset_between}
use Rattle.slope_offsets.specs.Prelude.{offset_at, Offset}
use Rattle.slope.proofs.surroundings.Surroundings.at.Goals as goal
use Rattle.slope.specs.declared.sight.Sight.{Sight}
use Rattle.slope.specs.declared.sight.Sight.TheVariants as sight

seen_more : (v : SurroundingsView) (keys : List Offset) (blocks : List ℕ) (seen : List Sight) (i : ℕ) (s : Sight)
    → AreSeen v keys blocks seen → i < length v.offsets → IsSight v i s → AreSeen v keys blocks (set seen i s)
seen_more v keys blocks seen i s h l k = grind (arith, common_steps)

-- what was found at the place of an offset stands there
found_stands : (v : SurroundingsView) (i : ℕ) (found : Option ℕ) (o : Offset) → o ≡ offset_at v.offsets i →
    MatchOption found ((p : ℕ) → p < v.model.blocks → offset_between v.up v.from (block_place v.model p) ≢ o)
    (λ p. (p < v.model.blocks) × (offset_between v.up v.from (block_place v.model p) ≡ o)) →
    MatchOption found (StandsNone v i) (StandsAtOffset v i)
found_stands v i None o e h = λ p s. h p s.known (s.there ∙ sym e)
found_stands v i (Some p) o e h = record { known = h.0; there = h.1 ∙ e }

sight_is : (v : SurroundingsView) (i : ℕ) (found : Option ℕ) (s : Sight)
    → MatchOption found (s ≡ sight.Nothing) (λ p. s ≡ sight.Block p)
    → MatchOption found (StandsNone v i) (StandsAtOffset v i) → IsSight v i s
sight_is v i None s e h = subst (IsSight v i) (sym e) h
sight_is v i (Some p) s e h = subst (IsSight v i) (sym e) h

pub invariant_of-self : goal.invariant_of-self
invariant_of-self c =
    let v : SurroundingsView = record {
      model = c.self.inside.model.now;
      patterns = c.self.inside.ground.now.patterns.items;
      by_column =
          c.self.inside.ground.now.by_column;
      offsets = c.self.inside.offsets.now;
      up = c.self.inside.up;
      from =
          c.self.inside.from;
    } in
    let i = c.args.i in
    let l : i < length v.offsets = omega
    (arith, c.requires, ap (λ (x : SurroundingsView). length x.offsets) c.self.view_is) in
    seen_more v _ _ _ i _ c.self.invariant l
    (sight_is v i _ _ c.sight_of.ensures (found_stands v i _ _ refl c.block_at-found.ensures))
