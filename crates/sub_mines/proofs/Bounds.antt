-- What bounds the best pit of a mine: a pit known beforehand, and the best pits of mines that are worth less and more.
use Rattle.fixed_worth.proofs.Common.{◌≡◌, ℕ, Bool, true, false, ◌&&◌, ◌||◌, sym, refl, ap, ◌∙◌, arith, zero, suc, ◌+◌}
use Rattle.fixed_worth.proofs.Common.{cond, ints, and_from, or_left, common_steps}
use Rattle.ordered_group.specs.Sets.{worth_in, count_in}
use Rattle.ordered_group.proofs.BlockSets.{worth_in-same, count_in-same, count_in-within, worth_of_two, lead_rises}
use Rattle.closure_net.specs.Mine.{Mine, IsPit, worth_of, block_count_of, AreSame, IsBest, LiesWithin, RisesTo}
use Rattle.closure_net.proofs.BestPits.{union_is_pit, intersection_is_pit, pit_of_later, pit_of_earlier}
use Rattle.ordered_group.proofs.Totals.{within_first, within_second}
use Rattle.sub_mines.specs.Parts.{union_of, intersection_of, no_block, every_block, IsAsGood, LiesBetween, IsFloor}
use Rattle.sub_mines.specs.Parts.{IsCeiling}
use Rattle.sub_mines.proofs.Parts.{fewest_of}

two_counts : (s t : Bool) → cond (s || t) 1 0 + cond (s && t) 1 0 ≡ cond s 1 0 + cond t 1 0
two_counts true true = refl
two_counts true false = refl
two_counts false true = refl
two_counts false false = refl

-- the union and the intersection of two sets have together as many blocks as the two sets
pub count_of_two : (e c : ℕ → Bool) (n : ℕ) → count_in (union_of e c) n + count_in (intersection_of e c) n
    ≡ count_in e n + count_in c n
count_of_two e c zero = refl
count_of_two e c (suc n) = omega (arith, count_of_two e c n, two_counts (e n) (c n))

pub as_good_same : (mine : Mine) (c d : ℕ → Bool) → AreSame mine c d → IsAsGood mine c d
as_good_same mine c d s = grind (arith, common_steps, worth_in-same, count_in-same)

pub as_good_more : (mine : Mine) (c d e : ℕ → Bool) → IsAsGood mine c d → IsAsGood mine d e → IsAsGood mine c e
as_good_more mine c d e x y = grind (arith, common_steps)

-- the best pit is as good as any
pub best_is_as_good : (mine : Mine) (e c : ℕ → Bool) → IsBest mine e → IsPit mine c → IsAsGood mine e c
best_is_as_good mine e c h p = record { pays = h.most c p; few = λ same. fewest_of mine e c h p (sym same) }

-- a pit within another that is as good is that one
same_from_less : (mine : Mine) (c d : ℕ → Bool) → LiesWithin mine c d → IsAsGood mine d c → IsAsGood mine c d
    → AreSame mine c d
same_from_less mine c d within x y = grind (arith, common_steps, count_in-within)

-- ---- the best pit that is known

pub between_by_best : (mine : Mine) (low high c : ℕ → Bool) → IsPit mine low → IsPit mine high → IsBest mine c
    → LiesWithin mine low c → LiesWithin mine c high
    → LiesBetween mine low high
between_by_best mine low high c p q h all only = record {
  low_pit = p;
  high_pit = q;
  nested = λ b l t. only b l (all b l t);
  between = λ d r. record {
    pit = c;
    is_pit = h.is_pit;
    all = all;
    only = only;
    as_good = best_is_as_good mine c d h r;
  };
}

-- ---- a floor and a ceiling

pub between_by_bounds : (mine : Mine) (low high : ℕ → Bool) → IsFloor mine low → IsCeiling mine high
    → LiesBetween mine low high
between_by_bounds mine low high f c =
    let cut = c.within_it low f.is_pit in
    let p = intersection_is_pit mine low high f.is_pit c.is_pit in
    let back : IsAsGood mine low (intersection_of low high) = as_good_more mine low
    (union_of low (intersection_of low high)) (intersection_of low high)
    (as_good_same mine low (union_of low (intersection_of low high)) (λ b l. absorbs (low b) (high b)))
    (f.with_it (intersection_of low high) p) in
    let same = same_from_less mine (intersection_of low high) low (λ b l. within_first low high b) back cut in
    let nested : LiesWithin mine low high = λ b l t. within_second low high b (same b l ∙ t) in
    record {
      low_pit = f.is_pit;
      high_pit = c.is_pit;
      nested = nested;
      between = λ d r.
          let u = union_is_pit mine low d f.is_pit r in
          record {
            pit = intersection_of (union_of low d) high;
            is_pit = intersection_is_pit mine (union_of low d) high u c.is_pit;
            all = λ b l t. and_from (union_of low d b) (high b) (or_left (low b) (d b) t) (nested b l t);
            only = λ b l. within_second (union_of low d) high b;
            as_good = as_good_more mine (intersection_of (union_of low d) high) (union_of low d) d
                (c.within_it (union_of low d) u) (f.with_it d r);
          };
    }
  where
    absorbs : (x y : Bool) → x ≡ (x || (x && y))
    absorbs true y = refl
    absorbs false y = refl

pub none_is_floor : (mine : Mine) → IsFloor mine no_block
none_is_floor mine = record {
  is_pit = λ b p r t. t;
  with_it = λ d p. as_good_same mine (union_of no_block d) d
      (λ b l. refl);
}

pub all_is_ceiling : (mine : Mine) → IsCeiling mine every_block
all_is_ceiling mine = grind (arith, common_steps)

-- ---- the best pits where worths rise

-- over the same number of blocks
later_worth : (mine later : Mine) (e : ℕ → Bool) → RisesTo mine later
    → worth_of later e ≡ worth_in later.worth e mine.blocks
later_worth mine later e r = ap (worth_in later.worth e) r.blocks

later_count : (mine later : Mine) (e : ℕ → Bool) → RisesTo mine later → block_count_of later e ≡ count_in e mine.blocks
later_count mine later e r = ap (count_in e) r.blocks

pub best_is_floor : (mine later : Mine) (e : ℕ → Bool) → RisesTo mine later → IsBest mine e → IsFloor later e
best_is_floor mine later e r h = record {
  is_pit = pit_of_later mine later e r h.is_pit;
  with_it = λ d p.
      let n = mine.blocks in
      let d_pit = pit_of_earlier mine later d r p in
      let i = intersection_is_pit mine e d h.is_pit d_pit in
      let lead = lead_rises mine.worth later.worth (intersection_of e d) e n (λ b l. within_first e d b) r.worths in
      let most = h.most (intersection_of e d) i in
      let sums = worth_of_two later.worth e d n in
      let counts = count_of_two e d n in
      let lu = later_worth mine later (union_of e d) r in
      let ld = later_worth mine later d r in
      record {
        pays = omega (arith, ints, lead, most, sums, lu, ld);
        few = λ same.
            let level : worth_of mine (intersection_of e d) ≡ worth_of mine e = omega
            (arith, ints, lead, most, sums, lu, ld, same) in
            let few = fewest_of mine e (intersection_of e d) h i level in
            omega (arith, few, counts, later_count mine later (union_of e d) r, later_count mine later d r);
      };
}

pub best_is_ceiling : (mine later : Mine) (e : ℕ → Bool) → RisesTo mine later → IsBest later e → IsCeiling mine e
best_is_ceiling mine later e r h = record {
  is_pit = pit_of_earlier mine later e r h.is_pit;
  within_it = λ d p.
      let n = mine.blocks in
      let d_pit = pit_of_later mine later d r p in
      let u = union_is_pit later d e d_pit h.is_pit in
      let lead = lead_rises mine.worth later.worth (intersection_of d e) d n (λ b l. within_first d e b) r.worths in
      let most = h.most (union_of d e) u in
      let sums = worth_of_two later.worth d e n in
      let lu = later_worth mine later (union_of d e) r in
      let le = later_worth mine later e r in
      let few = (count_in-within (intersection_of d e) d n (λ b l. within_first d e b)).0 in
      record { pays = omega (arith, ints, lead, most, sums, lu, le); few = λ same. few };
}
