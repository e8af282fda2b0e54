-- The best pit of a mine, from that of a part of it.
use Rattle.fixed_worth.proofs.Common.{◌≡◌, ℕ, zero, suc, ◌+◌, ◌<◌, ◌≤◌, ℤ, pos, ◌+ℤ◌, Bool, true, false, cond, not}
use Rattle.fixed_worth.proofs.Common.{◌&&◌, ◌||◌, refl, ◌∙◌, arith, ints, and_parts, cases_lt, common_steps}
use Rattle.ordered_group.specs.Sets.{worth_in, count_in}
use Rattle.ordered_group.proofs.BlockSets.{count_in-same, count_in-within}
use Rattle.closure_net.specs.Mine.{Mine, IsPit, worth_of, block_count_of, IsBest, LiesWithin, RestsWithin}
use Rattle.closure_net.proofs.BestPits.{best_from_fewest, agree, best_of_same}
use Rattle.sub_mines.specs.Parts.{union_of, intersection_of, difference_of, part, LiesBetween}

-- ---- of best pits

-- of the pits that are worth the same the best has the fewest blocks
pub fewest_of : (mine : Mine) (e c : ℕ → Bool) → IsBest mine e → IsPit mine c → worth_of mine c ≡ worth_of mine e
    → block_count_of mine e ≤ block_count_of mine c
fewest_of mine e c h p same = grind (arith, common_steps, cases_lt, count_in-same)

-- ---- of tests

pub not_beside : (x y : Bool) → (x && not y) ≡ true → y ≡ false
not_beside x y h = grind (arith, common_steps)

-- two tests that can't differ agree

-- ---- sums, block by block

pub worth_lifts : (v : ℕ → ℤ) (low high s : ℕ → Bool) (n : ℕ)
    → worth_in v (union_of low (intersection_of s (difference_of high low))) n ≡ worth_in v low n +ℤ worth_in
    (λ b. cond (difference_of high low b) (v b) (pos 0)) s n
worth_lifts v low high s zero = omega (arith, ints)
worth_lifts v low high s (suc n) = grind (arith, ints, worth_lifts v low high s n, common_steps)

count_term : (low high s : Bool) → cond (low || (s && (high && not low))) 1 0 ≤ cond low 1 0 + cond s 1 0
count_term low high s = grind (arith, common_steps)

pub count_lifts : (low high s : ℕ → Bool) (n : ℕ)
    → count_in (union_of low (intersection_of s (difference_of high low))) n ≤ count_in low n + count_in s n
count_lifts low high s zero = omega arith
count_lifts low high s (suc n) = omega (arith, count_lifts low high s n, count_term (low n) (high n) (s n))

-- a set between the two is the lower one and a set of the part
worth_cut_term : (low high c : Bool) (v : ℤ) → (low ≡ true → c ≡ true) → (c ≡ true → high ≡ true)
    → cond c v (pos 0) ≡ cond low v (pos 0) +ℤ cond (c && not low) (cond (high && not low) v (pos 0)) (pos 0)
worth_cut_term low high c v h k = grind (arith, common_steps)

pub worth_cuts : (v : ℕ → ℤ) (low high c : ℕ → Bool) (n : ℕ) → ((b : ℕ) → b < n → low b ≡ true → c b ≡ true)
    → ((b : ℕ) → b < n → c b ≡ true → high b ≡ true)
    → worth_in v c n ≡ worth_in v low n +ℤ worth_in (λ b. cond (difference_of high low b) (v b) (pos 0))
    (difference_of c low) n
worth_cuts v low high c zero h k = omega (arith, ints)
worth_cuts v low high c (suc n) h k =
    omega (
      arith,
      ints,
      worth_cuts v low high c n (λ b l. h b (omega (arith, l))) (λ b l. k b (omega (arith, l))),
      worth_cut_term (low n) (high n) (c n) (v n) (h n (omega arith)) (k n (omega arith)),
    )

count_cut_term : (low c : Bool) → (low ≡ true → c ≡ true) → cond c 1 0 ≡ cond low 1 0 + cond (c && not low) 1 0
count_cut_term low c h = grind (arith, common_steps)

pub count_cuts : (low c : ℕ → Bool) (n : ℕ) → ((b : ℕ) → b < n → low b ≡ true → c b ≡ true)
    → count_in c n ≡ count_in low n + count_in (difference_of c low) n
count_cuts low c zero h = refl
count_cuts low c (suc n) h = omega
    (arith, count_cuts low c n (λ b l. h b (omega (arith, l))), count_cut_term (low n) (c n) (h n (omega arith)))

-- ---- the part between two pits

module _ (mine : Mine) (low high : ℕ → Bool) (own : RestsWithin mine) (known : LiesBetween mine low high) where
  -- a pit of the part is one of the mine with the lower pit
  pub lift_is_pit : (s : ℕ → Bool) → IsPit (part mine (difference_of high low)) s
      → IsPit mine (union_of low (intersection_of s (difference_of high low)))
  lift_is_pit s h b p r t = grind (arith, common_steps)

  -- and what a pit of the mine has beside the lower one is a pit of the part
  pub cut_is_pit : (c : ℕ → Bool) → IsPit mine c → IsPit (part mine (difference_of high low)) (difference_of c low)
  cut_is_pit c h b p r t = grind (arith, common_steps)

  -- the best pit of the part makes the best pit of the mine
  pub best_lifts : (f : ℕ → Bool) → IsBest (part mine (difference_of high low)) f
      → IsBest mine (union_of low (intersection_of f (difference_of high low)))
  best_lifts f h =
      let n = mine.blocks in
      let sub = part mine (difference_of high low) in
      let whole = worth_lifts mine.worth low high f n in
      let size = count_lifts low high f n in
      best_from_fewest mine (union_of low (intersection_of f (difference_of high low))) (lift_is_pit f h.is_pit)
      (λ d p.
      let x = known.between d p in
      let cut = worth_cuts mine.worth low high x.pit n x.all x.only in
      let most = h.most (difference_of x.pit low) (cut_is_pit x.pit x.is_pit) in
      omega (arith, ints, whole, cut, most, x.as_good.pays))
      (λ d p same.
      let x = known.between d p in
      let q = cut_is_pit x.pit x.is_pit in
      let cut = worth_cuts mine.worth low high x.pit n x.all x.only in
      let most = h.most (difference_of x.pit low) q in
      let as_much : worth_of sub (difference_of x.pit low) ≡ worth_of sub f = omega
      (arith, ints, whole, cut, most, x.as_good.pays, same) in
      let few = fewest_of sub f (difference_of x.pit low) h q as_much in
      let level : worth_of mine x.pit ≡ worth_of mine d = omega (arith, ints, whole, cut, as_much, same) in
      omega (arith, size, few, count_cuts low x.pit n x.all, x.as_good.few level))

  -- the best pit of the mine lies between the two
  pub best_between : (e : ℕ → Bool) → IsBest mine e → LiesWithin mine low e × LiesWithin mine e high
  best_between e h = grind (arith, common_steps, (known.between e h.is_pit))

  -- and what it has beside the lower one is the best pit of the part
  pub best_cuts : (e : ℕ → Bool) → IsBest mine e → IsBest (part mine (difference_of high low)) (difference_of e low)
  best_cuts e h =
      let n = mine.blocks in
      let sub = part mine (difference_of high low) in
      let lies = best_between e h in
      let cut = worth_cuts mine.worth low high e n lies.0 lies.1 in
      let size = count_cuts low e n lies.0 in
      best_from_fewest sub (difference_of e low) (cut_is_pit e h.is_pit)
      (λ s p.
      let whole = worth_lifts mine.worth low high s n in
      let most = h.most (union_of low (intersection_of s (difference_of high low))) (lift_is_pit s p) in
      omega (arith, ints, whole, cut, most))
      (λ s p same.
      let whole = worth_lifts mine.worth low high s n in
      let level : worth_of mine (union_of low (intersection_of s (difference_of high low))) ≡ worth_of mine e = omega
      (arith, ints, whole, cut, same) in
      let few = fewest_of mine e (union_of low (intersection_of s (difference_of high low))) h (lift_is_pit s p)
      level in
      omega (arith, few, size, count_lifts low high s n))

-- ---- the blocks that aren't in the part

trim_term : (s q : Bool) (v : ℤ) → cond (s && q) (cond q v (pos 0)) (pos 0) ≡ cond s (cond q v (pos 0)) (pos 0)
trim_term s q v = grind (arith, common_steps)

trimmed : (v : ℕ → ℤ) (s q : ℕ → Bool) (n : ℕ) → worth_in (λ b. cond (q b) (v b) (pos 0)) (intersection_of s q) n
    ≡ worth_in (λ b. cond (q b) (v b) (pos 0)) s n
trimmed v s q zero = refl
trimmed v s q (suc n) = rw (trimmed v s q n, trim_term (s n) (q n) (v n)) refl

-- a pit of a part has a pit of it in the part alone
trim_is_pit : (mine : Mine) (q s : ℕ → Bool) → IsPit (part mine q) s → IsPit (part mine q) (intersection_of s q)
trim_is_pit mine q s h b p r t = grind (arith, common_steps)

-- so the best one has no other blocks
pub best_inside : (mine : Mine) (q f : ℕ → Bool) → IsBest (part mine q) f → LiesWithin mine f q
best_inside mine q f h b l t =
    agree (q b) true (λ differ.
    let more = h.fewest (intersection_of f q) (trim_is_pit mine q f h.is_pit)
    (λ s. differ ((and_parts (f b) (q b) (s b l ∙ t)).1)) (trimmed mine.worth f q mine.blocks) in
    let few = (count_in-within (intersection_of f q) f mine.blocks (λ c k i. (and_parts (f c) (q c) i).0)).0 in
    omega (arith, more, few))

inside_same : (low f q : Bool) → (f ≡ true → q ≡ true) → (low || f) ≡ (low || (f && q))
inside_same low f q h = grind (arith, common_steps)

pub best_by_part : (mine : Mine) (low high f : ℕ → Bool) → RestsWithin mine → LiesBetween mine low high
    → IsBest (part mine (difference_of high low)) f → IsBest mine (union_of low f)
best_by_part mine low high f own known h =
    best_of_same mine (union_of low (intersection_of f (difference_of high low))) (union_of low f) own
    (best_lifts mine low high own known f h)
    (λ b l. inside_same (low b) (f b) (difference_of high low b) (best_inside mine (difference_of high low) f h b l))
