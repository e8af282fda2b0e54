-- A part is parted by the best pit at one of its factors.
use Rattle.fixed_worth.proofs.Common.{◌≡◌, ℕ, ◌+◌, ◌<◌, ◌≤◌, All, Bool, true, false, ◌&&◌, ◌||◌, not, List, [], length}
use Rattle.fixed_worth.proofs.Common.{map, get_or, refl, sym, subst, ap, ◌∙◌, arith, get_or-map, length-map, ints}
use Rattle.fixed_worth.proofs.Common.{common_steps}
use Rattle.prec_file.specs.Rests.{has_pair, numbers_passing}
use Rattle.closure_net.specs.Prelude.{holds_of, IsAscending, IsBest, RestsWithin}
use Rattle.closure_net.proofs.Holding.{same_tests}
use Rattle.shells.specs.Prelude.{PricesView, priced_count, mine_at}
use Rattle.shells.proofs.Rising.{mines_rise}
use Rattle.shells.proofs.Pushes.{mine_is_own}
use Rattle.sub_mines.specs.Prelude.{union_of, difference_of, every_block, IsListed, IsRenumbered, IsImage, number_in}
use Rattle.sub_mines.specs.Prelude.{IsKept}
use Rattle.sub_mines.proofs.Bounds.{between_by_bounds, best_is_floor, best_is_ceiling, none_is_floor, all_is_ceiling}
use Rattle.sub_mines.proofs.Kept.{listed, list_image, same_rests, passing_is_kept}
use Rattle.sub_mines.proofs.Together.{best_by_small_mine}
use Rattle.series_pits.specs.declared.mine_parts.Part.{Part}
use Rattle.series_pits.specs.Parting.{ArePriced, LiesBetweenLists, IsPart, mine_among, IsBestAmong}
use Rattle.prec_file.proofs.Pairs.{pair_of_rests}
use Rattle.sub_mines.proofs.Parts.{not_beside}

-- ---- lists of kept blocks

-- the blocks at the places of a list are those of a set that has a block exactly where the list has its place
pub kept_again : (set inner t : ℕ → Bool) (n : ℕ) (kept xs : List ℕ) → IsKept set n kept
    → IsKept inner (length kept) xs → ((i : ℕ) → i < length kept → t (number_in kept i) ≡ inner i)
    → ((b : ℕ) → b < n → t b ≡ true → set b ≡ true)
    → IsKept t n (map (number_in kept) xs)
kept_again set inner t n kept xs h k same within =
    let im = list_image n kept xs h.ascending k.below in
    let are = listed set n kept h in
    record {
      ascending = λ i j l m.
          let size = length-map xs (number_in kept) in
          let low : i < length xs = omega (arith, l, m, size) in
          let more : j < length xs = omega (arith, m, size) in
          let up = h.ascending (get_or xs i 0) (get_or xs j 0) (k.ascending i j l more) (k.below j 0 more) in
          let a = get_or-map (number_in kept) xs i 0 0 low in
          let b = get_or-map (number_in kept) xs j 0 0 more in
          omega (arith, up, a, b);
      below = λ i d l.
          let m : i < length xs = omega (arith, l, length-map xs (number_in kept)) in
          let at = get_or-map (number_in kept) xs i 0 d m in
          let low = are.below (get_or xs i 0) (k.below i 0 m) in
          omega (arith, at, low);
      are = λ b l. same_tests (holds_of (map (number_in kept) xs) b) (t b)
          (λ held.
          let x = im.only b l held in
          let there : holds_of xs x.0 ≡ true = sym (im.same x.0 x.1) ∙ ap (holds_of (map (number_in kept) xs)) x.2
          ∙ held in
          ap t (sym x.2) ∙ same x.0 x.1 ∙ sym (k.are x.0 x.1) ∙ there)
          (λ has.
          let x = are.all b l (within b l has) in
          let there : holds_of xs x.0 ≡ true = k.are x.0 x.1 ∙ sym (same x.0 x.1) ∙ ap t x.2 ∙ has in
          ap (holds_of (map (number_in kept) xs)) (sym x.2) ∙ im.same x.0 x.1 ∙ there);
    }

-- a list of places keeps what it holds
pub own_list : (n : ℕ) (xs : List ℕ) → IsAscending xs → All (λ i. i < n) xs → IsKept (holds_of xs) n xs
own_list n xs h low = record { ascending = h; below = low; are = λ b l. refl }

-- ---- tests of one block: high, low, and the places' own

beside_none : (t : Bool) → t ≡ (t || false)
beside_none true = refl
beside_none false = refl

lower_test : (l t : Bool) → l ≡ false → ((l || t) && not l) ≡ t
lower_test false true h = refl
lower_test false false h = refl
lower_test true t h = absurd cc

lower_within : (hi l t : Bool) → ((l || t) && not l) ≡ true → (t ≡ true → (hi && not l) ≡ true) → (hi && not l) ≡ true
lower_within hi false true h k = k refl
lower_within hi l t h k = absurd cc

higher_test : (hi l t : Bool) → (hi && not l) ≡ true → (hi && not (l || t)) ≡ (true && not t)
higher_test true false t h = refl
higher_test hi l t h = absurd cc

higher_within : (hi l t : Bool) → (hi && not (l || t)) ≡ true → (hi && not l) ≡ true
higher_within true false t h = refl
higher_within hi l t h = absurd cc

module _ (pairs : List (ℕ × ℕ)) (prices : PricesView) (factors : List ℕ) (from to place : ℕ) (low kept s : List ℕ)
    (h : ArePriced pairs prices factors) (part : LiesBetweenLists pairs prices factors from to low kept)
    (first : from ≤ place) (last : place < to)
    (ascending : IsAscending s) (places : All (λ i. i < length kept) s)
    (found : IsBestAmong pairs prices kept (get_or factors place 0) s) where
  abbrev pub k : ℕ
  k = get_or factors place 0

  abbrev pub inside : List ℕ
  inside = map (number_in kept) s

  abbrev pub outside : List ℕ
  outside = map (number_in kept) (numbers_passing (difference_of every_block (holds_of s)) (length kept))

  image : IsImage (priced_count prices) (length kept) (number_in kept) (holds_of s) (holds_of inside)
  image = list_image (priced_count prices) kept s part.are_kept.ascending places

  is_listed : IsListed (difference_of part.high (holds_of low)) (priced_count prices) (length kept) (number_in kept)
  is_listed = listed (difference_of part.high (holds_of low)) (priced_count prices) kept part.are_kept

  own : (j : ℕ) → RestsWithin (mine_at pairs prices j)
  own j = mine_is_own pairs prices j h.rests

  renumbered : IsRenumbered (mine_at pairs prices k) (mine_among found.less prices kept k) (number_in kept)
  renumbered = record {
    own = record { own = λ i j r. found.part.known i j (pair_of_rests found.less i j r) };
    rests = λ i j l m. same_rests kept pairs found.less found.part i j l m;
    worth = λ i l. refl;
  }

  pub whole_best : IsBest (mine_at pairs prices k) (union_of (holds_of low) (holds_of inside))
  whole_best = best_by_small_mine (mine_at pairs prices k) (mine_among found.less prices kept k)
      (holds_of low) part.high (number_in kept) (holds_of s) (holds_of inside) (own k)
      (between_by_bounds (mine_at pairs prices k) (holds_of low) part.high (part.floor place first last)
      (part.ceiling place first last)) is_listed renumbered image found.best

  -- what is kept was not in the lower pit
  at_kept : (i : ℕ) → i < length kept → (part.high (number_in kept i) && not (holds_of low (number_in kept i))) ≡ true
  at_kept i l = is_listed.held i l

  pub inside_kept : IsKept (difference_of (union_of (holds_of low) (holds_of inside)) (holds_of low))
      (priced_count prices) inside
  inside_kept = kept_again (difference_of part.high (holds_of low)) (holds_of s)
      (difference_of (union_of (holds_of low) (holds_of inside)) (holds_of low)) (priced_count prices) kept s
      part.are_kept (own_list (length kept) s ascending places)
      (λ i l. lower_test (holds_of low (number_in kept i)) (holds_of inside (number_in kept i))
      (not_beside (part.high (number_in kept i)) (holds_of low (number_in kept i)) (at_kept i l)) ∙ image.same i l)
      (λ b l t. lower_within (part.high b) (holds_of low b) (holds_of inside b) t
      (λ held. let x = image.only b l held in ap (difference_of part.high (holds_of low)) (sym x.2) ∙ at_kept x.0 x.1))

  pub outside_kept : IsKept (difference_of part.high (union_of (holds_of low) (holds_of inside)))
      (priced_count prices) outside
  outside_kept = kept_again (difference_of part.high (holds_of low)) (difference_of every_block (holds_of s))
      (difference_of part.high (union_of (holds_of low) (holds_of inside))) (priced_count prices) kept
      (numbers_passing (difference_of every_block (holds_of s)) (length kept)) part.are_kept
      (passing_is_kept (difference_of every_block (holds_of s)) (length kept))
      (λ i l. higher_test (part.high (number_in kept i)) (holds_of low (number_in kept i))
      (holds_of inside (number_in kept i)) (at_kept i l) ∙ ap (λ x. true && not x) (image.same i l))
      (λ b l t. higher_within (part.high b) (holds_of low b) (holds_of inside b) t)

  module _ (blocks : List ℕ) (are : (b : ℕ) → holds_of blocks b ≡ union_of (holds_of low) (holds_of inside) b) where
    same : union_of (holds_of low) (holds_of inside) ≡ holds_of blocks
    same = λ i b. sym (are b) i

    pub lifted_best : IsBest (mine_at pairs prices k) (holds_of blocks)
    lifted_best = subst (IsBest (mine_at pairs prices k)) same whole_best

    pub lower_part : LiesBetweenLists pairs prices factors from place low inside
    lower_part = record {
      high = holds_of blocks;
      inside = omega (arith, last, part.inside);
      floor = λ i l m. part.floor i l (omega (arith, m, last));
      low_ascends = part.low_ascends;
      low_priced = part.low_priced;
      ceiling = λ i l m.
          let up : get_or factors i 0 < k = h.rising i place m (omega (arith, last, part.inside)) in
          best_is_ceiling (mine_at pairs prices (get_or factors i 0)) (mine_at pairs prices k) (holds_of blocks)
          (mines_rise (has_pair pairs) prices (get_or factors i 0) k h.known (omega (arith, up))) lifted_best;
      are_kept = subst (λ e. IsKept (difference_of e (holds_of low)) (priced_count prices) inside) same inside_kept;
    }

    pub higher_part : IsAscending blocks → All (λ b. b < priced_count prices) blocks
        → LiesBetweenLists pairs prices factors (place + 1) to blocks outside
    higher_part rising low_blocks = record {
      low_ascends = rising;
      low_priced = low_blocks;
      high = part.high;
      inside = part.inside;
      floor = λ i l m.
          let up : k < get_or factors i 0 = h.rising place i (omega (arith, l)) (omega (arith, m, part.inside)) in
          best_is_floor (mine_at pairs prices k) (mine_at pairs prices (get_or factors i 0)) (holds_of blocks)
          (mines_rise (has_pair pairs) prices k (get_or factors i 0) h.known (omega (arith, up))) lifted_best;
      ceiling = λ i l m. part.ceiling i (omega (arith, l, first)) m;
      are_kept = subst (λ e. IsKept (difference_of part.high e) (priced_count prices) outside) same outside_kept;
    }

-- no blocks are the best pit of no blocks
pub none_best : (pairs : List (ℕ × ℕ)) (prices : PricesView) (factor : ℕ) → IsBestAmong pairs prices [] factor []
none_best pairs prices factor = record {
  less = [];
  part = record {
    known = λ i j h. absurd (omega (arith, h.1));
    same = λ i j l m. absurd (omega (arith, l));
  };
  best = record {
    is_pit = λ b p r held. r;
    most = λ other h. omega (arith, ints);
    fewest = λ other h unlike same. absurd (unlike (λ b l. absurd (omega (arith, l))));
  };
}

-- The low blocks of a part without others are the best pit at each of its factors.
pub low_best : (pairs : List (ℕ × ℕ)) (prices : PricesView) (factors : List ℕ) (from to place : ℕ) (low : List ℕ)
    → ArePriced pairs prices factors → LiesBetweenLists pairs prices factors from to low [] → from ≤ place → place < to
    → IsBest (mine_at pairs prices (get_or factors place 0)) (holds_of low)
low_best pairs prices factors from to place low h part first last =
    lifted_best pairs prices factors from to place low [] [] h part first last (λ i j l m. absurd (omega (arith, m)))
    (λ j d l. absurd (omega (arith, l))) (none_best pairs prices (get_or factors place 0))
    low (λ b. beside_none (holds_of low b))

-- ---- other parts

-- fewer factors
pub fewer_factors : (pairs : List (ℕ × ℕ)) (prices : PricesView) (factors : List ℕ) (from to first last : ℕ)
    (low kept : List ℕ) → from ≤ first → last ≤ to → LiesBetweenLists pairs prices factors from to low kept
    → LiesBetweenLists pairs prices factors first last low kept
fewer_factors pairs prices factors from to first last low kept a b h = record {
  high = h.high;
  inside = omega (arith, b, h.inside);
  floor = λ i l m. h.floor i (omega (arith, l, a)) (omega (arith, m, b));
  ceiling = λ i l m. h.ceiling i (omega (arith, l, a)) (omega (arith, m, b));
  low_ascends = h.low_ascends;
  low_priced = h.low_priced;
  are_kept = h.are_kept;
}

-- every factor, and every block
pub whole_part : (pairs : List (ℕ × ℕ)) (prices : PricesView) (factors : List ℕ)
    → LiesBetweenLists pairs prices factors 0 (length factors) [] (numbers_passing every_block (priced_count prices))
whole_part pairs prices factors = record {
  high = every_block;
  inside = omega arith;
  floor = λ i l m. none_is_floor (mine_at pairs prices (get_or factors i 0));
  ceiling = λ i l m. all_is_ceiling (mine_at pairs prices (get_or factors i 0));
  low_ascends = λ i j l m. absurd (omega (arith, m));
  low_priced = λ j d l. absurd (omega (arith, l));
  are_kept = passing_is_kept every_block (priced_count prices);
}

-- the best pits lie between two lists where they lie between lists that equal these
pub same_lists_part : (pairs : List (ℕ × ℕ)) (prices : PricesView) (factors : List ℕ) (from to : ℕ)
    (low low' kept kept' : List ℕ) → low' ≡ low → kept' ≡ kept
    → LiesBetweenLists pairs prices factors from to low kept → LiesBetweenLists pairs prices factors from to low' kept'
same_lists_part pairs prices factors from to low low' kept kept' a b h =
    subst (λ xs. LiesBetweenLists pairs prices factors from to xs kept') (sym a)
    (subst (λ xs. LiesBetweenLists pairs prices factors from to low xs) (sym b) h)

-- a part with these places and lists
pub part_of : (pairs : List (ℕ × ℕ)) (prices : PricesView) (factors : List ℕ) (part : Part) (from to : ℕ)
    (low kept : List ℕ) → (part.from ≡ from) × (part.to ≡ to) × (part.low.items ≡ low) × (part.kept.items ≡ kept)
    → LiesBetweenLists pairs prices factors from to low kept
    → IsPart pairs prices factors part
part_of pairs prices factors part from to low kept e h = grind (arith, common_steps)
