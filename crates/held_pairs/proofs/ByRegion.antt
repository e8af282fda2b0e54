-- A grid of places and of the offsets of each block's own region has the pairs of the slopes of regions.
use Rattle.fixed_worth.proofs.Common.{◌≡◌, ℕ, ◌<◌, ◌≤◌, ◌*◌, ◌/◌, ◌%◌, ◌==◌, ◌+◌, ◌∙◌, ℤ, pos, cond, true, List, []}
use Rattle.fixed_worth.proofs.Common.{Contains, Some, None, length, get_or, sym, subst, ap, refl, arith, eq-eqb}
use Rattle.fixed_worth.proofs.Common.{get_or_past, replicate, Bool}
use Rattle.std.proofs.lemmas.Nat.{div-mul-add, mod-mul-add}
use Rattle.std.proofs.lemmas.List.{get_or-replicate, length-replicate}
use Rattle.blocks_file.specs.Denotes.{BlocksView}
use Rattle.slope.specs.Prelude.{AreAllUpward, AreOwnSlopes, AreListedRegions, AreRightSlopes, HaveAllFew, IsOwnPair}
use Rattle.slope.specs.Prelude.{IsListedRegion, offset_between, region_offsets, own_offsets, block_place}
use Rattle.slope.specs.Prelude.{whole_millionths}
use Rattle.slope_offsets.specs.Prelude.{Offset, listed_at}
use Rattle.slope.specs.declared.region_slopes.TheConstants.{MOST_REGIONS}
use Rattle.slope_offsets.specs.declared.selection.Selection.TheVariants.{Every}
use Rattle.slope_offsets.specs.declared.up.Up.{Up}
use Rattle.held_pairs.specs.OwnRegions.{AreOwnRegions}
use Rattle.places.specs.Prelude.{AreRegions, ArePlaced, GridView, IsPrecedence, IsRegion, gridded, implied}
use Rattle.places.proofs.ImpliedPairs.{implied_is}

chosen : (t : Bool) (r : ℕ) → t ≡ true → cond t (Some r) None ≡ Some r
chosen t r e = rw e refl

-- a whole number of millions
whole_is : (value : ℤ) (count r : ℕ) → IsRegion value count r → whole_millionths value ≡ Some r
whole_is value count r h =
    let same : r * 1000000 ≡ r * 1000000 + 0 = omega arith in
    let rest : (r * 1000000) % 1000000 ≡ 0 = ap (λ (k : ℕ). k % 1000000) same ∙ mod-mul-add r 1000000 0 (omega arith) in
    let part : (r * 1000000) / 1000000 ≡ r = ap (λ (k : ℕ). k / 1000000) same ∙ div-mul-add r 1000000 0 (omega arith) in
    ap whole_millionths h.whole
    ∙ (ap (λ (k : ℕ). cond ((r * 1000000) % 1000000 == 0) (Some k) None) part
    ∙ chosen ((r * 1000000) % 1000000 == 0) r (eq-eqb _ _ rest))

-- regions by a column
pub regions_own : (m : BlocksView) (count : ℕ) (regions : List ℕ) → AreRegions m 0 count m.blocks regions
    → AreOwnRegions m count regions
regions_own m count regions h = record {
  size = h.size;
  each = λ b l. whole_is _ count _ (h.each b l);
  below = λ b l.
      (h.each b l).below;
}

-- with no column every block is of region 0
pub regions_none : (m : BlocksView) (count n : ℕ) (regions : List ℕ) → length m.columns ≡ 0 → 0 < count → n ≡ m.blocks
    → regions ≡ replicate n 0 → AreOwnRegions m count regions
regions_none m count n regions none some size all =
    let first : (b : ℕ) → b < m.blocks → get_or regions b 0 ≡ 0 = λ b l. ap (λ (xs : List ℕ). get_or xs b 0) all
    ∙ get_or-replicate n b 0 0 (omega (arith, l, size)) in
    let bare : get_or m.columns 0 [] ≡ [] = get_or_past m.columns 0 [] (omega (arith, none)) in
    record {
      size = ap length all ∙ length-replicate n 0 ∙ size;
      each = λ b l. ap (λ (column : List ℤ). whole_millionths (get_or column b (pos 0))) bare
          ∙ ap whole_millionths (get_or_past [] b (pos 0) (omega arith)) ∙ ap Some (sym (first b l));
      below = λ b l. omega (arith, some, first b l);
    }

-- the pairs of the grid are those of the slopes
module _ (m : BlocksView) (up : Up) (listed : List (List Offset)) (regions : List ℕ) (g : GridView)
    (is : IsPrecedence (gridded g)) (own : AreOwnRegions m (length listed) regions)
    (placed : ArePlaced m up listed regions g) where
  offsets_are : (b : ℕ) → b < m.blocks → own_offsets listed m b ≡ listed_at listed (get_or regions b 0)
  offsets_are b l = ap (region_offsets listed) (own.each b l)

  held : (b p : ℕ) → IsOwnPair m (own_offsets listed m) up (b, p) → Contains (implied (gridded g)).pairs (b, p)
  held b p h =
      let offset = subst (λ (os : List Offset). Contains os (offset_between up (block_place m b) (block_place m p)))
      (offsets_are b h.bottom) h.offset in
      (implied_is (gridded g) is).held b p
      ((placed.pairs b p).1 (record { bottom = h.bottom; top = h.top; offset = offset }))

  only : (b p : ℕ) → Contains (implied (gridded g)).pairs (b, p) → IsOwnPair m (own_offsets listed m) up (b, p)
  only b p c =
      let h = (placed.pairs b p).0 ((implied_is (gridded g) is).only b p c) in
      record {
        bottom = h.bottom;
        top = h.top;
        offset = subst
            (λ (os : List Offset). Contains os (offset_between up (block_place m b) (block_place m p)))
            (sym (offsets_are b h.bottom)) h.offset;
      }

  pub slopes_placed : AreOwnSlopes m (own_offsets listed m) up Every (implied (gridded g))
  slopes_placed = record {
    apart = placed.apart;
    blocks = placed.blocks;
    rising = (implied_is (gridded g) is).pairs.rising;
    held = λ pair h. held pair.0 pair.1 h;
    only = λ pair c. only pair.0 pair.1 c;
  }

  -- each block is of a listed region
  regions_known : AreListedRegions listed m
  regions_known b l = subst (IsListedRegion listed) (sym (own.each b l)) (own.below b l)

  -- nothing is wrong with the slopes
  pub are_right : AreAllUpward listed → HaveAllFew listed → length listed ≤ MOST_REGIONS → AreRightSlopes listed m
  are_right upward few most = record {
    placed = record { apart = placed.apart; regions = regions_known };
    upward = upward;
    few_offsets = few;
    few_regions = most;
  }
