-- Pairs by lists of offsets that hold the same, and the regions of blocks.
use Rattle.fixed_worth.proofs.Common.{◌≡◌, ℕ, ◌<◌, ◌≤◌, Bool, true, false, List, [], ◌∷◌, length, Option, Some, None}
use Rattle.fixed_worth.proofs.Common.{Contains, All, refl, inl, inr, sym, ap, subst, arith, cases_lt, get_or_past}
use Rattle.blocks_file.specs.Denotes.{BlocksView}
use Rattle.slope_offsets.specs.declared.pattern.TheConstants.{MOST_OFFSETS}
use Rattle.slope.specs.Prelude.{AreApartBelow, ArePlacedInRegions, PairFaultStands, RegionFaultStands}
use Rattle.slope.specs.Prelude.{RegionRefusalStands, region_fault_of, IsOwnPair, LeadsOver, IsSelected, AreOfListed}
use Rattle.slope.specs.Prelude.{HaveRegions, IsListedRegion, AreListedRegions, AreAllUpward, HaveAllFew, region_offsets}
use Rattle.slope.specs.Prelude.{own_by, own_offsets, region_by, region_of}
use Rattle.slope_offsets.specs.Prelude.{Offset, IsUpward, IsPattern, Collects, HoldsOf, listed_at}
use Rattle.slope_offsets.specs.declared.selection.Selection.{Selection}
use Rattle.slope_offsets.specs.declared.selection.Selection.TheVariants.{Every, Reduced}
use Rattle.slope_offsets.specs.declared.up.Up.{Up}
use Rattle.slope.specs.declared.slope_fault.SlopeFault.{SlopeFault}
use Rattle.slope.specs.declared.slope_fault.SlopeFault.TheVariants as slope
use Rattle.slope.specs.declared.region_fault.RegionFault.{RegionFault}
use Rattle.slope.specs.declared.region_fault.RegionFault.TheVariants as region
use Rattle.slope.specs.declared.region_slopes.TheConstants.{MOST_REGIONS}
use Rattle.prec_file.specs.declared.limits.TheConstants.{MOST_PAIRS}
use Rattle.slope_offsets.proofs.Gathering.{collected_same, more_weaker}

-- the offsets of each block hold the same
module _ (m : BlocksView) (own other : ℕ → List Offset) (up : Up) (to : (b : ℕ) (o : Offset) → Contains (own b) o
    → Contains (other b) o) (back : (b : ℕ) (o : Offset) → Contains (other b) o → Contains (own b) o) where
  pub pair_alike : (q : ℕ × ℕ) → IsOwnPair m own up q → IsOwnPair m other up q
  pair_alike q h = record { bottom = h.bottom; top = h.top; offset = to q.0 _ h.offset }

  pair_back : (q : ℕ × ℕ) → IsOwnPair m other up q → IsOwnPair m own up q
  pair_back q h = record { bottom = h.bottom; top = h.top; offset = back q.0 _ h.offset }

  leads_back : (q : ℕ × ℕ) → LeadsOver m other up q → LeadsOver m own up q
  leads_back q h = record {
    over = h.over;
    first = pair_back (q.0, h.over) h.first;
    second = pair_back
        (h.over, q.1) h.second;
  }

  pub selected_alike : (s : Selection) (q : ℕ × ℕ) → IsSelected s m own up q → IsSelected s m other up q
  selected_alike Every q h = pair_alike q h
  selected_alike Reduced q h = (pair_alike q h.0, λ over. h.1 (leads_back q over))

-- pairs that are collected by the one are by the other
pub collected_alike : (m : BlocksView) (own other : ℕ → List Offset) (up : Up) (s : Selection) (ps : List (ℕ × ℕ))
    → ((b : ℕ) (o : Offset) → Contains (own b) o → Contains (other b) o)
    → ((b : ℕ) (o : Offset) → Contains (other b) o → Contains (own b) o) → Collects (IsSelected s m own up) ps
    → Collects (IsSelected s m other up) ps
collected_alike m own other up s ps to back c = collected_same _ _ ps c (selected_alike m own other up to back s)
    (selected_alike m other own up back to s)

-- the patterns of regions have the offsets that are listed
module _ (listed patterns : List (List Offset)) (m : BlocksView) (h : AreOfListed listed patterns) where
  in_region : (r : Option ℕ) (o : Offset) → Contains (region_offsets patterns r) o
      → Contains (region_offsets listed r) o
  in_region (Some r) o k = h.only r o k
  in_region None o k = k

  of_region : (r : Option ℕ) (o : Offset) → Contains (region_offsets listed r) o
      → Contains (region_offsets patterns r) o
  of_region (Some r) o k = h.held r o k
  of_region None o k = k

  pub own_to : (b : ℕ) (o : Offset) → Contains (own_by true patterns m b) o → Contains (own_offsets listed m b) o
  own_to b o k = in_region (region_of m b) o k

  pub own_back : (b : ℕ) (o : Offset) → Contains (own_offsets listed m b) o → Contains (own_by true patterns m b) o
  own_back b o k = of_region (region_of m b) o k

  known : (r : Option ℕ) → IsListedRegion listed r → IsListedRegion patterns r
  known (Some r) l = omega (arith, l, h.as_many)
  known None l = l

  pattern_in : (r : Option ℕ) → IsListedRegion patterns r → IsPattern (region_offsets patterns r)
  pattern_in (Some r) l = h.are r l
  pattern_in None l = absurd l

  pub have_regions : AreListedRegions listed m → HaveRegions true patterns m
  have_regions regions = record {
    each = λ b l. known (region_of m b) (regions b l);
    are = λ b l. pattern_in (region_of m b) (known (region_of m b) (regions b l));
  }

-- every block's offsets lead up
module _ (listed : List (List Offset)) (m : BlocksView) where
  nothing_at : (r : ℕ) → length listed ≤ r → listed_at listed r ≡ []
  nothing_at r l = get_or_past listed r [] l

  none_upward : (xs : List Offset) → xs ≡ [] → All IsUpward xs
  none_upward xs e = subst (All IsUpward) (sym e) (λ k d l. absurd (omega (arith, l)))

  upward_in : AreAllUpward listed → (r : Option ℕ) → All IsUpward (region_offsets listed r)
  upward_in upward None = none_upward [] refl
  upward_in upward (Some r) = elim (cases_lt r (length listed)) [
    | inl l ↦ upward r l
    | inr g ↦ none_upward (listed_at listed r) (nothing_at r g)
  ]

  pub own_upward : AreAllUpward listed → (b : ℕ) → All IsUpward (own_offsets listed m b)
  own_upward upward b = upward_in upward (region_of m b)

  few_in : HaveAllFew listed → (r : Option ℕ) → length (region_offsets listed r) ≤ MOST_OFFSETS
  few_in few None = omega arith
  few_in few (Some r) = elim (cases_lt r (length listed)) [
    | inl l ↦ few r l
    | inr g ↦ omega (arith, ap length (nothing_at r g))
  ]

  pub own_few : HaveAllFew listed → (b : ℕ) → length (own_offsets listed m b) ≤ MOST_OFFSETS
  own_few few b = few_in few (region_of m b)

-- one pattern, whose region every block is of
pub one_region : (m : BlocksView) (by_column : Bool) (ps : List (List Offset)) (p : List Offset) → ps ≡ p ∷ []
    → by_column ≡ false → IsPattern p → HaveRegions by_column ps m
one_region m by_column ps p e f pattern =
    let base : HaveRegions false (p ∷ []) m = record { each = λ b l. omega arith; are = λ b l. pattern } in
    subst (λ (k : Bool). HaveRegions k ps m) (sym f)
    (subst (λ (xs : List (List Offset)). HaveRegions false xs m) (sym e) base)

pub one_own : (m : BlocksView) (by_column : Bool) (ps : List (List Offset)) (p : List Offset) → ps ≡ p ∷ []
    → by_column ≡ false → own_by by_column ps m ≡ (λ b. p)
one_own m by_column ps p e f = λ i b. own_by (f i) (e i) m b

-- what a search of regions tells of a block
pub region_is : (by_column : Bool) (ps : List (List Offset)) (m : BlocksView) (b r : ℕ)
    → region_by by_column m b ≡ Some r → own_by by_column ps m b ≡ listed_at ps r
region_is by_column ps m b r e = ap (region_offsets ps) e

-- all offsets hold those of each block
pub held_by_all : (by_column : Bool) (ps : List (List Offset)) (m : BlocksView) (all : List Offset)
    → HaveRegions by_column ps m → HoldsOf ps (length ps) all → (q : ℕ) (o : Offset) → q < m.blocks
    → Contains (own_by by_column ps m q) o → Contains all o
held_by_all by_column ps m all h holds q o known k = held_in (region_by by_column m q) (h.each q known) k
  where
    held_in : (r : Option ℕ) → IsListedRegion ps r → Contains (region_offsets ps r) o → Contains all o
    held_in (Some r) l c = holds r o l c
    held_in None l c = absurd l

-- the fault of regions, where the places are apart
pub refusal_stands : (listed : List (List Offset)) (m : BlocksView) (up : Up) (s : Selection) (e : RegionFault)
    → AreApartBelow m m.blocks → RegionRefusalStands listed m e → RegionFaultStands listed m up s e
refusal_stands listed m up s (region.UnknownRegion b) apart h = (apart, h)
refusal_stands listed m up s (region.NotUpward r i) apart h = (record { apart = apart; regions = h.0 }, h.1)
refusal_stands listed m up s (region.TooManyOffsets r) apart h = (record { apart = apart; regions = h.0 }, h.1, h.2)
refusal_stands listed m up s region.TooManyRegions apart h = (record { apart = apart; regions = h.0 }, h.1, h.2, h.3)
refusal_stands listed m up s e apart h = absurd h

-- the fault of the pairs, where all else is right
pub pairs_refused : (listed patterns : List (List Offset)) (m : BlocksView) (up : Up) (s : Selection) (e : SlopeFault)
    → AreOfListed listed patterns → ArePlacedInRegions listed m → AreAllUpward listed → HaveAllFew listed
    → length listed ≤ MOST_REGIONS → PairFaultStands m (own_by true patterns m) up s e
    → RegionFaultStands listed m up s (region_fault_of e)
pairs_refused listed patterns m up s (slope.SamePlace b c) of placed upward few most h = absurd h
pairs_refused listed patterns m up s slope.TooMany of placed upward few most h = (
  placed,
  upward,
  few,
  most,
  more_weaker MOST_PAIRS (IsSelected s m (own_by true patterns m) up)
      (IsSelected s m (own_offsets listed m) up)
      (selected_alike m (own_by true patterns m) (own_offsets listed m) up (own_to listed patterns m of)
      (own_back listed patterns m of) s) h,
)
pairs_refused listed patterns m up s slope.NoMemory of placed upward few most h = tt
