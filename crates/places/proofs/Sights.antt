-- An offset leads from a block to another exactly where the sum of cells is the other's.
use Rattle.fixed_worth.proofs.Common.{◌≡◌, ℕ, ℤ, pos, ◌+ℤ◌, ◌-ℤ◌, ◌<◌, ◌+◌, ◌==◌, ◌∙◌, List, IsTrue, Contains, length}
use Rattle.fixed_worth.proofs.Common.{get_or, sym, subst, ap, refl, arith, ints, and_from, eq-eqb, eqb-true, lt-ltb}
use Rattle.fixed_worth.proofs.Common.{Contains-get_or, get_or_default}
use Rattle.blocks_file.specs.declared.place.Place.{Place}
use Rattle.blocks_file.specs.Denotes.{BlocksView}
use Rattle.slope_offsets.specs.Prelude.{Offset, listed_at}
use Rattle.slope.specs.Prelude.{block_place, upward, offset_between, IsSlopePair, AreApartBelow, IsFirstRepeat}
use Rattle.slope.proofs.Finding.{same_height}
use Rattle.slope_offsets.specs.declared.up.Up.{Up}
use Rattle.slope_offsets.specs.declared.up.Up.TheVariants.{PlusZ, MinusZ}
use Rattle.places.specs.declared.padded_box.PaddedBox.{PaddedBox}
use Rattle.places.specs.Prelude.{GridView, home_at, region_at, ways_at, cell_at, rests_at, IsGrid, IsFirstSame}
use Rattle.places.specs.Prelude.{AreDeltas, GridFaultStands, PlacesFaultStands, IsIn, IsRaised, AreLows, cell_of}
use Rattle.places.specs.Prelude.{nothing, ArePlaced, IsLaidOut, LowsApart}
use Rattle.places.specs.declared.cells.GridFault.{GridFault}
use Rattle.places.specs.declared.cells.GridFault.TheVariants.{SamePlace, TooWide, NoMemory}
use Rattle.places.proofs.Boxes.{cell_add, cell_tells}
use Rattle.places.proofs.GridWays.{any_from, any_to, parts}

-- along one axis
axis_to : (least x x' o : ℤ) (n n' a p : ℕ) → x ≡ least +ℤ pos n → x' ≡ least +ℤ pos n' → o ≡ pos a -ℤ pos p
    → n + a ≡ n' + p → o ≡ x' -ℤ x
axis_to least x x' o n n' a p h h' e s = omega (arith, ints)

axis_from : (least x x' o : ℤ) (n n' a p : ℕ) → x ≡ least +ℤ pos n → x' ≡ least +ℤ pos n' → o ≡ pos a -ℤ pos p
    → o ≡ x' -ℤ x → n + a ≡ n' + p
axis_from least x x' o n n' a p h h' e s = omega (arith, ints)

axis_once : (least x : ℤ) (n n' : ℕ) → x ≡ least +ℤ pos n → x ≡ least +ℤ pos n' → n ≡ n'
axis_once least x n n' h h' = omega (arith, ints)

-- a difference of heights
climb : (up : Up) (x y : ℤ) → upward up (y -ℤ x) ≡ upward up y -ℤ upward up x
climb PlusZ x y = refl
climb MinusZ x y = omega (arith, ints)

-- the cells meet exactly where the offset leads to p
sight_to : (s : PaddedBox) (up : Up) (from to : Place) (o : Offset) (low other d : ℕ) → IsIn s up from low
    → IsIn s up to other → IsRaised s o d → low + d ≡ other + cell_of s.sx s.sy s.px s.py s.pz
    → o ≡ offset_between up from to
sight_to s up from to o low other d here there r e =
    let sum : cell_of s.sx s.sy (here.x + r.a) (here.y + r.b) (here.z + r.c) ≡ cell_of s.sx s.sy (there.x + s.px)
    (there.y + s.py) (there.z + s.pz) = omega (
      arith,
      cell_add s.sx s.sy here.x here.y here.z r.a r.b r.c,
      cell_add s.sx s.sy there.x there.y there.z s.px
          s.py s.pz,
      here.cell_is,
      there.cell_is,
      r.cell,
      e,
    ) in
    let same = cell_tells s.sx s.sy _ _ _ _ _ _ (omega (arith, here.wide, r.low)) (omega (arith, there.wide))
    (omega (arith, here.deep, r.near)) (omega (arith, there.deep)) sum in
    let x = axis_to s.lx _ _ o.0 here.x there.x r.a s.px here.along there.along r.along same.0 in
    let y = axis_to s.ly _ _ o.1 here.y there.y r.b s.py here.across there.across r.across same.1 in
    let z = axis_to s.lz _ _ o.2 here.z there.z r.c s.pz here.upward there.upward r.upward same.2
    ∙ sym (climb up from.z to.z) in
    λ j. (x j, y j, z j)

sight_from : (s : PaddedBox) (up : Up) (from to : Place) (o : Offset) (low other d : ℕ) → IsIn s up from low
    → IsIn s up to other → IsRaised s o d → o ≡ offset_between up from to
    → low + d ≡ other + cell_of s.sx s.sy s.px s.py s.pz
sight_from s up from to o low other d here there r e =
    let x : here.x + r.a ≡ there.x + s.px = axis_from s.lx _ _ o.0 here.x there.x r.a s.px here.along there.along
    r.along (ap (λ (q : Offset). q.0) e) in
    let y : here.y + r.b ≡ there.y + s.py = axis_from s.ly _ _ o.1 here.y there.y r.b s.py here.across there.across
    r.across (ap (λ (q : Offset). q.1) e) in
    let z : here.z + r.c ≡ there.z + s.pz = axis_from s.lz _ _ o.2 here.z there.z r.c s.pz here.upward there.upward
    r.upward (ap (λ (q : Offset). q.2) e ∙ climb up from.z to.z) in
    let sum : cell_of s.sx s.sy (here.x + r.a) (here.y + r.b) (here.z + r.c) ≡ cell_of s.sx s.sy (there.x + s.px)
    (there.y + s.py) (there.z + s.pz) = λ j. cell_of s.sx s.sy (x j) (y j) (z j) in
    omega (
      arith,
      cell_add s.sx s.sy here.x here.y here.z r.a r.b r.c,
      cell_add s.sx s.sy there.x there.y there.z s.px
          s.py s.pz,
      here.cell_is,
      there.cell_is,
      r.cell,
      sum,
    )

-- one place has one cell
in_once : (s : PaddedBox) (up : Up) (p q : Place) (c d : ℕ) → IsIn s up p c → IsIn s up q d → p ≡ q → c ≡ d
in_once s up p q c d h k e =
    let x = axis_once s.lx p.x h.x k.x h.along (ap (λ (r : Place). r.x) e ∙ k.along) in
    let y = axis_once s.ly p.y h.y k.y h.across (ap (λ (r : Place). r.y) e ∙ k.across) in
    let z = axis_once s.lz (upward up p.z) h.z k.z h.upward (ap (λ (r : Place). upward up r.z) e ∙ k.upward) in
    h.cell_is ∙ (λ j. cell_of s.sx s.sy (x j) (y j) (z j)) ∙ sym k.cell_is

-- one cell has one place
place_once : (s : PaddedBox) (up : Up) (p q : Place) (c d : ℕ) → IsIn s up p c → IsIn s up q d → c ≡ d → p ≡ q
place_once s up p q c d h k e =
    let same = cell_tells s.sx s.sy _ _ _ _ _ _ (omega (arith, h.wide)) (omega (arith, k.wide))
    (omega (arith, h.deep)) (omega (arith, k.deep)) (sym h.cell_is ∙ e ∙ k.cell_is) in
    let x : p.x ≡ q.x = h.along ∙ ap (λ (n : ℕ). s.lx +ℤ pos n) same.0 ∙ sym k.along in
    let y : p.y ≡ q.y = h.across ∙ ap (λ (n : ℕ). s.ly +ℤ pos n) same.1 ∙ sym k.across in
    let z : p.z ≡ q.z = same_height up p.z q.z (h.upward ∙ ap (λ (n : ℕ). s.lz +ℤ pos n) same.2 ∙ sym k.upward) in
    λ i. record { x = x i; y = y i; z = z i }

-- blocks in cells of their own have places of their own
places_apart : (s : PaddedBox) (up : Up) (m : BlocksView) (lows : List ℕ) → AreLows s up m m.blocks lows
    → LowsApart lows → AreApartBelow m m.blocks
places_apart s up m lows h a i j l r e = a i j l (omega (arith, r, h.size))
    (in_once s up _ _ _ _ (h.laid i (omega (arith, l, r))) (h.laid j r) e)

-- the first block in an earlier one's cell is the first at its place
pub first_repeat : (s : PaddedBox) (up : Up) (m : BlocksView) (lows : List ℕ) (a b : ℕ) → AreLows s up m m.blocks lows
    → IsFirstSame lows a b → IsFirstRepeat m a b
first_repeat s up m lows a b h f =
    let known : b < m.blocks = omega (arith, f.known, h.size) in
    record {
      earlier = f.earlier;
      known = known;
      same = place_once s up _ _ _ _ (h.laid a (omega (arith, f.earlier, known))) (h.laid b known) f.same;
      first = λ i j l r e. f.first i j l r
          (in_once s up _ _ _ _ (h.laid i (omega (arith, l, r, known))) (h.laid j (omega (arith, r, known))) e);
    }

module _ (m : BlocksView) (up : Up) (slopes : List (List Offset)) (g : GridView) (h : IsLaidOut m up slopes g)
    (b p : ℕ) where
  -- the way by an offset of the block's own region
  ways_are : b < m.blocks → ways_at g b ≡ length (listed_at slopes (region_at g b))
  ways_are known = omega (arith, h.deltas.ways (region_at g b) (h.regions b known))

  tells : IsTrue (rests_at g b p) → IsSlopePair m (listed_at slopes (region_at g b)) up (b, p)
  tells t =
      let own = parts g b p t in
      let bottom : b < m.blocks = omega (arith, own.0, h.lows.size) in
      let top : p < m.blocks = omega (arith, own.1, h.lows.size) in
      let one = any_from (λ j. cell_at g b j == home_at g p) (ways_at g b) own.2 in
      let same = eqb-true (cell_at g b one.0) (home_at g p) one.2 in
      let inside : one.0 < length (listed_at slopes (region_at g b)) = omega (arith, one.1, ways_are bottom) in
      let is = sight_to h.box up (block_place m b) (block_place m p)
      (get_or (listed_at slopes (region_at g b)) one.0 nothing) _ _ _ (h.lows.laid b bottom) (h.lows.laid p top)
      (h.deltas.raised (region_at g b) one.0 (h.regions b bottom) inside) (omega (arith, same, h.centre)) in
      record {
        bottom = bottom;
        top = top;
        offset = subst (Contains (listed_at slopes (region_at g b))) is
            (Contains-get_or (listed_at slopes (region_at g b)) one.0 nothing inside);
      }

  finds : IsSlopePair m (listed_at slopes (region_at g b)) up (b, p) → IsTrue (rests_at g b p)
  finds q =
      let c = q.offset in
      let e : get_or (listed_at slopes (region_at g b)) c.0 nothing ≡ offset_between up (block_place m b)
      (block_place m p) = get_or_default (listed_at slopes (region_at g b)) c.0 nothing
      (offset_between up (block_place m b) (block_place m p)) c.1 ∙ c.2 in
      let inside : c.0 < ways_at g b = omega (arith, c.1, ways_are q.bottom) in
      let meets = sight_from h.box up (block_place m b) (block_place m p)
      (get_or (listed_at slopes (region_at g b)) c.0 nothing) _ _ _ (h.lows.laid b q.bottom) (h.lows.laid p q.top)
      (h.deltas.raised (region_at g b) c.0 (h.regions b q.bottom) c.1) e in
      let t = any_to (λ j. cell_at g b j == home_at g p) (ways_at g b) c.0 inside
      (eq-eqb (cell_at g b c.0) (home_at g p) (omega (arith, meets, h.centre))) in
      and_from _ _ (and_from _ _ (lt-ltb b (length g.lows) (omega (arith, q.bottom, h.lows.size)))
      (lt-ltb p (length g.lows) (omega (arith, q.top, h.lows.size)))) t

pub laid_is : (m : BlocksView) (up : Up) (slopes : List (List Offset)) (g : GridView) → IsLaidOut m up slopes g
    → ArePlaced m up slopes g.regions g
laid_is m up slopes g h = record {
  apart = places_apart h.box up m g.lows h.lows h.apart;
  blocks = h.lows.size;
  pairs = λ b p. (tells m up slopes g h b p, finds m up slopes g h b p);
}

-- cells of their own
lows_apart : (g : GridView) → IsGrid g → LowsApart g.lows
lows_apart g h i j l r e = omega
    (arith, l, h.home i (omega (arith, l, r)), h.home j r, ap (λ (c : ℕ). get_or g.cells (c + g.centre) 0) e)

-- what is made of cells and deltas of these places and offsets
pub placed_by : (m : BlocksView) (up : Up) (slopes : List (List Offset)) (regions : List ℕ) (s : PaddedBox)
    (lows starts deltas : List ℕ) (centre n : ℕ) (g : GridView) → IsGrid g → g.lows ≡ lows → g.regions ≡ regions
    → g.centre ≡ centre → g.starts ≡ starts → g.deltas ≡ deltas
    → AreLows s up m m.blocks lows → centre ≡ cell_of s.sx s.sy s.px s.py s.pz → AreDeltas s slopes n starts deltas
    → n ≡ length slopes → ArePlaced m up slopes regions g
placed_by m up slopes regions s lows starts deltas centre n g h a b c d e f k q t =
    let own : AreLows s up m m.blocks g.lows = subst (AreLows s up m m.blocks) (sym a) f in
    let there : AreDeltas s slopes (length slopes) g.starts g.deltas = subst
    (λ (x : ℕ). AreDeltas s slopes x g.starts g.deltas) t
    (subst (λ (x : List ℕ). AreDeltas s slopes n g.starts x) (sym e)
    (subst (λ (x : List ℕ). AreDeltas s slopes n x deltas) (sym d) q)) in
    subst (λ (x : List ℕ). ArePlaced m up slopes x g) b (laid_is m up slopes g (record {
      box = s;
      lows = own;
      apart = lows_apart g h;
      centre = c ∙ k;
      deltas = there;
      regions = λ i l. omega (arith, h.region i (omega (arith, l, own.size)), there.size);
    }))

-- a fault of the cells is one of the places
pub fault_told : (m : BlocksView) (up : Up) (s : PaddedBox) (lows : List ℕ) (e : GridFault)
    → AreLows s up m m.blocks lows → GridFaultStands lows e → PlacesFaultStands m e
fault_told m up s lows (SamePlace a b) h f = first_repeat s up m lows a b h f
fault_told m up s lows TooWide h f = tt
fault_told m up s lows NoMemory h f = tt
