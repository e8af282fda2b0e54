-- Some blocks of a grid with numbers of their own are a precedence, whose pairs are those among them.
use Rattle.fixed_worth.proofs.Common.{◌≡◌, ℕ, zero, suc, ◌<◌, ◌+◌, ◌&&◌, ◌∙◌, nat_lt, Option, Some, None, IsTrue}
use Rattle.fixed_worth.proofs.Common.{length, get_or, sym, subst, ap, arith, common_steps, and_from, and_parts, lt-ltb}
use Rattle.fixed_worth.proofs.Common.{ltb-true, refl}
use Rattle.places.specs.Prelude.{IsPrecedence, WayLeads, gridded, rests_at, grid_way, block_in, implied}
use Rattle.places.proofs.ImpliedPairs.{implied_is}
use Rattle.sub_mines.specs.Prelude.{AmongView, AreAmong, IsPartPairs, among, place_of, rests_among, number_in}

-- ---- the place of a block

held_in : (cell p : ℕ) → block_in cell ≡ Some p → cell ≡ p + 1
held_in zero p h = grind (arith, common_steps)
held_in (suc b) p h = grind (arith, common_steps)

pub record IsReached (a : AmongView) (o : Option ℕ) (j : ℕ) : Type 0 where
  pub block : ℕ
  pub there : o ≡ Some block
  pub place : get_or a.places block 0 ≡ j + 1

-- the block that a way leads to has a place
reached : (a : AmongView) (o : Option ℕ) (j : ℕ) → place_of a.places o ≡ Some j → IsReached a o j
reached a None j e = grind (arith, common_steps)
reached a (Some p) j e = record { block = p; there = refl; place = held_in (get_or a.places p 0) j e }

module _ (a : AmongView) (h : AreAmong a) where
  pub parts : (i j : ℕ) → IsTrue (rests_among a i j) → (i < length a.kept) × (j < length a.kept)
      × IsTrue (rests_at a.grid (number_in a.kept i) (number_in a.kept j))
  parts i j t =
      let both = and_parts (nat_lt i (length a.kept) && nat_lt j (length a.kept))
      (rests_at a.grid (number_in a.kept i) (number_in a.kept j)) t in
      let own = and_parts (nat_lt i (length a.kept)) (nat_lt j (length a.kept)) both.0 in
      (ltb-true i (length a.kept) own.0, ltb-true j (length a.kept) own.1, both.1)

  pub whole : (i j : ℕ) → i < length a.kept → j < length a.kept
      → IsTrue (rests_at a.grid (number_in a.kept i) (number_in a.kept j)) → IsTrue (rests_among a i j)
  whole i j l k t = and_from _ _ (and_from _ _ (lt-ltb i (length a.kept) l) (lt-ltb j (length a.kept) k)) t

  sound : (i j k : ℕ) → i < length a.kept → WayLeads (among a) i j k → IsTrue (rests_among a i j)
  sound i j k l w =
      let b = number_in a.kept i in
      let r = reached a (grid_way a.grid b k) j w.there in
      let t = h.precedes.sound b r.block k (h.below i 0 l) (record { inside = w.inside; there = r.there }) in
      let known = (h.precedes.known b r.block t).1 in
      let is = h.places.only r.block known (λ z. absurd (omega (arith, z, r.place))) in
      let same : number_in a.kept j ≡ r.block = ap (λ (x : ℕ). get_or a.kept x 0) (omega (arith, r.place)) ∙ is.1 in
      whole i j l (omega (arith, is.0, r.place)) (subst (λ (p : ℕ). IsTrue (rests_at a.grid b p)) (sym same) t)

  found : (i j : ℕ) → IsTrue (rests_among a i j) → (k : ℕ) × WayLeads (among a) i j k
  found i j t =
      let own = parts i j t in
      let w = h.precedes.found (number_in a.kept i) (number_in a.kept j) own.2 in
      let at : get_or a.places (number_in a.kept j) 0 ≡ suc j = omega (arith, h.places.at j own.1) in
      (w.0, record { inside = w.1.inside; there = ap (place_of a.places) w.1.there ∙ ap block_in at })

  pub among_is : IsPrecedence (among a)
  among_is = record {
    few = omega (arith, h.size, h.precedes.few);
    sound = sound;
    found = found;
    known = λ i j t. let own = parts i j t in (own.0, own.1);
    apart = λ i t. h.precedes.apart (number_in a.kept i) (parts i i t).2;
  }

  -- the pairs among the kept blocks, by their places
  pub among_part : IsPartPairs a.kept (implied (gridded a.grid)).pairs (implied (among a)).pairs
  among_part =
      let less = implied_is (among a) among_is in
      let all = implied_is (gridded a.grid) h.precedes in
      record {
        known = λ i j c. let own = parts i j (less.only i j c) in (own.0, own.1);
        same = λ i j l k. (
          λ c. all.held (number_in a.kept i) (number_in a.kept j) (parts i j (less.only i j c)).2,
          λ c. less.held i j (whole i j l k (all.only (number_in a.kept i) (number_in a.kept j) c)),
        );
      }
