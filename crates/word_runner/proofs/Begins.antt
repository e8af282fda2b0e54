-- Making the table, and one seat and two.
use Rattle.fixed_worth.proofs.Common.{◌≡◌, ◌≢◌, ℕ, zero, suc, ◌+◌, ◌%◌, ◌<◌, ◌==◌, ◌⊎◌, inl, inr, Bool, true, false}
use Rattle.fixed_worth.proofs.Common.{nat_eq, if◌then◌else◌, List, [], ◌∷◌, ◌++◌, length, replicate, get_or, set, sym}
use Rattle.fixed_worth.proofs.Common.{refl, ap, ◌∙◌, subst, arith, length-set, true≢false, ⊎_elim, append-nil, eq-eqb}
use Rattle.fixed_worth.proofs.Common.{ne_eqb, get_or-append-add, get_or_append_left, get_or-replicate, length-replicate}
use Rattle.fixed_worth.proofs.Common.{filter-append, common_steps}
use Rattle.machine_law.specs.declared.events.Event.{Event}
use mathlib.Core.Logic.{dite}
use native.Mathlib.Decide.{ℕ_discrete}
use mathlib.Core.Option.{none, some, some-injective, some-ne-none}
use lib.ListN.{get_elem?}
use Rattle.atomic_table.specs.Table.{opening, Splits, Joins}
use Rattle.atomic_table.proofs.Lists.{at_set}
use Rattle.prec_file.specs.Rests.{from_at}
use Rattle.closure_net.specs.Network.{NetView}
use Rattle.machine_law.specs.declared.operations.Operation.TheVariants.{Idle}
use Rattle.machine_law.specs.Operations.{operation_as}
use Rattle.machine_law.specs.States as law
use Rattle.word_steps.specs.declared.view.View.{View}
use Rattle.word_steps.specs.Prelude.{count, units, Cells, excess_at, label_at, source_at, room_at, flow_at, of_block}
use Rattle.word_steps.specs.Prelude.{IsRuled, Sees, IsSeatsOwn, first_view, start_words, IsStart, IsMadeBy, IsSole}
use Rattle.word_steps.specs.Prelude.{IsHalf, half, left_half, right_half, joined_view, spent_view}
use Rattle.word_steps.proofs.SeatViews.{free_operation, seats_set}
use Rattle.word_steps.proofs.Units.{units_same, by_one}

past : (xs ys : List ℕ) (n i x : ℕ) → length xs ≡ n → i ≡ n + x → get_or (xs ++ ys) i 0 ≡ get_or ys x 0
past xs ys n i x l e = let e' : i ≡ length xs + x = omega arith in ap (λ (k : ℕ). get_or (xs ++ ys) k 0) e'
    ∙ get_or-append-add xs ys x 0

pub widths : (gain loss : List ℕ) (n m : ℕ) → length gain ≡ n → length loss ≡ n
    → length (start_words gain loss n m) ≡ 2 + n + n + n + n + m
widths gain loss n m g l = grind (arith, common_steps)

module _ (net : NetView) (gain loss : List ℕ) (q : IsStart net gain loss) where
  abbrev n : ℕ
  n = count net

  abbrev m : ℕ
  m = length net.pairs

  starts_cells : Cells net (law.opening net) (start_words gain loss n m)
  starts_cells =
      let head : List ℕ = 0 ∷ 0 ∷ [] in
      let five : List ℕ = replicate m 0 in
      let four : List ℕ = loss ++ five in
      let three : List ℕ = gain ++ four in
      let two : List ℕ = replicate n 0 ++ three in
      let one : List ℕ = gain ++ two in
      let g = q.gains in
      let z = let o : ℕ = 0 in length-replicate n o in
      let lo = q.losses in
      record {
        wide = widths gain loss n m g lo;
        at_source = refl;
        at_sink = refl;
        excess = λ x l. q.positive x l
            ∙ ap units (sym (past head one 2 (excess_at net x) x refl refl
            ∙ get_or_append_left gain two 0 x (omega arith)));
        label = λ x l. sym (past head one 2 (label_at net x) (n + x) refl (omega arith)
            ∙ past gain two n (n + x) x g refl ∙ get_or_append_left (replicate n 0) three 0 x (omega (arith, z, l))
            ∙ get_or-replicate n x 0 0 l);
        source = λ x l. q.positive x l
            ∙ ap units (sym (past head one 2 (source_at net x) (n + n + x) refl (omega arith)
            ∙ past gain two n (n + n + x) (n + x) g (omega arith) ∙ past (replicate n 0) three n (n + x) x z refl
            ∙ get_or_append_left gain four 0 x (omega arith)));
        room = λ x l. (grind (arith, common_steps))
            ∙ ap units (sym (past head one 2 (room_at net x) (n + n + n + x) refl (omega arith)
            ∙ past gain two n (n + n + n + x) (n + n + x) g (omega arith)
            ∙ past (replicate n 0) three n (n + n + x) (n + x) z (omega arith) ∙ past gain four n (n + x) x g refl
            ∙ get_or_append_left loss five 0 x (omega arith)));
        flow = λ j l. ap units (sym (past head one 2 (flow_at net j) (n + n + n + n + j) refl (omega arith)
            ∙ past gain two n (n + n + n + n + j) (n + n + n + j) g (omega arith)
            ∙ past (replicate n 0) three n (n + n + n + j) (n + n + j) z (omega arith)
            ∙ past gain four n (n + n + j) (n + j) g (omega arith) ∙ past loss five n (n + j) j lo refl
            ∙ get_or-replicate m j 0 0 l));
      }

only : (v w : View) (P : ℕ → View → Type 0) → P 0 v → (j : ℕ) → get_elem? (v ∷ []) j ≡ some w → P j w
only v w P h j e = grind (arith, common_steps)

pub begins : (key : NetView) (gain loss : List ℕ) → IsStart key gain loss
    → IsRuled key (opening (start_words gain loss (count key) (length key.pairs)) [] (first_view key))
begins key gain loss q =
    let net = key in
    let v = first_view key in
    let c = starts_cells net gain loss q in
    record {
      events = [];
      machine = law.opening net;
      owner = λ _. 0;
      is_net = q.is_net;
      small = q.small;
      run = refl;
      made = λ j w e. only v w (λ k x. IsMadeBy net [] x) (record { own = λ b l o. refl; other = λ b l no. refl }) j e;
      cells = c;
      seats = λ j w e. only v w
          (λ k x. Sees net (law.opening net) (λ _. 0) (start_words gain loss (count net) (length net.pairs)) k x)
          (record {
            owns = λ b l o. refl;
            operation = λ b l o. sym (ap (operation_as units) (free_operation v b refl));
            label = λ b l o r. sym (get_or-replicate (count net) b 0 0 l);
            flow = λ p l o r. let f = units_same _ _ (c.flow p l) in omega arith;
          }) j e;
    }

-- ---- one seat and two
pub sole_owns : (v : View) (b : ℕ) → IsSole v → IsSeatsOwn v b
sole_owns v b s = record { live = s.live; serves = ap (λ (k : ℕ). b % k) s.workers ∙ by_one b ∙ sym s.number }

at_end : {A : Type 0} (l : List A) (a b : A) (j : ℕ) → get_elem? (l ++ a ∷ []) j ≡ some b → (get_elem? l j ≡ some b)
    ⊎ ((j ≡ length l) × (a ≡ b))
at_end [] a b zero e = inr (refl, some-injective a b e)
at_end [] a b (suc j) e = absurd (some-ne-none b (sym e))
at_end (x ∷ xs) a b zero e = inl e
at_end (x ∷ xs) a b (suc j) e = ⊎_elim inl (λ t. inr (ap suc t.0, t.1)) (at_end xs a b j e)

pub splits : (key : NetView) (id : ℕ) (v : View) → IsSole v → Splits (IsRuled key) id v (left_half v) (right_half v)
splits key id v q s r at =
    let net = key in
    let mine = r.seats id v at in
    let k = length s.views in
    let Told : ℕ → View → Type 0 = λ j x. IsMadeBy net r.events x in
    let owner : ℕ → ℕ = λ b. if nat_eq (b % 2) 0 then id else k in
    let all : (b : ℕ) → b < count net → r.owner b ≡ id = λ b l. mine.owns b l (sole_owns v b q) in
    let half_made : (h : ℕ) → IsMadeBy net r.events (half h v) = λ h. record {
      own = λ b l o. (r.made id v at).own b l (sole_owns v b q) ∙ ap (of_block b) q.none;
      other = λ b l no. refl;
    } in
    let half_sees : (h j : ℕ) → ((b : ℕ) → b % 2 ≡ h → owner b ≡ j)
    → Sees net r.machine owner s.words j (half h v) = λ h j is. record {
      owns = λ b l o. is b o.serves;
      operation = λ b l o. mine.operation b l (sole_owns v b q);
      label = λ b l o run. mine.label b l (sole_owns v b q) run;
      flow = λ p l o run. mine.flow p l (sole_owns v (from_at net.pairs p) q) run;
    } in
    let other : (j : ℕ) (w : View) → j ≢ id → get_elem? s.views j ≡ some w
    → Sees net r.machine owner s.words j w = λ j w ne e. let old = r.seats j w e in record {
      owns = λ b l o. absurd (ne (sym (old.owns b l o) ∙ all b l));
      operation = old.operation;
      label = old.label;
      flow = old.flow;
    } in
    record {
      events = r.events;
      machine = r.machine;
      owner = owner;
      is_net = r.is_net;
      small = r.small;
      run = r.run;
      made = λ j w e. ⊎_elim
          (λ h. seats_set Told s.views id (left_half v) (half_made 0) (λ i x ne f. r.made i x f) j w h)
          (λ (t : (j ≡ length (set s.views id (left_half v))) × (right_half v ≡ w)). subst (λ (x : View). Told 0 x)
          t.1 (half_made 1))
          (at_end (set s.views id (left_half v)) (right_half v) w j e);
      cells = r.cells;
      seats = λ j w e. ⊎_elim
          (λ h. seats_set (λ i x. Sees net r.machine owner s.words i x) s.views id (left_half v)
          (half_sees 0 id (λ b z. ap (λ (c : Bool). if c then id else k) (eq-eqb (b % 2) 0 z))) other j w h)
          (λ (t : (j ≡ length (set s.views id (left_half v))) × (right_half v ≡ w)). subst
          (λ (x : ℕ × View). Sees net r.machine owner s.words x.0 x.1)
          (λ i. (sym (t.0 ∙ length-set s.views id (left_half v)) i, t.1 i))
          (half_sees 1 k (λ b z. ap (λ (c : Bool). if c then id else k) (ne_eqb (b % 2) 0 (λ f. omega arith)))))
          (at_end (set s.views id (left_half v)) (right_half v) w j e);
    }

pub joins : (key : NetView) (id o : ℕ) (v w : View) → IsHalf 0 v → IsHalf 1 w
    → Joins (IsRuled key) id v o w (joined_view v w) spent_view
joins key id o v w q p s r at ne at' =
    let net = key in
    let mine = r.seats id v at in
    let both = joined_view v w in
    let views = set s.views id both in
    let there : get_elem? s.views o ≡ some w = ⊎_elim (λ (t : (o ≡ id) × (both ≡ w)). absurd (ne t.0))
    (λ (t : (o ≢ id) × (get_elem? s.views o ≡ some w)). t.1) (at_set s.views id o both w at') in
    let yours = r.seats o w there in
    let even : (b : ℕ) → b % 2 ≡ 0
    → IsSeatsOwn v b = λ b z. record {
      live = q.live;
      serves = ap (λ (k : ℕ). b % k) q.workers ∙ z
          ∙ sym q.number;
    } in
    let odd : (b : ℕ) → b % 2 ≡ 1
    → IsSeatsOwn w b = λ b z. record {
      live = p.live;
      serves = ap (λ (k : ℕ). b % k) p.workers ∙ z
          ∙ sym p.number;
    } in
    let idle : (b : ℕ) → b < count net → r.machine.operation b ≡ Idle = λ b l. dite (ℕ_discrete (b % 2) 0)
    (λ z. mine.operation b l (even b z) ∙ ap (operation_as units) (free_operation v b q.free))
    (λ z. yours.operation b l (odd b (omega arith)) ∙ ap (operation_as units) (free_operation w b p.free)) in
    let Told : ℕ → View → Type 0 = λ j x. IsMadeBy net r.events x in
    let both_made : (b : ℕ) → b < count net → of_block b r.events ≡ of_block b (v.made ++ w.made) = λ b l. dite
    (ℕ_discrete (b % 2) 0)
    (λ z. (r.made id v at).own b l (even b z) ∙ sym (append-nil (of_block b v.made))
    ∙ ap (λ (x : List Event). of_block b v.made ++ x)
    (sym ((r.made o w there).other b l (λ h. not_odd b z (h.serves) p.workers p.number)))
    ∙ sym (of_both b v.made w.made))
    (λ z. (r.made o w there).own b l (odd b (omega (arith, z)))
    ∙ ap (λ (x : List Event). x ++ of_block b w.made)
    (sym ((r.made id v at).other b l (λ h. not_even b z (h.serves) q.workers q.number)))
    ∙ sym (of_both b v.made w.made)) in
    let owner : ℕ → ℕ = λ _. id in
    record {
      events = r.events;
      machine = r.machine;
      owner = owner;
      is_net = r.is_net;
      small = r.small;
      run = r.run;
      made = seats_set Told views o spent_view (record { own = λ b l h. absurd (dead h.live); other = λ b l no. refl })
          (λ j x ne e. seats_set Told s.views id both
          (record {
            own = λ b l h. both_made b l;
            other = λ b l no. absurd
                (no (record { live = q.live; serves = by_one b }));
          }) (λ k y nk f. r.made k y f) j x e);
      cells = r.cells;
      seats = seats_set (λ i x. Sees net r.machine owner s.words i x) views o spent_view
          (record {
            owns = λ b l h. absurd (dead h.live);
            operation = λ b l h. absurd (dead h.live);
            label = λ b l h
                run. absurd (dead h.live);
            flow = λ b l h run. absurd (dead h.live);
          })
          (λ j x nj e. ⊎_elim
          (λ (t : (j ≡ id) × (both ≡ x)). subst (λ (y : ℕ × View). Sees net r.machine owner s.words y.0 y.1)
          (λ i. (sym t.0 i, t.1 i)) (record {
            owns = λ b l h. refl;
            operation = λ b l h. idle b l ∙ sym (ap (operation_as units) (free_operation both b q.free));
            label = λ b l h run. absurd (dead (sym run));
            flow = λ b l h run. absurd (dead (sym run));
          }))
          (λ (t : (j ≢ id) × (get_elem? s.views j ≡ some x)). let old = r.seats j x t.1 in let none_own : (b : ℕ)
          → b < count net → IsSeatsOwn x b → ⊥ = λ b l h. dite (ℕ_discrete (b % 2) 0)
          (λ z. t.0 (sym (old.owns b l h) ∙ mine.owns b l (even b z)))
          (λ z. nj (sym (old.owns b l h) ∙ yours.owns b l (odd b (omega arith)))) in record {
            owns = λ b l h. absurd (none_own b l h);
            operation = old.operation;
            label = old.label;
            flow = old.flow;
          })
          (at_set s.views id j both x e));
    }
  where
    of_both : (b : ℕ) (xs ys : List Event) → of_block b (xs ++ ys) ≡ of_block b xs ++ of_block b ys
    of_both b xs ys = filter-append (λ (z : Event). z.block == b) xs ys

    not_odd : (b : ℕ) → b % 2 ≡ 0 → b % w.workers ≡ w.number → w.workers ≡ 2 → w.number ≡ 1 → ⊥
    not_odd b z e k n = let f : b % 2 ≡ 1 = ap (λ (j : ℕ). b % j) (sym k) ∙ e ∙ n in omega (arith, z, f)

    not_even : (b : ℕ) → b % 2 ≢ 0 → b % v.workers ≡ v.number → v.workers ≡ 2 → v.number ≡ 0 → ⊥
    not_even b z e k n = z (ap (λ (j : ℕ). b % j) (sym k) ∙ e ∙ n)

    dead : false ≡ true → ⊥
    dead e = true≢false (sym e)
