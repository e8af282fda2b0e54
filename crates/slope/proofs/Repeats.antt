-- Places that come twice, and the index of places that don't.
use Rattle.fixed_worth.proofs.Common.{◌≡◌, ℕ, ◌+◌, ◌-◌, ◌<◌, ◌≤◌, inl, inr, pos, List, length, get_or, map, Option}
use Rattle.fixed_worth.proofs.Common.{Some, None, MatchOption, sym, ap, subst, ◌∙◌, arith, cases_order, get_or_default}
use Rattle.fixed_worth.proofs.Common.{get_or-map, length-map, common_steps}
use Rattle.blocks_file.specs.Denotes.{BlocksView}
use Rattle.slope_offsets.specs.Prelude.{Offset, OffsetBefore}
use Rattle.slope.specs.Prelude.{block_place, IsFirstRepeat, Entry, entry_at, entry_of, place_key, AreEntriesOf}
use Rattle.slope.specs.Prelude.{AreEntriesInOrder, IsRepeatAt, HaveNoRepeat, IsEarliestAmong, IsEarliestRepeat}
use Rattle.slope.specs.Prelude.{IsEarlierRepeat, IsIndex}
use Rattle.slope_offsets.proofs.OffsetSorting.{before_itself}
use Rattle.slope.proofs.EntryOrder.{neighbours}
use Rattle.slope.proofs.Finding.{key_same}

-- no neighbours among the first c have one key, or these are the earliest of them
abbrev pub SoFar : List Entry → ℕ → Option (ℕ × ℕ) → Type 0
SoFar es c repeat = MatchOption repeat ((k : ℕ) → k + 1 < c → IsRepeatAt es k → ⊥) (IsEarliestAmong es c)

module _ (es : List Entry) (i : ℕ) (some : 1 ≤ i) (inside : i < length es) where
  next : i - 1 + 1 ≡ i
  next = omega (arith, some)

  -- what holds of the earlier neighbours and of these two
  each_more : (P : ℕ → Type 0) → ((k : ℕ) → k + 1 < i → IsRepeatAt es k → P k) → (IsRepeatAt es (i - 1) → P (i - 1))
      → (k : ℕ) → k + 1 < i + 1 → IsRepeatAt es k → P k
  each_more P f g k l r = grind (arith, common_steps)

  pub repeat_passed : (repeat : Option (ℕ × ℕ)) → SoFar es i repeat
      → ((entry_at es (i - 1)).0 ≡ (entry_at es i).0 → ⊥) → SoFar es (i + 1) repeat
  repeat_passed None h n = each_more (λ k. ⊥) h (λ r. n (r.same ∙ ap (λ j. (entry_at es j).0) next))
  repeat_passed (Some repeat) h n = record {
    place = h.place;
    stands = h.stands;
    first = h.first;
    again = h.again;
    least = each_more (λ k. repeat.1 ≤ (entry_at es (k + 1)).1) h.least
        (λ r. absurd (n (r.same ∙ ap (λ j. (entry_at es j).0) next)));
  }

  module _ (same : (entry_at es (i - 1)).0 ≡ (entry_at es i).0) where
    repeats : IsRepeatAt es (i - 1)
    repeats = record { inside = omega (arith, next, inside); same = same ∙ ap (λ j. (entry_at es j).0) (sym next) }

    this : ℕ × ℕ
    this = ((entry_at es (i - 1)).1, (entry_at es i).1)

    last_least : (new : ℕ × ℕ) → new.1 ≤ (entry_at es i).1 → new.1 ≤ (entry_at es (i - 1 + 1)).1
    last_least new l = subst (λ j. new.1 ≤ (entry_at es j).1) (sym next) l

    is_this : (new : ℕ × ℕ) → new ≡ ((entry_at es (i - 1)).1, (entry_at es i).1)
        → ((k : ℕ) → k + 1 < i → IsRepeatAt es k → new.1 ≤ (entry_at es (k + 1)).1) → IsEarliestAmong es (i + 1) new
    is_this new e least =
        let e0 = ap (λ (r : ℕ × ℕ). r.0) e in
        let e1 = ap (λ (r : ℕ × ℕ). r.1) e in
        record {
          place = i - 1;
          stands = repeats;
          first = sym e0;
          again = ap (λ j. (entry_at es j).1) next ∙ sym e1;
          least = each_more (λ k. new.1 ≤ (entry_at es (k + 1)).1) least (λ r. last_least new (omega (arith, e1)));
        }

    pub repeat_taken : (repeat : Option (ℕ × ℕ)) (new : ℕ × ℕ) → SoFar es i repeat
        → IsEarlierRepeat repeat ((entry_at es (i - 1)).1, (entry_at es i).1) new → IsEarliestAmong es (i + 1) new
    repeat_taken None new h e = is_this new e (λ k l r. absurd (h k l r))
    repeat_taken (Some repeat) new h (which, before, this) =
        let least : (k : ℕ) → k + 1 < i → IsRepeatAt es k
        → new.1 ≤ (entry_at es (k + 1)).1 = λ k l r. let b = h.least k l r in omega (arith, before, b) in
        elim which [
          | inr e ↦ is_this new e least
          | inl e ↦ record {
            place = h.place;
            stands = h.stands;
            first = h.first ∙ ap (λ (r : ℕ × ℕ). r.0) (sym e);
            again = h.again ∙ ap (λ (r : ℕ × ℕ). r.1) (sym e);
            least = each_more (λ k. new.1 ≤ (entry_at es (k + 1)).1) least (λ r. last_least new this);
          }
        ]

-- what was found among all neighbours
pub all_told : (es : List Entry) (c : ℕ) (repeat : Option (ℕ × ℕ)) → length es ≤ c → SoFar es c repeat
    → MatchOption repeat (HaveNoRepeat es) (IsEarliestRepeat es)
all_told es c repeat l h = grind (arith, common_steps)

module _ (m : BlocksView) (es : List Entry) (a : AreEntriesOf m es) (o : AreEntriesInOrder es) where
  d : Entry
  d = ((pos 0, pos 0, pos 0), 0)

  own : (k : ℕ) → k < length es → ((entry_at es k).1 < m.blocks) × (entry_at es k ≡ entry_of m (entry_at es k).1)
  own k l = a.only (entry_at es k) (k, l, get_or_default es k (entry_at es k) ((pos 0, pos 0, pos 0), 0) l)

  -- where a block's entry stands
  place_in : (b : ℕ) → b < m.blocks → (k : ℕ) × (k < length es) × (entry_at es k ≡ entry_of m b)
  place_in b l = let h = a.held b l in (
    h.0,
    h.1,
    get_or_default es h.0 ((pos 0, pos 0, pos 0), 0) (entry_of m b) h.1
        ∙ h.2,
  )

  module _ (i j : ℕ) (below : i < j) (known : j < m.blocks) (same : block_place m i ≡ block_place m j) where
    -- the block that comes later at one place has the key of its neighbour
    later : (q : ℕ) × IsRepeatAt es q × ((entry_at es (q + 1)).1 ≡ j)
    later =
        let p = place_in i (omega (arith, below, known)) in
        let q = place_in j known in
        let kp = ap (λ (e : Entry). e.0) p.2 in
        let kq = ap (λ (e : Entry). e.0) q.2 in
        let bp = ap (λ (e : Entry). e.1) p.2 in
        let bq = ap (λ (e : Entry). e.1) q.2 in
        let keys : (entry_at es p.0).0 ≡ (entry_at es q.0).0 = kp ∙ ap place_key same ∙ sym kq in
        elim (cases_order p.0 q.0) [
          | inl one ↦
              let blocks : i ≡ j = sym bp ∙ ap (λ k. (entry_at es k).1) one ∙ bq in
              absurd (omega (arith, blocks, below))
          | inr w ↦ elim w [
            | inl first ↦
                let next : q.0 - 1 + 1 ≡ q.0 = omega (arith, first) in
                (q.0 - 1, neighbours es o p.0 q.0 first q.1 keys, ap (λ k. (entry_at es k).1) next ∙ bq)
            | inr turned ↦ elim (o.rises q.0 p.0 ((pos 0, pos 0, pos 0), 0) turned p.1) [
              | inl b ↦ absurd (before_itself (entry_at es p.0).0
                  (subst (λ x. OffsetBefore x (entry_at es p.0).0) (sym keys) b))
              | inr s ↦
                  let l = s.1 in
                  absurd (omega (arith, l, bp, bq, below))
            ]
          ]
        ]

  pub first_repeat_is : (b c : ℕ) → IsEarliestRepeat es (b, c) → IsFirstRepeat m b c
  first_repeat_is b c h =
      let k = h.place in
      let n = h.stands.inside in
      let x = own k (omega (arith, n)) in
      let y = own (k + 1) n in
      let key_x = ap (λ (e : Entry). e.0) x.1 ∙ ap (λ j. place_key (block_place m j)) h.first in
      let key_y = ap (λ (e : Entry). e.0) y.1 ∙ ap (λ j. place_key (block_place m j)) h.again in
      let first = h.first in
      let again = h.again in
      let at : block_place m b ≡ block_place m c = key_same (block_place m b) (block_place m c)
      (sym key_x ∙ h.stands.same ∙ key_y) in
      record {
        earlier = elim (o.rises k (k + 1) ((pos 0, pos 0, pos 0), 0) (omega arith) n) [
          | inl s ↦ absurd (before_itself (entry_at es (k + 1)).0
              (subst (λ z. OffsetBefore z (entry_at es (k + 1)).0) h.stands.same s))
          | inr s ↦ let l = s.1 in omega (arith, l, first, again)
        ];
        known = let l = y.0 in omega (arith, l, again);
        same = at;
        first = λ i j l r e.
            let known : j < m.blocks = (let f = y.0 in omega (arith, f, again, r)) in
            let z = later i j l known e in
            let in_list = z.1.inside in
            let least = h.least z.0 in_list z.1 in
            let block = z.2 in
            omega (arith, least, block, r);
      }

  pub index_is : (keys : List Offset) (blocks : List ℕ) → HaveNoRepeat es → keys ≡ map (λ (e : Entry). e.0) es
      → blocks ≡ map (λ (e : Entry). e.1) es → IsIndex m keys blocks
  index_is keys blocks none keys_are blocks_are =
      let size : length keys ≡ length es = ap length keys_are ∙ length-map es (λ (e : Entry). e.0) in
      let sizes : length blocks ≡ length es = ap length blocks_are ∙ length-map es (λ (e : Entry). e.1) in
      let key : (i : ℕ) (f : Offset) → i < length es
      → get_or keys i f ≡ (entry_at es i).0 = λ i f l. ap (λ xs. get_or xs i f) keys_are
      ∙ get_or-map (λ (e : Entry). e.0) es i ((pos 0, pos 0, pos 0), 0) f l in
      let block : (i : ℕ) (f : ℕ) → i < length es
      → get_or blocks i f ≡ (entry_at es i).1 = λ i f l. ap (λ xs. get_or xs i f) blocks_are
      ∙ get_or-map (λ (e : Entry). e.1) es i ((pos 0, pos 0, pos 0), 0) f l in
      record {
        rising = record {
          rises = λ i j f l r.
              let in_list : j < length es = omega (arith, r, size) in
              let k = key i f (omega (arith, l, in_list)) in
              let n = key j f in_list in
              elim (o.rises i j ((pos 0, pos 0, pos 0), 0) l in_list) [
                | inl b ↦ subst (λ x. OffsetBefore x (get_or keys j f)) (sym k)
                    (subst (OffsetBefore (entry_at es i).0) (sym n) b)
                | inr s ↦ absurd (none (j - 1) (neighbours es o i j l in_list s.0))
              ];
        };
        as_many = sizes ∙ sym size;
        stands = λ i f e l.
            let in_list : i < length es = omega (arith, l, size) in
            let x = own i in_list in
            let b = block i e in_list in (
              subst (λ n. n < m.blocks) (sym b) x.0,
              ap (λ n. place_key (block_place m n)) b
                  ∙ sym (ap (λ (e : Entry). e.0) x.1) ∙ sym (key i f in_list),
            );
        finds = λ b l.
            let p = place_in b l in
            let in_list = p.1 in
            (p.0, omega (arith, in_list, size), λ e. block p.0 e p.1 ∙ ap (λ (e : Entry). e.1) p.2);
        fits = a.fits;
      }
