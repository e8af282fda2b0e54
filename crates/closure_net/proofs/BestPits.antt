-- Pits, and which of them is best.
use Rattle.fixed_worth.proofs.Common.{◌≡◌, ℕ, ◌≤◌, ◌≤ℤ◌, Bool, true, IsTrue, inl, inr, sym, subst, ◌∙◌, arith, ints}
use Rattle.fixed_worth.proofs.Common.{and_parts, and_from, or_cases, or_left, or_right, cases_lt, common_steps}
use Rattle.ordered_group.specs.Sets.{worth_in}
use Rattle.ordered_group.proofs.Totals.{union, intersection, within_first, within_second}
use Rattle.ordered_group.proofs.BlockSets.{count_in-within, worth_of_two, lead_rises, worth_in-same, count_in-same}
use Rattle.closure_net.specs.Mine.{Mine, IsPit, worth_of, block_count_of, AreSame, IsBest, RisesTo, LiesWithin}
use Rattle.closure_net.specs.Mine.{RestsWithin}

pub union_is_pit : (mine : Mine) (e c : ℕ → Bool) → IsPit mine e → IsPit mine c → IsPit mine (union e c)
union_is_pit mine e c h k b p r t = elim (or_cases (e b) (c b) t)
    [ inl x ↦ or_left (e p) (c p) (h b p r x) | inr x ↦ or_right (e p) (c p) (k b p r x) ]

pub intersection_is_pit : (mine : Mine) (e c : ℕ → Bool) → IsPit mine e → IsPit mine c → IsPit mine (intersection e c)
intersection_is_pit mine e c h k b p r t = let x = and_parts (e b) (c b) t in and_from (e p) (c p) (h b p r x.0)
    (k b p r x.1)

-- a pit that no pit is worth more than, and none that is worth the same has fewer blocks than, is the best
pub best_from_fewest : (mine : Mine) (e : ℕ → Bool) → IsPit mine e
    → ((c : ℕ → Bool) → IsPit mine c → worth_of mine c ≤ℤ worth_of mine e)
    → ((c : ℕ → Bool) → IsPit mine c → worth_of mine c ≡ worth_of mine e
    → block_count_of mine e ≤ block_count_of mine c)
    → IsBest mine e
best_from_fewest mine e pit most fewest = record {
  is_pit = pit;
  most = most;
  fewest = λ c p differ same.
      let n = mine.blocks in
      let i = intersection_is_pit mine c e p pit in
      let u = union_is_pit mine c e p pit in
      let sums = worth_of_two mine.worth c e n in
      let as_much : worth_of mine (intersection c e) ≡ worth_of mine e = omega
      (arith, ints, sums, most (union c e) u, most (intersection c e) i, same) in
      let few = fewest (intersection c e) i as_much in
      let in_c = count_in-within (intersection c e) c n (λ b l. within_first c e b) in
      let in_e = count_in-within (intersection c e) e n (λ b l. within_second c e b) in
      elim (cases_lt (block_count_of mine e) (block_count_of mine c)) [
        | inl l ↦ l
        | inr l ↦ absurd (differ (λ b k. sym (in_c.1 (omega (arith, few, in_c.0, l)) b k)
            ∙ in_e.1 (omega (arith, few, in_e.0)) b k))
      ];
}

-- two tests that can't differ agree
pub agree : (s t : Bool) → ¬ (¬ (s ≡ t)) → s ≡ t
agree s t h = grind (arith, common_steps)

-- both are best, so each has fewer blocks than the other where they differ
pub best_is_one : (mine : Mine) (e c : ℕ → Bool) → IsBest mine e → IsBest mine c → AreSame mine e c
best_is_one mine e c h k b l = agree (e b) (c b) (λ differ.
    let same : worth_of mine c ≡ worth_of mine e = omega (arith, ints, h.most c k.is_pit, k.most e h.is_pit) in
    let fewer = h.fewest c k.is_pit (λ s. differ (sym (s b l))) same in
    let more = k.fewest e h.is_pit (λ s. differ (s b l)) (sym same) in
    omega (arith, fewer, more))

pub pit_of_later : (mine later : Mine) (e : ℕ → Bool) → RisesTo mine later → IsPit mine e → IsPit later e
pit_of_later mine later e r h b p t = let i : IsTrue (mine.rests b p) = sym (r.rests b p) ∙ t in h b p i

pub pit_of_earlier : (mine later : Mine) (e : ℕ → Bool) → RisesTo mine later → IsPit later e → IsPit mine e
pit_of_earlier mine later e r h b p t = let i : IsTrue (later.rests b p) = r.rests b p ∙ t in h b p i

-- what the best pit has beside a later one is worth something, and later no less: so the later one has it
pub best_is_within : (mine later : Mine) (e c : ℕ → Bool) → RisesTo mine later → IsBest mine e → IsBest later c
    → LiesWithin mine e c
best_is_within mine later e c r h k b l t =
    let n = mine.blocks in
    let c_pit = pit_of_earlier mine later c r k.is_pit in
    let e_pit = pit_of_later mine later e r h.is_pit in
    let i = intersection_is_pit mine e c h.is_pit c_pit in
    let u = union_is_pit later e c e_pit k.is_pit in
    let P : ℕ → Type 0 = λ m. worth_in later.worth (union e c) m ≤ℤ worth_in later.worth c m in
    let most : worth_in later.worth (union e c) n ≤ℤ worth_in later.worth c n = subst P r.blocks
    (k.most (union e c) u) in
    let sums = worth_of_two later.worth e c n in
    let lead = lead_rises mine.worth later.worth (intersection e c) e n (λ b l. within_first e c b) r.worths in
    let as_much : worth_of mine (intersection e c) ≡ worth_of mine e = omega
    (arith, ints, most, sums, lead, h.most (intersection e c) i) in
    let few = (count_in-within (intersection e c) e n (λ b l. within_first e c b)).0 in
    agree (c b) true (λ differ.
    let fewer = h.fewest (intersection e c) i (λ s. differ ((and_parts (e b) (c b) (s b l ∙ t)).1)) as_much in
    omega (arith, few, fewer))

-- a set with the blocks of the best pit is the best pit
pub best_of_same : (mine : Mine) (e c : ℕ → Bool) → RestsWithin mine → IsBest mine e → AreSame mine c e → IsBest mine c
best_of_same mine e c o h s = grind (arith, common_steps, worth_in-same, count_in-same)
