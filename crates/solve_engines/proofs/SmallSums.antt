-- Small amounts: every sum that a check makes of them fits.
use Rattle.fixed_worth.proofs.Common.{◌≡◌, ℕ, zero, suc, ◌+◌, ◌*◌, ◌^◌, ◌<◌, ◌≤◌, ◌==◌, Bool, true, false, ℤ, pos}
use Rattle.fixed_worth.proofs.Common.{neg_ℤ, ◌≤ℤ◌, List, [], ◌∷◌, length, refl, arith, ints}
use Rattle.ordered_group.specs.Prelude.{Amount, plus, minus, positive, larger_of, amount_cmp, zero_amount, FitsPair}
use Rattle.ordered_group.specs.Prelude.{total, where_so, at_end, amount_at}
use Rattle.std.specs.declared.cmp.Ordering.{Ordering}
use Rattle.std.specs.declared.cmp.Ordering.TheVariants.{Less, Equal, Greater}
use Rattle.fixed_worth.specs.declared.limits.TheConstants.{MOST_BLOCKS}
use Rattle.prec_file.specs.Rests.{from_at, to_at}
use Rattle.closure_net.specs.Prelude.{NetView, FlowView, IsNet, holds_of, residual_at}
use Rattle.check_pit.specs.Fits.{EndFits, SetFits, ResidualFits, SumsFit}
use Rattle.solve_engines.specs.Small.{IsSmallAmount, AreSmall, IsSmallWorth, AreSmallWorths, IsSmallFlow}

-- at most so many times 2^89, above and below zero
abbrev Bounded : ℕ → Amount → Type 0
Bounded m x = ((neg_ℤ (pos (m * 2 ^ 89)) ≤ℤ x.w) × (x.w ≤ℤ pos (m * 2 ^ 89)))
    × ((neg_ℤ (pos (m * 2 ^ 89)) ≤ℤ x.c) × (x.c ≤ℤ pos (m * 2 ^ 89)))

plus_bounded : (m : ℕ) (x y : Amount) → Bounded m x → Bounded 1 y → Bounded (suc m) (plus x y)
plus_bounded m x y a b =
    ((omega (arith, ints, a, b), omega (arith, ints, a, b)), (omega (arith, ints, a, b), omega (arith, ints, a, b)))

sum_bounded : (g : ℕ → Amount) (m : ℕ) → ((k : ℕ) → k < m → Bounded 1 (g k)) → Bounded m (total g m)
sum_bounded g zero h = ((omega (arith, ints), omega (arith, ints)), (omega (arith, ints), omega (arith, ints)))
sum_bounded g (suc m) h = plus_bounded m (total g m) (g m) (sum_bounded g m (λ k l. h k (omega (arith, l))))
    (h m (omega arith))

small_bounded : (x : Amount) → IsSmallAmount x → Bounded 1 x
small_bounded x s = ((omega (arith, ints, s), omega (arith, ints, s)), (omega (arith, ints, s), omega (arith, ints, s)))

-- zero is small
pub zero_small : IsSmallAmount zero_amount
zero_small = ((omega (arith, ints), omega (arith, ints)), (omega (arith, ints), omega (arith, ints)))

none_bounded : Bounded 1 zero_amount
none_bounded = ((omega (arith, ints), omega (arith, ints)), (omega (arith, ints), omega (arith, ints)))

where_bounded : (t : Bool) (x : Amount) → Bounded 1 x → Bounded 1 (where_so t x)
where_bounded true x h = h
where_bounded false x h = none_bounded

fits : (m : ℕ) (x : Amount) → m ≤ 2 ^ 37 → Bounded m x → FitsPair x
fits m x l b = (omega (arith, ints, l, b), omega (arith, ints, l, b))

-- ---- the sums of a check

ends_fit : (start : Amount) (end : ℕ → ℕ) (f : ℕ → Amount) (b m : ℕ) → m ≤ 2 ^ 36 → IsSmallAmount start
    → ((k : ℕ) → k < m → IsSmallAmount (f k)) → EndFits start end f b m
ends_fit start end f b m few s h k l e =
    let sum = sum_bounded (λ j. where_so (end j == b) (f j)) k
    (λ j i. where_bounded (end j == b) (f j) (small_bounded (f j) (h j (omega (arith, i, l))))) in
    let a = small_bounded start s in
    let y = small_bounded (f k) (h k l) in
    let both : Bounded (suc k) (plus start (at_end end f k b)) = (
      (omega (arith, ints, sum, a), omega (arith, ints, sum, a)),
      (omega (arith, ints, sum, a), omega (arith, ints, sum, a)),
    ) in
    fits (suc (suc k)) (plus (plus start (at_end end f k b)) (f k)) (omega (arith, few, l))
    (plus_bounded (suc k) _ _ both y)

-- ---- what blocks are worth

-- such a worth, less what flows, is at most 4,096 times 2^89
plus_worth : (m : ℕ) (x y : Amount) → Bounded m x → Bounded 4096 y → Bounded (m + 4096) (plus x y)
plus_worth m x y a b = (
  (omega (arith, ints, a, b), omega (arith, ints, a, b)),
  (omega (arith, ints, a, b), omega (arith, ints, a, b)),
)

sum_worths : (g : ℕ → Amount) (m : ℕ) → ((k : ℕ) → k < m → Bounded 4096 (g k)) → Bounded (m * 4096) (total g m)
sum_worths g zero h = ((omega (arith, ints), omega (arith, ints)), (omega (arith, ints), omega (arith, ints)))
sum_worths g (suc m) h =
    let more = plus_worth (m * 4096) (total g m) (g m) (sum_worths g m (λ k l. h k (omega (arith, l))))
    (h m (omega arith)) in
    ((omega (arith, ints, more), omega (arith, ints, more)), (omega (arith, ints, more), omega (arith, ints, more)))

worth_bounded : (x : Amount) → IsSmallWorth x → Bounded 4096 x
worth_bounded x s = ((omega (arith, ints, s), omega (arith, ints, s)), (omega (arith, ints, s), omega (arith, ints, s)))

where_worth : (t : Bool) (x : Amount) → Bounded 4096 x → Bounded 4096 (where_so t x)
where_worth true x h = h
where_worth false x h = ((omega (arith, ints), omega (arith, ints)), (omega (arith, ints), omega (arith, ints)))

positive_small : (o : Ordering) (x : Amount) → IsSmallWorth x → IsSmallWorth (larger_of o x zero_amount)
positive_small Less x s = ((omega (arith, ints), omega (arith, ints)), (omega (arith, ints), omega (arith, ints)))
positive_small Equal x s = s
positive_small Greater x s = s

minus_bounded : (x y : Amount) → IsSmallWorth x → IsSmallAmount y → Bounded 4096 (minus x y)
minus_bounded x y a b = (
  (omega (arith, ints, a, b), omega (arith, ints, a, b)),
  (omega (arith, ints, a, b), omega (arith, ints, a, b)),
)

set_fits : (ws : List Amount) (e : ℕ → Bool) → length ws ≤ MOST_BLOCKS → AreSmallWorths ws → SetFits ws e
set_fits ws e few s k l t =
    let sum = sum_worths (λ b. where_so (e b) (amount_at ws b)) k
    (λ b i. where_worth (e b) (amount_at ws b) (worth_bounded (amount_at ws b) (s b (omega (arith, i, l))))) in
    fits (k * 4096 + 4096) _ (omega (arith, few, l))
    (plus_worth (k * 4096) _ (amount_at ws k) sum (worth_bounded (amount_at ws k) (s k l)))

room_fits : (ws ss : List Amount) (n : ℕ) → length ws ≡ n → length ss ≡ n → n ≤ MOST_BLOCKS → AreSmallWorths ws
    → AreSmall ss → (k : ℕ) → k < n → ResidualFits ws ss k
room_fits ws ss n a b few s r k l =
    let left : (j : ℕ) → j < n → Bounded 4096 (residual_at ws ss j) = λ j i. minus_bounded (positive (amount_at ws j))
    (amount_at ss j) (positive_small (amount_cmp (amount_at ws j) zero_amount) (amount_at ws j)
    (s j (omega (arith, i, a)))) (r j (omega (arith, i, b))) in
    let sum = sum_worths (residual_at ws ss) k (λ j i. left j (omega (arith, i, l))) in (
      fits 4096 (residual_at ws ss k) (omega arith) (left k l),
      fits (k * 4096 + 4096) _ (omega (arith, few, l))
          (plus_worth (k * 4096) _ (residual_at ws ss k) sum (left k l)),
    )

-- every sum of the check fits
pub sums_fit : (net : NetView) (flow : FlowView) (pit : List ℕ) → IsNet net → length flow.source ≡ length net.worths
    → length flow.rest ≡ length net.pairs → length flow.sink ≡ length net.worths → IsSmallFlow net flow
    → SumsFit net flow pit
sums_fit net flow pit is_net a b c s =
    let blocks = is_net.rests.blocks in
    let few = is_net.rests.few in
    record {
      balances = λ x l. (
        ends_fit (amount_at flow.source x) (to_at net.pairs) (amount_at flow.rest) x (length net.pairs) few
            (s.source x (omega (arith, l, a))) (λ k i. s.rest k (omega (arith, i, b))),
        ends_fit (amount_at flow.sink x) (from_at net.pairs) (amount_at flow.rest) x (length net.pairs) few
            (s.sink x (omega (arith, l, c))) (λ k i. s.rest k (omega (arith, i, b))),
      );
      set = set_fits net.worths (holds_of pit) blocks s.worths;
      room = room_fits net.worths flow.source (length net.worths) refl a blocks s.worths s.source;
    }
