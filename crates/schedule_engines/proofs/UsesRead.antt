-- What blocks use and for which they wait, by the columns of a model that was read of a text.
use Rattle.fixed_worth.proofs.Common.{◌≡◌, ℕ, zero, suc, Option, Some, None, Result, Ok, Err, MatchResult, IfSome, ◌+◌}
use Rattle.fixed_worth.proofs.Common.{◌*◌, ◌/◌, ◌%◌, ◌<◌, ◌≤◌, ℤ, pos, ◌<ℤ◌, unsigned_abs, List, [], ◌∷◌, ◌++◌, length}
use Rattle.fixed_worth.proofs.Common.{get_or, slice_index, inl, inr, refl, sym, ap, ap₂, subst, ◌∙◌, arith, ints}
use Rattle.fixed_worth.proofs.Common.{add-one, cases_lt, div-add-mod', div-mul-add, mul-le, length-append}
use Rattle.fixed_worth.proofs.Common.{get_or_append_left, get_or-append-add}
use Rattle.std.proofs.lemmas.Nat.{mod-mul-add, mod_below, div_below}
use Rattle.prec_file.specs.Rests.{ArePairsOf, RestsView}
use Rattle.blocks_file.specs.Denotes.{BlocksView}
use Rattle.engine_faults.specs.declared.engine_fault.EngineFault.{EngineFault}
use Rattle.mine_inputs.specs.Prelude.{ArePairsBy, BlocksFails, BlocksReadFails, ReadsBlocks, cell, rests_by}
use Rattle.engine_faults.specs.declared.engine_fault.EngineFault.TheVariants as engine
use Rattle.mine_inputs.proofs.Listed.{by_listed}
use Rattle.schedules.proofs.Layers.{some_blocks}
use Rattle.schedule_engines.specs.declared.plan_fault.PeriodsProblem.TheVariants as period_problem
use Rattle.schedule_engines.specs.declared.plan_fault.PlanFault.{PlanFault}
use Rattle.schedule_engines.specs.declared.plan_fault.PlanFault.TheVariants as plan
use Rattle.schedule_engines.specs.declared.uses.Uses.{Uses}
use Rattle.schedule_engines.specs.Prelude.{AllAre, AreUses, HasWaits, IsBlock, IsFirstWrong, IsUse, ReadsUses, UsesFail}
use Rattle.schedule_engines.specs.Prelude.{UsesWrong, WaitsWrong, first_pairs, in_columns, use_in}

-- ---- the number of a block

pub below_zero : (n : ℕ) (z : ℤ) → z <ℤ pos 0 → ¬ (IsBlock n z)
below_zero n z h x = let e = x.2 in omega (arith, ints, h, e)

pub no_whole : (n size : ℕ) (z : ℤ) → z ≡ pos size → ¬ (size / 1000000 * 1000000 ≡ size) → ¬ (IsBlock n z)
no_whole n size z is h x =
    let e : size ≡ x.0 * 1000000 = omega (arith, ints, sym is ∙ x.2) in
    let d : (x.0 * 1000000 + 0) / 1000000 ≡ x.0 = div-mul-add x.0 1000000 0 (omega arith) in
    let q : size / 1000000 ≡ (x.0 * 1000000 + 0) / 1000000 = ap (λ (k : ℕ). k / 1000000) (omega (arith, e)) in
    h (omega (arith, e, d, q))

pub too_high : (n size : ℕ) (z : ℤ) → z ≡ pos size → n ≤ size / 1000000 → ¬ (IsBlock n z)
too_high n size z is h x =
    let e : size ≡ x.0 * 1000000 = omega (arith, ints, sym is ∙ x.2) in
    let d : (x.0 * 1000000 + 0) / 1000000 ≡ x.0 = div-mul-add x.0 1000000 0 (omega arith) in
    let q : size / 1000000 ≡ (x.0 * 1000000 + 0) / 1000000 = ap (λ (k : ℕ). k / 1000000) (omega (arith, e)) in
    let low = x.1 in
    omega (arith, d, q, h, low)

-- ---- the first wrong number

-- the number at a place of a row is among all of them
pub in_rows : (r b n m : ℕ) → r < m → b < n → r * n + b < m * n
in_rows r b n m l k =
    let rows : suc r * n ≤ m * n = mul-le (suc r) n m n (omega (arith, l)) (omega arith) in
    omega (arith, rows, k)

-- where all numbers before it are as wanted, this is the first that isn't
pub first_wrong : (Such : ℤ → Type 0) (at : ℕ → ℕ → ℤ) (columns n i : ℕ) → i < columns * n
    → ¬ (Such (at (i / n) (i % n))) → ((k : ℕ) → k < i → Such (at (k / n) (k % n)))
    → IsFirstWrong Such at columns n (i / n) (i % n)
first_wrong Such at columns n i inside wrong before =
    let some : 0 < n = some_blocks n columns i inside in
    record {
      column = div_below i n columns some inside;
      block = mod_below i n some;
      wrong = wrong;
      before = λ j a _ low l.
          let whole : i / n * n + i % n ≡ i = div-add-mod' i n in
          let same : at ((j * n + a) / n) ((j * n + a) % n) ≡ at j a = ap₂ at (div-mul-add j n a low)
          (mod-mul-add j n a low) in
          subst Such same (before (j * n + a) (omega (arith, l, whole)));
    }

-- numbers that are amounts of uses are none below zero
pub is_use : (u : ℕ) (z : ℤ) → pos u ≡ z → IsUse z
is_use u z is = omega (arith, ints, is)

-- where a wrong number is one of waits, the uses before are right
pub waits_wrong : (m : BlocksView) (resources waits n : ℕ) (uses : List ℕ) (e : PlanFault) → m.blocks ≡ n
    → AreUses m resources uses → WaitsWrong m resources waits n e → UsesWrong m resources waits n e
waits_wrong m resources waits n uses (plan.Periods (period_problem.UnknownWait c b)) same are wrong = (
  same,
  λ j a l k.
      let low : a < m.blocks = omega (arith, k, same) in
      let row : (j * m.blocks + a) / m.blocks ≡ j = div-mul-add j m.blocks a low in
      let place : (j * m.blocks + a) % m.blocks ≡ a = mod-mul-add j m.blocks a low in
      is_use (slice_index uses (j * m.blocks + a)) (use_in m j a)
      (are.each (j * m.blocks + a) (in_rows j a m.blocks resources l low) ∙ ap₂ (use_in m) row place),
  wrong,
)
waits_wrong m resources waits n uses (plan.Engine engine.Memory) same are wrong = tt
waits_wrong m resources waits n uses _ same are wrong = absurd wrong

-- ---- the pairs of blocks that wait, number by number

-- one number more
pub wait_listed : (n i a : ℕ) (at : ℕ → ℕ → ℤ) (z : ℤ) (xs ys : List (ℕ × ℕ)) → ys ≡ xs ++ (i % n, a) ∷ []
    → xs ≡ first_pairs n at i → z ≡ at (i / n) (i % n) → a ≡ unsigned_abs z / 1000000 → ys ≡ first_pairs n at (i + 1)
wait_listed n i a at z xs ys e is here of =
    e ∙ ap₂ (λ (ps : List (ℕ × ℕ)) (k : ℕ). ps ++ (i % n, k) ∷ []) is
    (of ∙ ap (λ (w : ℤ). unsigned_abs w / 1000000) here) ∙ sym (ap (first_pairs n at) (add-one i))

pub waits_known : (n i a : ℕ) (at : ℕ → ℕ → ℤ) (z : ℤ) → z ≡ at (i / n) (i % n) → a < n → z ≡ pos (a * 1000000)
    → ((k : ℕ) → k < i → IsBlock n (at (k / n) (k % n))) → (k : ℕ) → k < i + 1 → IsBlock n (at (k / n) (k % n))
waits_known n i a at z here low is before k l = elim (cases_lt k i) [
  | inl less ↦ before k less
  | inr past ↦
      let same : i ≡ k = omega (arith, l, past) in
      subst (λ (j : ℕ). IsBlock n (at (j / n) (j % n))) same (a, low, sym here ∙ is)
]

-- all of them
pub has_waits : (m : BlocksView) (first count n i : ℕ) (listed : List (ℕ × ℕ)) (rests : RestsView) → m.blocks ≡ n
    → i ≡ count * n → listed ≡ first_pairs n (λ c b. use_in m (first + c) b) i
    → ((k : ℕ) → k < i → IsBlock n (use_in m (first + k / n) (k % n))) → rests.blocks ≡ n
    → ArePairsOf listed rests.pairs → HasWaits m first count rests
has_waits m first count n i listed rests same end is known size pairs = record {
  blocks = size ∙ sym same;
  known = λ j l.
      let many = ap (λ (k : ℕ). count * k) same in
      subst (λ (k : ℕ). IsBlock k (use_in m (first + j / k) (j % k))) (sym same)
      (known j (omega (arith, end, l, many)));
  are = subst (λ (ps : List (ℕ × ℕ)). ArePairsBy (rests_by ps) rests.pairs)
      (is ∙ ap (first_pairs n (λ c b. use_in m (first + c) b)) end
      ∙ ap (λ (k : ℕ). first_pairs k (λ c b. use_in m (first + c) b) (count * k)) (sym same))
      (by_listed listed rests.pairs pairs);
}

-- ---- columns of a text and of its model

-- two ways to read numbers that agree list the same pairs
pairs_alike : (n : ℕ) (f g : ℕ → ℕ → ℤ) (k : ℕ) → ((i : ℕ) → i < k → f (i / n) (i % n) ≡ g (i / n) (i % n))
    → first_pairs n f k ≡ first_pairs n g k
pairs_alike n f g zero h = refl
pairs_alike n f g (suc k) h =
    ap₂ (λ (xs : List (ℕ × ℕ)) (z : ℤ). xs ++ (k % n, unsigned_abs z / 1000000) ∷ [])
    (pairs_alike n f g k (λ i l. h i (omega (arith, l)))) (h k (omega arith))

module _ (n : ℕ) (columns waits text : List ℕ) (m : BlocksView) (h : ReadsBlocks (columns ++ waits) text m) where
  use_cell : (r b : ℕ) → r < length columns → b < m.blocks → use_in m r b ≡ cell text (get_or columns r 0) b
  use_cell r b l k = h.2.value r b (omega (arith, l, length-append columns waits)) k
      ∙ ap (λ (j : ℕ). cell text j b) (get_or_append_left columns waits 0 r l)

  wait_cell : (c b : ℕ) → c < length waits → b < m.blocks
      → use_in m (length columns + c) b ≡ cell text (get_or waits c 0) b
  wait_cell c b l k = h.2.value (length columns + c) b (omega (arith, l, length-append columns waits)) k
      ∙ ap (λ (j : ℕ). cell text j b) (get_or-append-add columns waits c 0)

  pub uses_read : m.blocks ≡ n → (uses : List ℕ) (lags : RestsView) → AreUses m (length columns) uses
      → HasWaits m (length columns) (length waits) lags → ReadsUses n columns waits text uses lags
  uses_read same uses lags are has =
      let d = h.2 in
      let W = length waits in
      let at : ℕ → ℕ → ℤ = λ c b. cell text (slice_index waits c) b in
      let alike : first_pairs m.blocks (λ c b. use_in m (length columns + c) b) (W * m.blocks) ≡ first_pairs m.blocks
      at (W * m.blocks) = pairs_alike m.blocks (λ c b. use_in m (length columns + c) b) at (W * m.blocks) (λ i l.
      let some = some_blocks m.blocks W i l in wait_cell (i / m.blocks) (i % m.blocks) (div_below i m.blocks W some l)
      (mod_below i m.blocks some)) in
      let whole = alike ∙ ap (λ (k : ℕ). first_pairs k at (W * k)) same in
      record {
        within = h.0;
        read = h.1;
        count = sym d.count ∙ same;
        size = are.size ∙ ap (λ (k : ℕ). length columns * k) same;
        each = λ r b known l.
            let k : b < m.blocks = omega (arith, l, same) in
            let here = are.each (r * m.blocks + b) (in_rows r b m.blocks (length columns) known k) in
            let row : (r * m.blocks + b) / m.blocks ≡ r = div-mul-add r m.blocks b k in
            let place : (r * m.blocks + b) % m.blocks ≡ b = mod-mul-add r m.blocks b k in
            ap (λ (w : ℕ). pos (slice_index uses (r * w + b))) (sym same) ∙ here
            ∙ ap₂ (λ (i j : ℕ). use_in m i j) row place ∙ use_cell r b known k;
        waiting = record {
          blocks = has.blocks ∙ same;
          known = λ c b known l.
              let k : b < m.blocks = omega (arith, l, same) in
              let here = has.known (c * m.blocks + b) (in_rows c b m.blocks W known k) in
              let row : (c * m.blocks + b) / m.blocks ≡ c = div-mul-add c m.blocks b k in
              let place : (c * m.blocks + b) % m.blocks ≡ b = mod-mul-add c m.blocks b k in
              let e = ap₂ (λ (i j : ℕ). use_in m (length columns + i) j) row place ∙ wait_cell c b known k in
              subst (λ (z : ℤ). IsBlock n z) e
              (subst (λ (w : ℕ). IsBlock w
              (use_in m (length columns + (c * m.blocks + b) / m.blocks) ((c * m.blocks + b) % m.blocks))) same
              here);
          are = subst (λ (ps : List (ℕ × ℕ)). ArePairsBy (rests_by ps) lags.pairs) whole has.are;
        };
      }

  -- the first wrong number of a model is that of its text
  alike : (Such : ℤ → Type 0) (at to : ℕ → ℕ → ℤ) (count k b : ℕ) → ((j a : ℕ) → j < count → a < n → at j a ≡ to j a)
      → IsFirstWrong Such at count n k b → IsFirstWrong Such to count n k b
  alike Such at to count k b same first = record {
    column = first.column;
    block = first.block;
    wrong = λ x. first.wrong (subst Such (sym (same k b first.column first.block)) x);
    before = λ j a column low l. subst Such (same j a column low) (first.before j a column low l);
  }

  -- what is wrong with the columns of a model is wrong with the text that it is read of
  pub uses_wrong : (e : PlanFault) → UsesWrong m (length columns) (length waits) n e → UsesFail n columns waits text e
  uses_wrong (plan.Periods period_problem.BlockCount) wrong = (h.0, h.1, λ is. wrong (h.2.count ∙ is))
  uses_wrong (plan.Periods (period_problem.NegativeUse r b)) wrong =
      let same = sym h.2.count ∙ wrong.0 in (
        (h.0, h.1, same),
        alike IsUse (use_in m) (in_columns columns text) (length columns) r b
            (λ j a l k. use_cell j a l (omega (arith, k, wrong.0))) wrong.1,
      )
  uses_wrong (plan.Periods (period_problem.UnknownWait c b)) wrong =
      let same = sym h.2.count ∙ wrong.0 in
      let uses : AllAre IsUse (in_columns columns text) (length columns) n = λ j a l k. subst IsUse
      (use_cell j a l (omega (arith, k, wrong.0))) (wrong.1 j a l k) in (
        (h.0, h.1, same),
        uses,
        alike (IsBlock n) (λ k a. use_in m (length columns + k) a) (in_columns waits text)
            (length waits) c b (λ j a l k. wait_cell j a l (omega (arith, k, wrong.0))) wrong.2,
      )
  uses_wrong (plan.Engine engine.Memory) wrong = tt
  uses_wrong _ wrong = absurd wrong

  answer_of : (answer : Result Uses PlanFault)
      → MatchResult answer (λ u. (m.blocks ≡ n) × AreUses m (length columns) u.amounts.items
      × HasWaits m (length columns) (length waits) u.waits) (UsesWrong m (length columns) (length waits) n)
      → MatchResult answer (λ u. ReadsUses n columns waits text u.amounts.items u.waits) (UsesFail n columns waits text)
  answer_of (Ok u) are = uses_read are.0 u.amounts.items u.waits are.1 are.2
  answer_of (Err e) wrong = uses_wrong e wrong

-- what was read of a text of blocks, where its device tells its bytes
pub uses_answer : (o : Option (List ℕ)) (n : ℕ) (columns waits all : List ℕ) (first count : ℕ) (m : BlocksView)
    (answer : Result Uses PlanFault) → all ≡ columns ++ waits → first ≡ length columns → count ≡ length waits
    → IfSome o (λ text. ReadsBlocks all text m)
    → MatchResult answer (λ u. (m.blocks ≡ n) × AreUses m first u.amounts.items × HasWaits m first count u.waits)
    (UsesWrong m first count n)
    → IfSome o (λ text. MatchResult answer (λ u. ReadsUses n columns waits text u.amounts.items u.waits)
    (UsesFail n columns waits text))
uses_answer None n columns waits all first count m answer whole few many h are = tt
uses_answer (Some text) n columns waits all first count m answer whole few many h are =
    answer_of n columns waits text m (subst (λ (cs : List ℕ). ReadsBlocks cs text m) whole h) answer
    (subst (λ (k : ℕ). MatchResult answer (λ u. (m.blocks ≡ n) × AreUses m (length columns) u.amounts.items
    × HasWaits m (length columns) k u.waits) (UsesWrong m (length columns) k n)) many
    (subst (λ (k : ℕ). MatchResult answer (λ u. (m.blocks ≡ n) × AreUses m k u.amounts.items
    × HasWaits m k count u.waits) (UsesWrong m k count n)) few are))

-- the text is no text of blocks
pub blocks_unread : (o : Option (List ℕ)) (n : ℕ) (columns waits all : List ℕ) (e : EngineFault)
    → all ≡ columns ++ waits → IfSome o (λ text. BlocksReadFails all text e)
    → IfSome o (λ text. UsesFail n columns waits text (plan.Engine e))
blocks_unread None n columns waits all e whole h = tt
blocks_unread (Some text) n columns waits all (engine.Blocks p) whole h = subst
    (λ (cs : List ℕ). BlocksFails cs text p) whole h
blocks_unread (Some text) n columns waits all engine.Memory whole h = tt
blocks_unread (Some text) n columns waits all engine.Device whole h = tt
blocks_unread (Some text) n columns waits all _ whole h = absurd h
