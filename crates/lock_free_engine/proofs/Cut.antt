-- A flow that a run leaves over a net with its negative worths cut solves the net itself.
use Rattle.fixed_worth.proofs.Common.{◌≡◌, ℕ, ◌<◌, Bool, true, false, List, length, inl, inr, refl, ap, sym, ◌∙◌, subst}
use Rattle.fixed_worth.proofs.Common.{arith, All, ints}
use Rattle.ordered_group.specs.Prelude.{Amount, zero_amount, plus, minus, AtMost, Below, positive, negative, total}
use Rattle.ordered_group.specs.Prelude.{where_so, amount_at}
use Rattle.ordered_group.proofs.Order.{AtMost-refl, AtMost-both, Below-most, most_or_below, positive-negative}
use Rattle.ordered_group.proofs.Order.{larger_amount-right}
use Rattle.ordered_group.proofs.Totals.{total-same, total-plus, total_mono, total_term, total_nonneg, total_none_each}
use Rattle.ordered_group.proofs.Totals.{where_nonneg}
use Rattle.prec_file.specs.Rests.{IsKnown}
use Rattle.closure_net.specs.Prelude.{NetView, FlowView, residual_at, source_residual, IsFlow, IsTight, Reaches}
use Rattle.closure_net.specs.Prelude.{IsReached}
use Rattle.closure_net.proofs.Duality.{PairsKnown, greatest_from_tight}
use Rattle.machine_law.specs.Conservation.{all_given}
use Rattle.machine_law.proofs.Numbers.{same, equal}
use Rattle.machine_law.proofs.Quiet.{quiet_solves}
use Rattle.word_runner.specs.Prelude.{IsCut, net_with_worths, IsQuietRunOf}
use Rattle.lock_free_engine.specs.Tightness.{RunsAreTight}

-- ---- a block that takes all that there is

nonneg : (x : Amount) → AtMost zero_amount (positive x)
nonneg x = larger_amount-right x zero_amount

-- a set sums to the positive worths at most, less what any of its blocks may give the sink
module _ (n : ℕ) (w : ℕ → Amount) (e : ℕ → Bool) where
  one : (b : ℕ) (v : Bool) → AtMost (plus (where_so v (w b)) (where_so v (negative (w b)))) (positive (w b))
  one b true = let a = same (positive-negative (w b)) in record
      { worths = omega (arith, ints, a); counts = λ i. omega (arith, ints, a) }
  one b false = let a = nonneg
      (w b) in record { worths = omega (arith, ints, a); counts = λ i. omega (arith, ints, a, i) }

  less_one : (b : ℕ) → b < n → e b ≡ true → AtMost (plus (total (λ k. where_so (e k) (w k)) n) (negative (w b)))
      (total (λ k. positive (w k)) n)
  less_one b l i =
      let all = total_mono _ (λ k. positive (w k)) n (λ k m. one k (e k)) in
      let p = same (total-plus (λ k. where_so (e k) (w k)) (λ k. where_so (e k) (negative (w k))) n) in
      let t = total_term (λ k. where_so (e k) (negative (w k))) b n l
      (λ k m. where_nonneg (e k) (negative (w k)) (nonneg (minus zero_amount (w k)))) in
      let at : AtMost (negative (w b)) (total (λ k. where_so (e k) (negative (w k))) n) = subst
      (λ (v : Bool). AtMost (where_so v (negative (w b))) (total (λ k. where_so (e k) (negative (w k))) n)) i t in
      record { worths = omega (arith, ints, all, p, at); counts = λ z. omega (arith, ints, all, p, at, z) }

-- so none does where the source could still give something
taken : (g k a s : Amount) → AtMost (plus g k) a → AtMost a k → g ≡ s → Below zero_amount s → ⊥
taken g k a s h m e o = let z = same e in absurd (omega (arith, ints, h, m, z, o))

-- ---- what the source reaches

none_in : {P : Type 0} → false ≡ true → P
none_in e = absurd cc

-- where the source could give nothing more it reaches nothing
module _ (net : NetView) (flow : FlowView) (is : IsFlow net flow)
    (none : AtMost (source_residual net flow) zero_amount) where
  rooms : (b : ℕ) → b < length net.worths → AtMost zero_amount (residual_at net.worths flow.source b)
  rooms b l = let h = (is.capacity b l).0 in record
      { worths = omega (arith, ints, h); counts = λ i. omega (arith, ints, h, i) }

  full : (b : ℕ) → b < length net.worths → AtMost (positive (amount_at net.worths b)) (amount_at flow.source b)
  full b l =
      let n = length net.worths in
      let g = residual_at net.worths flow.source in
      let z = same (total_none_each g n rooms (AtMost-both _ _ none (total_nonneg g n rooms)) b l) in
      record { worths = omega (arith, ints, z); counts = λ i. omega (arith, ints, z) }

  nothing : Reaches net flow (λ b. false)
  nothing = record { begins = λ b l o. absurd (o (full b l)); down = λ k l t. t; up = λ k l c t. t }

  nothing_reached : (e : ℕ → Bool) → IsReached net flow e → {P : Type 0} → (b : ℕ) → e b ≡ true → P
  nothing_reached e r b i = none_in (r.1 (λ b. false) nothing b i)

-- ---- the net and the one that is cut
module _ (net : NetView) (ws : List Amount) (c : IsCut net ws) (flow : FlowView) (is : IsFlow net flow) where
  reaches_cut : (e : ℕ → Bool) → Reaches net flow e → Reaches (net_with_worths net ws) flow e
  reaches_cut e r = let z = c.size in record {
    begins = λ b l o. let k : b < length net.worths = omega (arith, l, z) in r.begins b k
        (λ m. o (subst (λ (x : Amount). AtMost x (amount_at flow.source b)) (sym (c.positives b k)) m));
    down = r.down;
    up = r.up;
  }

  reaches_uncut : (e : ℕ → Bool) → Reaches (net_with_worths net ws) flow e → Reaches net flow e
  reaches_uncut e r = let z = c.size in record {
    begins = λ b l o. r.begins b (omega (arith, l, z))
        (λ m. o (subst (λ (x : Amount). AtMost x (amount_at flow.source b)) (c.positives b l) m));
    down = r.down;
    up = r.up;
  }

  -- it reaches the same blocks in either
  reached_cut : (e : ℕ → Bool) → IsReached net flow e → IsReached (net_with_worths net ws) flow e
  reached_cut e r = (reaches_cut e r.0, λ d s b t. r.1 d (reaches_uncut d s) b t)

  module _ (e : ℕ → Bool) (r : IsReached net flow e) (tight : IsTight (net_with_worths net ws) flow e) where
    abbrev n : ℕ
    n = length net.worths

    -- over so many blocks
    tight_at : total (λ b. where_so (e b) (amount_at ws b)) n ≡ source_residual net flow
    tight_at =
        subst (λ (k : ℕ). total (λ b. where_so (e b) (amount_at ws b)) k ≡ total (residual_at ws flow.source) k)
        c.size tight
        ∙ total-same (residual_at ws flow.source) (residual_at net.worths flow.source) n
        (λ b l. ap (λ (x : Amount). minus x (amount_at flow.source b)) (c.positives b l))

    all_same : total (λ b. positive (amount_at ws b)) n ≡ all_given net
    unfolding all_given
    all_same = total-same (λ b. positive (amount_at ws b)) (λ b. positive (amount_at net.worths b)) n c.positives

    -- a block that is reached takes less than there is, and so its worth isn't cut
    uncut_at : (b : ℕ) → b < n → e b ≡ true → AtMost (negative (amount_at net.worths b)) (negative (amount_at ws b))
    uncut_at b l i = elim (most_or_below (negative (amount_at net.worths b)) (all_given net)) [
      | inl m ↦ c.fits b (negative (amount_at net.worths b)) l (AtMost-refl _) m
      | inr o ↦ elim (most_or_below (source_residual net flow) zero_amount) [
        | inl none ↦ nothing_reached net flow is none e r b i
        | inr some ↦ absurd (taken _ _ (all_given net) _
            (subst (AtMost (plus (total (λ k. where_so (e k) (amount_at ws k)) n) (negative (amount_at ws b))))
            all_same (less_one n (amount_at ws) e b l i))
            (c.fits b (all_given net) l (Below-most _ _ o) (AtMost-refl _)) tight_at some)
      ]
    ]

    worth_at : (b : ℕ) → b < n → e b ≡ true → amount_at ws b ≡ amount_at net.worths b
    worth_at b l i =
        let p = same (c.positives b l) in
        let q = same (AtMost-both _ _ (c.less b l) (uncut_at b l i)) in
        let x = same (positive-negative (amount_at ws b)) in
        let y = same (positive-negative (amount_at net.worths b)) in
        equal (record { w = omega (arith, ints, p, q, x, y); c = omega (arith, ints, p, q, x, y) })

    counted : (b : ℕ) → b < n → (v : Bool) → e b ≡ v → where_so v (amount_at ws b) ≡ where_so v (amount_at net.worths b)
    counted b l true i = worth_at b l i
    counted b l false i = refl

    pub tight_uncut : IsTight net flow e
    tight_uncut = sym (total-same (λ b. where_so (e b) (amount_at ws b))
        (λ b. where_so (e b) (amount_at net.worths b)) n (λ b l. counted b l (e b) refl)) ∙ tight_at

pub runs_are_tight : RunsAreTight
runs_are_tight net workers limit flow steps is s =
    let k = s.is_cut in
    let ws = k.worths in
    let known : PairsKnown net = is.rests.known in
    let quiet : IsQuietRunOf (net_with_worths net ws) s.made flow = subst
    (λ (x : NetView). IsQuietRunOf x s.made flow) k.is s.quiet in
    let cut_known : PairsKnown (net_with_worths net ws) = subst (λ (n : ℕ). All (IsKnown n) net.pairs)
    (sym k.cuts.size) known in
    let solved = quiet_solves (net_with_worths net ws) quiet.run.events quiet.run.machine flow cut_known quiet.run.run
    quiet.quiet quiet.amounts in
    let flows = s.greatest.is_flow in
    let closed = λ (e : ℕ → Bool) (r : IsReached net flow e). solved.closed e
    (reached_cut net ws k.cuts flow flows e r) in
    let tight = λ (e : ℕ → Bool) (r : IsReached net flow e). tight_uncut net ws k.cuts flow flows e r
    (solved.tight e (reached_cut net ws k.cuts flow flows e r)) in
    record {
      greatest = s.greatest;
      closed = closed;
      tight = tight;
      greatest_set = λ e r. greatest_from_tight net flow e known flows (closed e r) (tight e r);
    }
