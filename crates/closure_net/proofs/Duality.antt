-- Weak duality: closed sets against flows.
use Rattle.fixed_worth.proofs.Common.{◌≡◌, ℕ, Bool, length, All, arith, ints}
use Rattle.ordered_group.specs.Prelude.{Amount, minus, AtMost, positive, total, amount_at}
use Rattle.ordered_group.proofs.Totals.Ranges.{total-minus}
use Rattle.ordered_group.proofs.Totals.Duality.{weak_duality}
use Rattle.prec_file.specs.Rests.{IsKnown, from_at, to_at}
use Rattle.closure_net.specs.Prelude.{NetView, FlowView, IsClosed, IsGreatest, group_worth, IsFlow, IsTight}
use Rattle.closure_net.specs.Prelude.{IsGreatestFlow, source_residual}

-- the pairs are of blocks of the net
abbrev pub PairsKnown : NetView → Type 0
PairsKnown net = All (IsKnown (length net.worths)) net.pairs

-- a closed set sums to at most what the source could still give
pub closed_bound : (net : NetView) (flow : FlowView) (c : ℕ → Bool) → PairsKnown net → IsFlow net flow
    → IsClosed net.pairs c → AtMost (group_worth net.worths c) (source_residual net flow)
closed_bound net flow c known is closed =
    let lengths = is.fits in
    weak_duality (length net.worths) (length net.pairs) (from_at net.pairs) (to_at net.pairs) (amount_at net.worths)
    (amount_at flow.source) (amount_at flow.sink) (amount_at flow.rest)
    (λ k h. (known k (0, 0) h).0)
    (λ k h. (known k (0, 0) h).1)
    (λ k h. is.rest k (omega (arith, lengths.rest)))
    (λ b h. (is.capacity b h).0)
    (λ b h. (is.capacity b h).1)
    is.balance c (λ k h. closed k (0, 0) h)

pub greatest_from_tight : (net : NetView) (flow : FlowView) (e : ℕ → Bool) → PairsKnown net → IsFlow net flow
    → IsClosed net.pairs e → IsTight net flow e → IsGreatest net e
greatest_from_tight net flow e known is closed tight = record
    { closed = closed; most = λ c h. rw tight (closed_bound net flow c known is h) }

-- with more left of the same sum, less was taken
less_taken : (p s t : Amount) → AtMost (minus p s) (minus p t) → AtMost t s
less_taken p s t h = record { worths = omega (arith, ints, h); counts = λ e. omega (arith, ints, h, e) }

-- what the source could still give is the sum of the positive parts less what it gives
left_is : (net : NetView) (flow : FlowView)
    → source_residual net flow ≡ minus (total (λ b. positive (amount_at net.worths b)) (length net.worths))
    (total (amount_at flow.source) (length net.worths))
left_is net flow = total-minus (λ b. positive (amount_at net.worths b)) (amount_at flow.source) (length net.worths)

pub greatest_flow_from_tight : (net : NetView) (flow : FlowView) (e : ℕ → Bool) → PairsKnown net → IsFlow net flow
    → IsClosed net.pairs e → IsTight net flow e → IsGreatestFlow net flow
greatest_flow_from_tight net flow e known is closed tight =
    record {
      is_flow = is;
      most = λ other h.
          let bound : AtMost (source_residual net flow) (source_residual net other) = rw tight at
          (closed_bound net other e known h closed) in
          less_taken _ _ _ (rw (left_is net flow, left_is net other) at bound);
    }
