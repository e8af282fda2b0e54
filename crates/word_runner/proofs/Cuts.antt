-- A worth that is cut.
use Rattle.fixed_worth.proofs.Common.{inl, inr, ◌≡◌, ℕ, ◌+◌, ◌<◌, ◌^◌, List, [], ◌∷◌, ◌++◌, map, length, ap, ap₂, sym}
use Rattle.fixed_worth.proofs.Common.{◌∙◌, subst, arith, ⊎_elim, common_steps}
use Rattle.ordered_group.specs.Prelude.{Amount, zero_amount, plus, minus, positive, FitsPair, amount_at, total, SumFits}
use Rattle.ordered_group.specs.declared.scaled.Scaled.{Scaled}
use Rattle.closure_net.specs.Prelude.{NetView, IsNet, NetFaultStands, OppositeOverflows, PositivesOverflow}
use Rattle.closure_net.specs.declared.net.NetFault.{NetFault}
use Rattle.closure_net.specs.declared.net.NetFault.TheVariants.{WrongLength, TooLarge, NoMemory}
use Rattle.ordered_group.proofs.Totals.{total-same}
use Rattle.machine_law.specs.Conservation.{all_given}
use Rattle.word_steps.specs.Prelude.{units}
use Rattle.word_runner.specs.Prelude.{scaled_parts, IsCut, AreCut, AreWithin, AreGains, IsCutNet, net_with_worths}

pub pushed_all : (P : ℕ → Amount → Type 0) (xs ys : List Scaled) (x : Scaled) (n : ℕ) → ys ≡ xs ++ x ∷ []
    → length xs ≡ n → ((j : ℕ) → j < n → P j (amount_at (map scaled_parts xs) j)) → P n (scaled_parts x) → (j : ℕ)
    → j < n + 1 → P j (amount_at (map scaled_parts ys) j)
pushed_all P xs ys x n is size old new j l = grind (arith, common_steps)

pub cuts_from : (net : NetView) (k : ℕ) (ws : List Amount) → AreCut net k ws → all_given net ≡ units k → IsCut net ws
cuts_from net k ws a e = grind (arith, common_steps)

-- ---- the net that is cut

-- what the source gives is the same
pub cut_gives : (net : NetView) (ws : List Amount) → IsCut net ws → all_given (net_with_worths net ws) ≡ all_given net
unfolding all_given
cut_gives net ws c = ap (λ (n : ℕ). total (λ b. positive (amount_at ws b)) n) c.size
    ∙ total-same (λ b. positive (amount_at ws b)) (λ b. positive (amount_at net.worths b)) (length net.worths)
    c.positives

-- and the sinks take no more than that
pub cut_within : (net : NetView) (k : ℕ) (ws : List Amount) → AreCut net k ws → AreWithin (net_with_worths net ws) k
cut_within net k ws a b l = let z = a.size in (a.each b (omega (arith, l, z))).within

sums_fit : (f g : ℕ → Amount) (n : ℕ) → ((b : ℕ) → b < n → f b ≡ g b) → SumFits g n → SumFits f n
sums_fit f g n e h k l = subst FitsPair (sym (ap₂ plus (total-same f g k (λ b m. e b (omega (arith, m, l)))) (e k l)))
    (h k l)

-- so it is a net, and building it doesn't fail
pub cut_builds : (net : NetView) (k : ℕ) (ws : List Amount) (n : ℕ) (fault : NetFault) → k < 2 ^ 63 → IsNet net
    → AreCut net k ws → n ≡ length net.worths → NetFaultStands n ws fault → ⊥
cut_builds net k ws n WrongLength small is c e f = f (e ∙ sym c.size)
cut_builds net k ws n NoMemory small is c e f = f
cut_builds net k ws n TooLarge small is c e f = ⊎_elim opposite positives_too f.1
  where
    opposite : OppositeOverflows ws → ⊥
    opposite o =
        let z = c.size in
        let l = o.1 in
        let m : o.0 < length net.worths = omega (arith, l, z) in
        o.2 (elim (c.each o.0 m).is [
          | inl same ↦ subst (λ (a : Amount). FitsPair (minus zero_amount a)) (sym same) (is.opposites o.0 m)
          | inr here ↦ subst (λ (a : Amount). FitsPair (minus zero_amount a)) (sym here) (grind (arith, common_steps))
        ])

    positives_too : PositivesOverflow ws → ⊥
    positives_too o =
        let z = c.size in
        let l = o.1 in
        o.2 (sums_fit (λ b. positive (amount_at ws b)) (λ b. positive (amount_at net.worths b)) (length net.worths)
        (λ b m. (c.each b m).positives) is.positives o.0 (omega (arith, l, z)))

-- what it gives, in units, is what the net gives
pub cut_gains : (net cut : NetView) (gain : List ℕ) (sum : ℕ) → IsCutNet net cut → AreGains net gain sum
    → AreGains cut gain sum
cut_gains net cut gain sum k g = grind (arith, common_steps, cut_gives)
