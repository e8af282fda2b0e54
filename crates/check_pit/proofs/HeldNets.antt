-- Pairs beside what blocks are worth make a net.
use Rattle.fixed_worth.proofs.Common.{◌≡◌, ℕ, List, length, sym, ap, subst}
use Rattle.prec_file.specs.Rests.{RestsView, IsRests}
use Rattle.closure_net.specs.Prelude.{NetView, IsNet, IsNetParts, net_view}

pub net_with : (net : NetView) (rests : RestsView) → IsNet net → IsRests rests → rests.blocks ≡ length net.worths
    → IsNetParts rests net.worths
net_with net rests is held same = record {
  blocks = same;
  net = record {
    rests = subst (λ (n : ℕ). IsRests (record { blocks = n; pairs = rests.pairs })) same held;
    opposites = is.opposites;
    positives = is.positives;
  };
}

-- the pairs that a net lists
pub net_listed : (net : NetView) (rests : RestsView) → IsNet net → rests.blocks ≡ length net.worths
    → rests.pairs ≡ net.pairs → IsNetParts rests net.worths
net_listed net rests is blocks pairs = record
    { blocks = blocks; net = subst (λ (ps : List (ℕ × ℕ)). IsNet (net_view ps net.worths)) (sym pairs) is }

pub net_same : (net : NetView) (ps : List (ℕ × ℕ)) → ps ≡ net.pairs → net_view ps net.worths ≡ net
net_same net ps e = ap (λ (qs : List (ℕ × ℕ)). net_view qs net.worths) e
