-- What can be written, and that it is read back.
use Rattle.std.specs.Prelude.{◌≡◌, ℕ, pos, ◌⊎◌, ◌<◌, ◌≤◌, Bool, true, List, length, None}
use Rattle.fixed_worth.specs.declared.limits.TheConstants.{MOST_FACTOR}
use Rattle.ordered_group.specs.declared.groups.Group.{Group}
use Rattle.ordered_group.specs.Prelude.{Amount, FitsPair, amount_at}
use Rattle.closure_net.specs.Network.{FlowView}
use Rattle.certificate_file.specs.declared.header.Price.{Price}
use Rattle.certificate_file.specs.declared.header.Price.TheVariants.{Objective, Factor, Mill}
use Rattle.certificate_file.specs.Certificate.{IsRead, cert_fault_of}

-- a factor is at most 10,000
abbrev pub IsPrice : Price → Type 0
IsPrice Objective = Unit {0}
IsPrice (Factor k) = k ≤ MOST_FACTOR
IsPrice (Mill k) = k ≤ MOST_FACTOR

-- an amount that a text can give: both its numbers fit, and it has no count where the group has none
pub record Writable (counts : Bool) (x : Amount) : Type 0 where
  pub fits : FitsPair x
  pub count : (counts ≡ true) ⊎ (x.c ≡ pos 0)

-- the amounts of a flow can be written
pub record AreWritable (counts : Bool) (flow : FlowView) : Type 0 where
  pub source : (k : ℕ) → k < length flow.source → Writable counts (amount_at flow.source k)
  pub rest : (k : ℕ) → k < length flow.rest → Writable counts (amount_at flow.rest k)
  pub sink : (k : ℕ) → k < length flow.sink → Writable counts (amount_at flow.sink k)

-- the text is read without a fault, as these values and no others
pub record IsCertReadBack (counts : Bool) (name : Group) (n : ℕ) (pairs : List (ℕ × ℕ)) (text : List ℕ)
    (price : Price) (pit : List ℕ) (flow : FlowView) : Type 0 where
  pub none : cert_fault_of counts name n pairs text ≡ None
  pub read : IsRead counts name n pairs text n price pit flow
  pub only : (b : ℕ) (p : Price) (q : List ℕ) (f : FlowView) → IsRead counts name n pairs text b p q f → (b ≡ n)
      × (p ≡ price) × (q ≡ pit) × (f ≡ flow)
