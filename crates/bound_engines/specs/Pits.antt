-- The pit to which the mine of nodes may be restricted: its certificate, and what of a production it keeps.
use Rattle.std.specs.Prelude.{◌≡◌, ℕ, ◌+◌, ◌-◌, ◌^◌, ◌<◌, List, Option, Some, None, IfSome}
use Rattle.closure_net.specs.Prelude.{IsRichest, holds_of}
use Rattle.sub_mines.specs.Prelude.{IsPartPairs}
use Rattle.check_pit.specs.Prelude.{ProvesPit}
use Rattle.mine_inputs.specs.Prelude.{IsWithinLimit, MineTexts, mine_of}
use Rattle.check_engines.specs.Prelude.{Reads}
use Rattle.schedules.specs.Prelude.{Treated}
use Rattle.pit_production.specs.Prelude.{treated_part_of}
use Rattle.bound_engines.specs.declared.certificates.Certificates.{Certificates}

-- ---- the certificate

-- The texts denote a mine of n blocks and, for it, a certificate that is accepted: these are the blocks of its pit, and
-- its flow proves that no pit of the mine is worth more.
pub record IsPitOf (texts : MineTexts) (n : ℕ) (certificate kept : List ℕ) : Type 0 where
  pub within : IsWithinLimit certificate
  pub read : Reads texts certificate
  pub blocks : read.blocks ≡ n
  pub pit : read.pit ≡ kept
  pub proves : ProvesPit read.net read.flow read.pit
  pub richest : IsRichest (mine_of n texts) (holds_of kept)

-- a certificate of a pit is given
abbrev pub IsGiven : Option (List ℕ) → Type 0
IsGiven None = ⊥
IsGiven (Some certificate) = Unit {0}

-- ---- what is kept

-- these blocks, numbered anew in their order, and the pairs of these numbers that wait
pub record PartView : Type 0 where
  pub kept : List ℕ
  pub waits : List (ℕ × ℕ)

-- All of a mine of n blocks, where no certificate is given; or the blocks of the pit that it proves, and of the pairs
-- of blocks that wait those of which both are kept.
abbrev pub IsPartBy : MineTexts → ℕ → List (ℕ × ℕ) → Option (List ℕ) → Option PartView → Type 0
IsPartBy texts n waits None None = Unit {0}
IsPartBy texts n waits (Some certificate) (Some part) = IsPitOf texts n certificate part.kept
    × IsPartPairs part.kept waits part.waits
IsPartBy texts n waits _ _ = ⊥

-- the production of what is kept, whose blocks may go the same ways
abbrev pub treated_over : Treated → Option PartView → Treated
treated_over treated None = treated
treated_over treated (Some part) = treated_part_of treated part.kept

-- its pairs of blocks that wait
abbrev pub waits_over : List (ℕ × ℕ) → Option PartView → List (ℕ × ℕ)
waits_over waits None = waits
waits_over waits (Some part) = part.waits

-- ---- devices

-- P holds of the text of the certificate, where its device tells its bytes; or of none, where there is no device
abbrev pub ForPit : {C : Type 0} → Option C → (C → Option (List ℕ)) → (Option (List ℕ) → Type 0) → Type 0
ForPit None remaining P = P None
ForPit (Some device) remaining P = IfSome (remaining device) (λ c. P (Some c))

-- a device has counted fewer than 2^64 - 1 failures, so that one more can be counted
abbrev pub PitCanCount : {C : Type 0} → Option C → (C → ℕ) → Type 0
PitCanCount None failed = Unit {0}
PitCanCount (Some device) failed = failed device < 2 ^ 64 - 1

-- the failures that it has counted
abbrev pub pit_failures : {C : Type 0} → Option C → (C → ℕ) → ℕ
pit_failures None failed = 0
pit_failures (Some device) failed = failed device

-- P holds of the text of a pit's certificate, if there is one, and of that of the nodes' certificate, where the devices
-- tell their bytes
abbrev pub ForCertificates : {C : Type 0} → Certificates C → (C → Option (List ℕ))
    → (Option (List ℕ) → List ℕ → Type 0) → Type 0
ForCertificates certificates remaining P = ForPit certificates.pit remaining
    (λ o. IfSome (remaining certificates.nodes) (λ c. P o c))

-- each of them has counted fewer than 2^64 - 1 failures
abbrev pub CertificatesCanCount : {C : Type 0} → Certificates C → (C → ℕ) → Type 0
CertificatesCanCount certificates failed = PitCanCount certificates.pit failed
    × (failed certificates.nodes < 2 ^ 64 - 1)

-- the failures that they have counted together
abbrev pub certificate_failures : {C : Type 0} → Certificates C → (C → ℕ) → ℕ
certificate_failures certificates failed = pit_failures certificates.pit failed + failed certificates.nodes
