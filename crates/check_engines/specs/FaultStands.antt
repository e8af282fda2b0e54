-- When a check answers a fault: it stands in the texts, and none before it does.
use Rattle.std.specs.Prelude.{◌≡◌, ◌≢◌, ℕ, ℤ, ◌⊎◌, List, Some, Ok, Err}
use Rattle.ordered_group.specs.declared.groups.Group.{Group}
use Rattle.closure_net.specs.Prelude.{WorthsFaultStands, NetView, IsNet, IsNetOf}
use Rattle.closure_net.specs.declared.net.NetFault.{NetFault}
use Rattle.closure_net.specs.declared.net.NetFault.TheVariants as net_fault
use Rattle.certificate_file.specs.declared.cert_fault.CertFault.{CertFault}
use Rattle.certificate_file.specs.declared.cert_fault.CertFault.TheVariants as certificate_fault
use Rattle.certificate_file.specs.declared.header.Header.{Header}
use Rattle.certificate_file.specs.Prelude.{pieces_of, header_of, cert_fault_of}
use Rattle.engine_faults.specs.declared.engine_fault.CertificateProblem.{CertificateProblem}
use Rattle.engine_faults.specs.declared.engine_fault.CertificateProblem.TheVariants as certificate_problem
use Rattle.engine_faults.specs.declared.engine_fault.EngineFault.{EngineFault}
use Rattle.engine_faults.specs.declared.engine_fault.EngineFault.TheVariants as engine
use Rattle.mine_inputs.specs.Prelude.{AreWorths, MineFails, IsTooLong, MineTexts, price_wanted, DenoteMine, mine_of}
use Rattle.check_engines.specs.Readings.{block_by, counts_by, IsHeader}

-- the worths of the mine's blocks make no net, for this reason
pub record NetFails (texts : MineTexts) (n : ℕ) (group : Group) (fault : NetFault) : Type 0 where
  pub worths : List ℤ
  pub are : AreWorths texts n worths
  pub stands : WorthsFaultStands (block_by group) n worths fault

-- the mine of the texts has no net, by this fault: want of memory is no fault of a mine
abbrev pub ModelFails : MineTexts → ℕ → Group → NetFault → Type 0
ModelFails texts n group net_fault.NoMemory = ⊥
ModelFails texts n group fault = NetFails texts n group fault

-- there is a net of the mine, and for its pairs the certificate has this fault
pub record BodyTextFails (texts : MineTexts) (certificate : List ℕ) (n : ℕ) (fault : CertFault) : Type 0 where
  pub group : Group
  pub header : IsHeader texts certificate n group
  pub net : NetView
  pub is_net : IsNet net
  pub of_mine : IsNetOf (block_by group) (mine_of n texts) net
  pub stands : cert_fault_of (counts_by group) group n net.pairs certificate ≡ Some fault

-- the header's fault, or its number of blocks is another
abbrev pub HeaderFails : List ℕ → ℕ → CertFault → Type 0
HeaderFails text n fault = (header_of (pieces_of text) ≡ Err fault)
    ⊎ ((header : Header) × (header_of (pieces_of text) ≡ Ok header) × (header.blocks ≢ n)
    × (fault ≡ certificate_fault.Number 2))

-- the header is right but for its price, which is that of another kind of model
abbrev pub PriceDiffers : MineTexts → List ℕ → ℕ → Type 0
PriceDiffers texts certificate n = (header : Header) × (header_of (pieces_of certificate) ≡ Ok header)
    × (header.blocks ≡ n) × (header.price ≢ price_wanted texts)

-- The certificate is too long; or its price is of another kind; or it has this fault, which is told where it is read,
-- however long the text is.
abbrev pub CertificateFails : MineTexts → List ℕ → ℕ → CertificateProblem → Type 0
CertificateFails texts certificate n certificate_problem.InputTooLong = IsTooLong certificate
CertificateFails texts certificate n certificate_problem.WrongPrice = PriceDiffers texts certificate n
CertificateFails texts certificate n (certificate_problem.Fault fault) = HeaderFails certificate n fault
    ⊎ BodyTextFails texts certificate n fault

-- Why a check answers a fault: one of the texts of the mine; or, where they are read, one of the certificate's or of
-- the mine's net.
abbrev pub Fails : MineTexts → List ℕ → EngineFault → Type 0
Fails texts certificate (engine.Model fault) = (n : ℕ) × DenoteMine texts n × (group : Group)
    × IsHeader texts certificate n group × ModelFails texts n group fault
Fails texts certificate (engine.Certificate p) = (n : ℕ) × DenoteMine texts n × CertificateFails texts certificate n p
Fails texts certificate fault = MineFails texts fault
