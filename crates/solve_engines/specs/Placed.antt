-- What is known of a certificate that was found without a list of pairs, once a check has accepted it.
use Rattle.std.specs.Prelude.{◌≡◌, ℕ, ℤ, Bool, List, length, map, Option, None, Result, Ok, Err}
use Rattle.std.specs.Io.KnownBytes.{Appends}
use Rattle.counted_devices.specs.Device.{ReceivedPrefix}
use Rattle.ordered_group.specs.Amount.{Amount}
use Rattle.ordered_group.specs.declared.groups.Group.{Group}
use Rattle.prec_file.specs.Rests.{RestsView}
use Rattle.closure_net.specs.Prelude.{NetView, IsNet, net_view}
use Rattle.certificate_file.specs.declared.header.Price.{Price}
use Rattle.certificate_file.specs.Prelude.{IsRead, cert_fault_of}
use Rattle.check_pit.specs.Checks.{ProvesPit}
use Rattle.engine_faults.specs.declared.engine_fault.EngineFault.{EngineFault}
use Rattle.engine_faults.specs.declared.engine_fault.EngineFault.TheVariants as engine
use Rattle.check_engines.specs.declared.judgement.Verdict.{Verdict}
use Rattle.check_engines.specs.declared.judgement.Verdict.TheVariants.{Done}
use Rattle.check_engines.specs.Refusals.{flow_for}
use Rattle.solve_engines.specs.Solving.{IsCertificateOf}

-- the net of blocks with these pairs, which are worth so many billionths each
abbrev pub held_net : (ℤ → ℕ → Amount) → RestsView → List ℤ → NetView
held_net block pairs nanos = net_view pairs.pairs (map (λ v. block v pairs.blocks) nanos)

-- The text is read without a fault for this net, at this price, and its flow proves its pit.
pub record IsAcceptedText (counts : Bool) (name : Group) (price : Price) (net : NetView) (text : List ℕ) : Type 0 where
  pub is_net : IsNet net
  pub none : cert_fault_of counts name (length net.worths) net.pairs text ≡ None
  pub pit : List ℕ
  pub read : IsRead counts name (length net.worths) net.pairs text (length net.worths) price pit
      (flow_for counts net text)
  pub proves : ProvesPit net (flow_for counts net text) pit

-- The text is a certificate of this net, which is one.
pub record IsPlacedCertificate (counts : Bool) (name : Group) (price : Price) (net : NetView) (text : List ℕ) : Type 0
  where
    pub is_net : IsNet net
    pub certificate : IsCertificateOf counts name price net text

-- all of a text was written, or a front of it, where the device fails
abbrev pub SendsText : List ℕ → Option (List ℕ) → Option (List ℕ) → Result Verdict EngineFault → Type 0
SendsText text old new (Ok verdict) = (verdict ≡ Done) × Appends old new text
SendsText text old new (Err fault) = (fault ≡ engine.Device) × ReceivedPrefix old new text
