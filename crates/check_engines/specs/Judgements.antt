-- What a check says of the texts of a mine and of a certificate.
use Rattle.std.specs.Prelude.{◌≡◌, ℕ, ℤ, List}
use Rattle.ordered_group.specs.declared.groups.Group.{Group}
use Rattle.closure_net.specs.Prelude.{NetView, IsNet, holds_of, IsNetOf, worth_of, block_count_of}
use Rattle.check_pit.specs.Checks.{ProvesPit}
use Rattle.check_pit.specs.declared.pit_fault.PitFault.{PitFault}
use Rattle.check_engines.specs.declared.judgement.Judgement.{Judgement}
use Rattle.check_engines.specs.declared.judgement.Judgement.TheVariants.{Accepted, Refused}
use Rattle.mine_inputs.specs.Prelude.{IsWithinLimit, MineTexts, DenoteMine, mine_of}
use Rattle.check_engines.specs.Readings.{Reads, IsProvedPit, block_by, counts_by, IsHeader}
use Rattle.check_engines.specs.Refusals.{TextRefused}

-- The texts denote a mine and a certificate whose flow proves its pit; that pit has so many blocks and is worth so
-- much.
pub record CertificateAccepted (texts : MineTexts) (certificate : List ℕ) (name : Group) (blocks : ℕ)
    (nanos : ℤ) : Type 0 where
  pub within : IsWithinLimit certificate
  pub read : Reads texts certificate
  pub group : read.group ≡ name
  pub proves : ProvesPit read.net read.flow read.pit
  pub proved : IsProvedPit name (mine_of read.blocks texts) (holds_of read.pit)
  pub count : block_count_of (mine_of read.blocks texts) (holds_of read.pit) ≡ blocks
  pub worth : worth_of (mine_of read.blocks texts) (holds_of read.pit) ≡ nanos

-- The texts denote a mine and its net, and the header of the certificate is one for it; and the certificate doesn't
-- prove its pit, for this reason.
pub record CertificateRefused (texts : MineTexts) (certificate : List ℕ) (fault : PitFault) : Type 0 where
  pub blocks : ℕ
  pub mine : DenoteMine texts blocks
  pub group : Group
  pub header : IsHeader texts certificate blocks group
  pub net : NetView
  pub is_net : IsNet net
  pub of_mine : IsNetOf (block_by group) (mine_of blocks texts) net
  pub stands : TextRefused (counts_by group) group net certificate fault

-- The judgement is true of the texts: the certificate is accepted with these numbers, or refused for this reason.
abbrev pub IsTrueJudgement : MineTexts → List ℕ → Judgement → Type 0
IsTrueJudgement texts certificate (Accepted group count worth) = CertificateAccepted texts certificate group count worth
IsTrueJudgement texts certificate (Refused fault) = CertificateRefused texts certificate fault
