-- A design beside the pit of a certificate, and the lines that tell it.
use Rattle.std.specs.Prelude.{◌≡◌, ℕ, ℤ, pos, ◌-ℤ◌, ◌≤ℤ◌, List, [], ◌∷◌, ◌++◌, codes, decimal}
use Rattle.fixed_worth.specs.Printed.{amount_text}
use Rattle.ordered_group.specs.declared.groups.Group.{Group}
use Rattle.closure_net.specs.Mine.{IsPit}
use Rattle.check_pit.specs.declared.pit_fault.PitFault.{PitFault}
use Rattle.design_file.specs.Records.{design_of}
use Rattle.check_engines.specs.declared.judgement.Judgement.TheVariants.{Refused}
use Rattle.check_engines.specs.declared.judgement.Verdict.{Verdict}
use Rattle.check_engines.specs.declared.judgement.Verdict.TheVariants.{No}
use Rattle.check_engines.specs.Prelude.{CertificateAccepted, CertificateRefused, judgement_line}
use Rattle.mine_inputs.specs.Mines.{MineTexts, DenoteMine, mine_of}
use Rattle.design_engines.specs.DesignTexts.{IsDesign}
use Rattle.design_engines.specs.Designs.{DesignView, IsValued, design_text, verdict_for}

-- The texts denote a mine, and a design of some of its blocks.
pub record IsDrawn (texts : MineTexts) (design : List ℕ) : Type 0 where
  pub blocks : ℕ
  pub mine : DenoteMine texts blocks
  pub drawn : IsDesign blocks design

-- The answer tells what the design comes to; a check accepts the certificate, whose pit has so many blocks and is worth
-- so much; and the gap is what that pit is worth more than the design. It is never negative where the design is a pit.
pub record IsComparedDesign (texts : MineTexts) (design certificate : List ℕ) (v : DesignView) (count : ℕ)
    (worth gap : ℤ) : Type 0 where
  pub valued : IsValued texts design v
  pub name : Group
  pub best : CertificateAccepted texts certificate name count worth
  pub difference : gap ≡ worth -ℤ v.worth
  pub same : best.read.blocks ≡ valued.blocks
  pub least : IsPit (mine_of valued.blocks texts) (design_of design) → pos 0 ≤ℤ gap

-- What is told: the design beside the pit of the certificate, or that the certificate is refused.
pub data ComparedView : Type 0 where
  beside : (v : DesignView) (count : ℕ) (worth gap : ℤ) → ComparedView
  unproved : (fault : PitFault) → ComparedView

abbrev pub IsComparison : MineTexts → List ℕ → List ℕ → ComparedView → Type 0
IsComparison texts design certificate (beside v count worth gap) = IsComparedDesign texts design certificate v count
    worth gap
IsComparison texts design certificate (unproved fault) = IsDrawn texts design
    × CertificateRefused texts certificate fault

-- ---- how it is told

-- the line of the pit of a certificate
abbrev pub best_line : ℕ → ℤ → ℤ → List ℕ
best_line count worth gap = codes "BEST "
    ++ (decimal count ++ (codes " " ++ (amount_text 9 worth ++ (codes " GAP " ++ (amount_text 9 gap ++ 10 ∷ [])))))

-- the lines of a design and that of the pit; or the line of a check that refuses the certificate
abbrev pub compared_design_text : ComparedView → List ℕ
compared_design_text (beside v count worth gap) = design_text v ++ best_line count worth gap
compared_design_text (unproved fault) = judgement_line (Refused fault)

-- how an engine ends with it
abbrev pub compared_design_verdict : ComparedView → Verdict
compared_design_verdict (beside v count worth gap) = verdict_for v.leading
compared_design_verdict (unproved fault) = No
