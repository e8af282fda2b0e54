-- From the mine at the price of a certificate to what is told beside a design, where the device tells its bytes.
use Rattle.std.proofs.Common.{ℕ, Bool, List, Option, IfSome}
use Rattle.prec_file.specs.Rests.{RestsView}
use Rattle.check_engines.specs.Judging.{factor_in}
use Rattle.mine_inputs.specs.Prelude.{MineTexts, IsMineRead}
use Rattle.mine_inputs.specs.declared.worths.Worths.{Worths}
use Rattle.mine_inputs.proofs.MineDevices.{under}
use Rattle.engine_faults.specs.declared.engine_fault.EngineFault.TheVariants as engine
use Rattle.design_engines.specs.declared.value_fault.DesignProblem.TheVariants as problem
use Rattle.design_engines.specs.declared.value_fault.ValueFault.{ValueFault}
use Rattle.design_engines.specs.declared.value_fault.ValueFault.TheVariants as value
use Rattle.design_engines.specs.Prelude.{ComparisonFails, ReadsDesign, NoValue}
use Rattle.design_engines.proofs.ComparedAnswers.{ReadBeside}

-- a fault of the design's value is one beside a certificate
pub unvalued : (texts : MineTexts) (d c : List ℕ) (e : ValueFault) → NoValue texts d e → ComparisonFails texts d c e
unvalued texts d c (value.Engine engine.Memory) h = h
unvalued texts d c (value.Design problem.TooLarge) h = h
unvalued texts d c e h = absurd h

-- what follows for a design and a certificate from what is known of the mine and the certificate
pub read_beside : (t : Option (List ℕ)) (worths : Worths) (rests : RestsView) (marks : List Bool)
    (P : MineTexts → List ℕ → Type 0) (Q : MineTexts → List ℕ → List ℕ → Type 0)
    → IfSome t (λ c. (texts : MineTexts) → IsMineRead texts (factor_in c) worths rests → P texts c)
    → ((texts : MineTexts) (d c : List ℕ) → ReadsDesign rests.blocks d marks → P texts c → Q texts d c)
    → IfSome t (ReadBeside worths rests marks Q)
read_beside t worths rests marks P Q h f = under t
    (λ c. (texts : MineTexts) → IsMineRead texts (factor_in c) worths rests → P texts c)
    (ReadBeside worths rests marks Q) h (λ c j. λ texts d read drawn. f texts d c drawn (j texts read))
