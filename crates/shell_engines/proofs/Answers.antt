-- From the parts of the engine of shells to its answer, where the readers tell their bytes.
use Rattle.std.proofs.Common.{ℕ, List, Option, Err, IfSome}
use Rattle.engine_faults.specs.declared.engine_fault.EngineFault.{EngineFault}
use Rattle.option_words.specs.declared.effort.Effort.{Effort}
use Rattle.mine_inputs.specs.Mines.{PrecedenceBy}
use Rattle.shell_engines.specs.declared.series_outputs.Wanted.{Wanted}
use Rattle.shell_engines.specs.Prelude.{SeriesMineFails, AnswersShells, DenoteSeries, NoNetAt, Shells}
use Rattle.shell_engines.proofs.Answering.{texts_unread}

-- the texts were not read
pub mine_unread : (o q : Option (List ℕ)) (r : Option PrecedenceBy) (v w : Option (List ℕ)) (effort : Effort)
    (wanted : Wanted) (e : EngineFault) → IfSome o (λ s. IfSome q (λ b. IfSome r (λ p. SeriesMineFails s b p e)))
    → IfSome o (λ s. IfSome q (λ b. IfSome r (λ p. Shells s b p effort wanted v v w w (Err e))))
mine_unread o q r v w effort wanted e h = texts_unread o q r (λ s b p. AnswersShells s b p effort wanted)
    SeriesMineFails DenoteSeries NoNetAt (λ s b p k f. absurd (f.1 0)) (λ s b p f. absurd (f.1 0))
    (λ s b p f. absurd (f.1 0)) v w e h
