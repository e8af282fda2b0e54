-- What is read of the table of a document is what its text says.
use Rattle.fixed_worth.proofs.Common.{◌≡◌, ℕ, List, Result, Ok, Err, MatchResult, IfErr}
use Rattle.toml.specs.Data.{Members}
use Rattle.periods_file.specs.declared.periods.Periods.{Periods}
use Rattle.periods_file.specs.declared.periods_fault.PeriodsFault.{PeriodsFault}
use Rattle.periods_file.specs.declared.periods_fault.PeriodsFault.TheVariants.{NotToml, NoMemory}
use Rattle.toml_values.specs.Prelude.{IsDocument}
use Rattle.periods_file.specs.Prelude.{IsOfTable, ReadsPeriods, periods_in, periods_view}

pub table_is_text : (ways : ℕ) (text : List ℕ) (ms : Members) (answer : Result Periods PeriodsFault)
    → IsDocument text ms
    → MatchResult answer (λ p. periods_in ways ms ≡ Ok (periods_view p))
    (λ e. ¬ (e ≡ NoMemory) → periods_in ways ms ≡ Err e) → IfErr answer IsOfTable
    → MatchResult answer (λ p. ReadsPeriods ways text (Ok (periods_view p))) (λ e. ReadsPeriods ways text (Err e))
table_is_text ways text ms (Ok p) d h k = (ms, d, h)
table_is_text ways text ms (Err NotToml) d h k = absurd k
table_is_text ways text ms (Err NoMemory) d h k = d.utf8
table_is_text ways text ms (Err _) d h k = (ms, d, h (λ e. cc))
