-- How an engine ends with a judgement.
use Rattle.check_engines.specs.declared.judgement.Judgement.{Judgement}
use Rattle.check_engines.specs.declared.judgement.Judgement.TheVariants.{Accepted, Refused}
use Rattle.check_engines.specs.declared.judgement.Verdict.{Verdict}
use Rattle.check_engines.specs.declared.judgement.Verdict.TheVariants.{Done, No}

abbrev pub verdict_of : Judgement → Verdict
verdict_of (Accepted group count worth) = Done
verdict_of (Refused fault) = No
