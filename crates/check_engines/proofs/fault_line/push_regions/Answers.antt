use Rattle.fixed_worth.proofs.Common.{◌≡◌, ◌++◌, ℕ, codes, decimal, subst}
use Rattle.check_engines.proofs.fault_line.push_regions.Goals as goal

pub returns-in-UnknownRegion-clause-text : goal.returns-in-UnknownRegion-clause-text
returns-in-UnknownRegion-clause-text c =
    let T : ℕ → Type 0 = λ n. c.push_at.new.line ≡ c.args.line.now
    ++ (codes "UnknownRegion(" ++ decimal n ++ codes ")") in
    rw c.in-UnknownRegion.is (subst T c.from-in-UnknownRegion.ensures c.push_at.ensures.text)

pub returns-in-TooManyOffsets-clause-text : goal.returns-in-TooManyOffsets-clause-text
returns-in-TooManyOffsets-clause-text c = rw c.in-TooManyOffsets.is c.push_at-in-TooManyOffsets.ensures.text

pub returns-in-TooManyRegions-clause-text : goal.returns-in-TooManyRegions-clause-text
returns-in-TooManyRegions-clause-text c = rw c.in-TooManyRegions.is c.push.ensures.text
