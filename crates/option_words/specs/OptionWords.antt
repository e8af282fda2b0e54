-- The words that name a factor, a kind of amount, a number of steps and a number of workers.
use Rattle.std.specs.Prelude.{ℕ, cond, List, codes, Option, Some, None}
use Rattle.std.specs.Str.{bytes_eq}
use Rattle.fixed_worth.specs.declared.limits.TheConstants.{MOST_FACTOR}
use Rattle.async_step.specs.declared.limits.TheConstants.{MOST_STEPS}
use Rattle.ordered_group.specs.declared.groups.Group.{Group}
use Rattle.ordered_group.specs.declared.groups.Group.TheVariants.{Worth, Pair, Scaled}
use Rattle.workers.specs.declared.solving.TheConstants.{MOST_WORKERS}
use Rattle.option_words.specs.WholeNumbers.{whole_within}

-- the kind of amount that a word names, if it names one
abbrev pub group_of_word : List ℕ → Option Group
group_of_word word = cond (bytes_eq word (codes "worth")) (Some Worth)
    (cond (bytes_eq word (codes "pair")) (Some Pair) (cond (bytes_eq word (codes "scaled")) (Some Scaled) None))

-- the number of workers that a word names, if it names one: a whole number from 1 to 64
abbrev pub workers_of : List ℕ → Option ℕ
workers_of word = whole_within word 1 MOST_WORKERS

-- the number of steps that a word names, if it names one: a whole number from 1 to `MOST_STEPS`
abbrev pub steps_of : List ℕ → Option ℕ
steps_of word = whole_within word 1 MOST_STEPS

-- the factor that a word names, if it names one: a whole number from 0 to 10,000
abbrev pub factor_of_word : List ℕ → Option ℕ
factor_of_word word = whole_within word 0 MOST_FACTOR
