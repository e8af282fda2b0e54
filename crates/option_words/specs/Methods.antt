-- Which engine makes the flow of a mine.
use Rattle.std.specs.Prelude.{ℕ, Bool, true, false, cond, List, codes, nat_lt, Option, Some, None}
use Rattle.std.specs.Str.{bytes_eq}
use Rattle.option_words.specs.declared.method.Method.{Method}
use Rattle.option_words.specs.declared.method.Method.TheVariants.{Auto, Pseudoflow, PushRelabel}

-- the method that a word names, if it names one
abbrev pub method_of : List ℕ → Option Method
method_of word = cond (bytes_eq word (codes "auto")) (Some Auto)
    (cond (bytes_eq word (codes "pseudoflow")) (Some Pseudoflow)
    (cond (bytes_eq word (codes "push-relabel")) (Some PushRelabel) None))

-- whether pseudoflow is tried first on a mine of n blocks
abbrev pub begins_with_pseudoflow : Method → ℕ → Bool
begins_with_pseudoflow Auto n = nat_lt 1000 n
begins_with_pseudoflow Pseudoflow n = true
begins_with_pseudoflow PushRelabel n = false

-- whether there is no pit of a mine of n blocks where pseudoflow proves none: the machine isn't tried after it
abbrev pub ends_with_pseudoflow : Method → ℕ → Bool
ends_with_pseudoflow Auto n = nat_lt 10000 n
ends_with_pseudoflow Pseudoflow n = true
ends_with_pseudoflow PushRelabel n = false

-- the method where steps are asked for, or are not
abbrev pub method_under : Method → Bool → Method
method_under Auto true = PushRelabel
method_under method are_asked = method
