-- The words for the kinds of amount.
use Rattle.std.specs.Prelude.{ℕ, List, codes, cond, Option, Some, None}
use Rattle.std.specs.Str.{bytes_eq}
use Rattle.ordered_group.specs.declared.groups.Group.{Group}
use Rattle.ordered_group.specs.declared.groups.Group.TheVariants.{Worth, Pair, Scaled}

-- the word that a certificate has for a kind of amount
abbrev pub group_name : Group → List ℕ
group_name Worth = codes "WORTH"
group_name Pair = codes "PAIR"
group_name Scaled = codes "SCALED"

-- the kind that has this word, if one has
abbrev pub group_of : List ℕ → Option Group
group_of word =
    cond (bytes_eq word (group_name Worth)) (Some Worth)
    (cond (bytes_eq word (group_name Pair)) (Some Pair)
    (cond (bytes_eq word (group_name Scaled)) (Some Scaled) None))
