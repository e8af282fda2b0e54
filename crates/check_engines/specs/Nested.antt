-- Two accepted pits over one table of prices.
use Rattle.std.specs.Prelude.{◌≡◌, ℕ, ◌≤◌, ℤ, List}
use Rattle.ordered_group.specs.declared.groups.Group.{Group}
use Rattle.closure_net.specs.Prelude.{holds_of, LiesWithin}
use Rattle.mine_inputs.specs.Prelude.{PrecedenceBy, table_of, texts_by, rests_of, mine_of}
use Rattle.check_engines.specs.Readings.{TellsSizes}
use Rattle.check_engines.specs.Judgements.{CertificateAccepted}

-- The texts name the same prices, and the same blocks rest on the same ones, be it by a list of pairs or by slopes,
-- whatever the factors: settings may differ in other keys, and lines in their order.
pub record IsOneTable (settings blocks : List ℕ) (precedence : PrecedenceBy) (settings' blocks' : List ℕ)
    (precedence' : PrecedenceBy) : Type 0 where
  pub prices : table_of settings blocks ≡ table_of settings' blocks'
  pub rests : (j k b p : ℕ) → rests_of (texts_by settings blocks precedence j) b p ≡ rests_of (texts_by settings' blocks' precedence' k) b p

-- Of two pits that are accepted over one price table, each in amounts that tell sizes, the one at the lower factor lies
-- within the other.
abbrev pub AcceptedAreNested : Type 0
AcceptedAreNested = (settings blocks : List ℕ) (precedence : PrecedenceBy) (settings' blocks' : List ℕ) (precedence' : PrecedenceBy) (lower higher : List ℕ) (j k count count' : ℕ) (worth worth' : ℤ) (name name' : Group) → TellsSizes name → TellsSizes name' → IsOneTable settings blocks precedence settings' blocks' precedence' → j ≤ k
    → (low : CertificateAccepted (texts_by settings blocks precedence j) lower name count worth)
    (high : CertificateAccepted (texts_by settings' blocks' precedence' k) higher name' count' worth')
    → LiesWithin (mine_of low.read.blocks (texts_by settings blocks precedence j)) (holds_of low.read.pit)
    (holds_of high.read.pit)
