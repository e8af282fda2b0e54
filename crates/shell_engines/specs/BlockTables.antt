-- The table of blocks and their shells, and of the way of each where that is wanted, by the bytes of a mine's texts.
use Rattle.std.specs.Prelude.{◌≡◌, ℕ, Bool, true, false, List, [], Contains, Option}
use Rattle.std.specs.List.{find}
use Rattle.closure_net.specs.Mine.{Mine, IsBest}
use Rattle.shells.specs.Prices.{way_at}
use Rattle.bench_report.specs.BlockShells.{blocks_text}
use Rattle.mine_inputs.specs.Prelude.{table_of, PrecedenceBy, texts_by, mine_of, DenoteMine}
use Rattle.shell_engines.specs.declared.series_outputs.Wanted.{Wanted}
use Rattle.shell_engines.specs.SeriesTexts.{factors_said, report_factor}

-- the mine of n blocks that the texts denote at a factor
abbrev pub mine_at_factor : ℕ → List ℕ → List ℕ → PrecedenceBy → ℕ → Mine
mine_at_factor n settings blocks precedence factor = mine_of n (texts_by settings blocks precedence factor)

-- which way a block of the texts goes at the factor of the report
abbrev pub way_said : List ℕ → List ℕ → ℕ → Option ℕ
way_said settings blocks b = way_at (table_of settings blocks) (report_factor settings) b

-- The texts denote a mine at each factor, the pits at the factors of the settings are the best ones, and this text has
-- for each of its blocks, ascending, the first of the factors whose pit holds it; and where ways are wanted, which way
-- it goes at the factor of the report.
pub record IsBlockTable (ways : Bool) (settings blocks : List ℕ) (precedence : PrecedenceBy) (text : List ℕ) : Type 0
  where
    pub size : ℕ
    pub mine : (factor : ℕ) → DenoteMine (texts_by settings blocks precedence factor) size
    pub pit : ℕ → ℕ → Bool
    pub best : (k : ℕ) → Contains (factors_said settings) k → IsBest (mine_at_factor size settings blocks precedence k)
        (pit k)
    pub spelled : text ≡ blocks_text ways (λ b. find (λ k. pit k b) (factors_said settings)) (way_said settings blocks)
        size

-- the text is that table where one is asked for (true), and otherwise empty
abbrev pub IsTableIfAsked : (asked ways : Bool) → List ℕ → List ℕ → PrecedenceBy → List ℕ → Type 0
IsTableIfAsked true ways settings blocks precedence text = IsBlockTable ways settings blocks precedence text
IsTableIfAsked false ways settings blocks precedence text = text ≡ []

-- the text is the table of blocks that is wanted
abbrev pub IsTableWanted : Wanted → List ℕ → List ℕ → PrecedenceBy → List ℕ → Type 0
IsTableWanted wanted settings blocks precedence text = IsTableIfAsked wanted.table wanted.ways settings blocks
    precedence text

-- two tables of the blocks of the same texts are the same, whatever run each comes from
abbrev pub BlockTablesAreOne : Type 0
BlockTablesAreOne = (ways : Bool) (settings blocks : List ℕ) (precedence : PrecedenceBy) (text other : List ℕ)
    → IsBlockTable ways settings blocks precedence text → IsBlockTable ways settings blocks precedence other
    → text ≡ other
