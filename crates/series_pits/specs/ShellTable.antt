-- The table of shells: what the best pit at each factor has.
use Rattle.std.specs.Prelude.{◌≡◌, ℕ, Bool, All, List, [], ◌∷◌, ◌++◌, map, codes, decimal}
use Rattle.std.specs.List.{flat_map}
use Rattle.fixed_worth.specs.Printed.{amount_text}
use Rattle.closure_net.specs.Mine.{Mine, worth_of, block_count_of, IsBest}
use Rattle.solve_engines.specs.declared.solvers.Unsolved.{Unsolved}
use Rattle.solve_engines.specs.declared.solvers.Unsolved.TheVariants.{Unsettled, GaveUp, TooLarge}
use Rattle.series_pits.specs.declared.shell_rows.ShellRow.{ShellRow}

-- the number of blocks of the best pit of a mine, and its worth in billionths
pub record IsRowOf (mine : Mine) (row : ShellRow) : Type 0 where
  pub pit : ℕ → Bool
  pub best : IsBest mine pit
  pub blocks_are : block_count_of mine pit ≡ row.blocks
  pub worth_is : worth_of mine pit ≡ row.worth

-- a row for each of these factors, in their order, where the mine depends on the factor
pub record AreRowsOf (mine : ℕ → Mine) (factors : List ℕ) (rows : List ShellRow) : Type 0 where
  pub at : map (λ row. row.factor) rows ≡ factors
  pub each : All (λ row. IsRowOf (mine row.factor) row) rows

-- a row as it is printed, without its line feed
abbrev pub row_text : ShellRow → List ℕ
row_text row = codes "SHELL "
    ++ (decimal row.factor ++ (codes " " ++ (decimal row.blocks ++ (codes " " ++ amount_text 9 row.worth))))

-- the line of a row, with its line feed
abbrev pub shell_row_line : ShellRow → List ℕ
shell_row_line row = row_text row ++ 10 ∷ []

-- the lines of all rows
abbrev pub shell_table_text : List ShellRow → List ℕ
shell_table_text rows = flat_map shell_row_line rows

-- the line that is written where no pit is proved at a factor, by the reason
abbrev pub IsLineOf : ℕ → Unsolved → List ℕ → Type 0
IsLineOf factor Unsettled text = text ≡ codes "UNSETTLED " ++ (decimal factor ++ 10 ∷ [])
IsLineOf factor GaveUp text = text ≡ codes "UNSETTLED " ++ (decimal factor ++ 10 ∷ [])
IsLineOf factor TooLarge text = text ≡ codes "REFUSED TooLarge" ++ 10 ∷ []
IsLineOf factor _ text = ⊥
