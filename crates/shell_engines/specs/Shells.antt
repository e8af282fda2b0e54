-- How the engine of `shells` ends, by the bytes of its inputs and of its output.
use Rattle.std.specs.Prelude.{◌≡◌, ℕ, ◌≤◌, Bool, List, [], Contains, Option, Result}
use Rattle.ordered_group.specs.declared.groups.Group.{Group}
use Rattle.ordered_group.specs.declared.groups.Group.TheVariants.{Scaled}
use Rattle.closure_net.specs.Prelude.{NetView, Mine, IsBest, LiesWithin}
use Rattle.closure_net.specs.declared.net.NetFault.{NetFault}
use Rattle.check_engines.specs.declared.judgement.Verdict.{Verdict}
use Rattle.check_engines.specs.declared.judgement.Verdict.TheVariants.{Done, No}
use Rattle.engine_faults.specs.declared.engine_fault.EngineFault.{EngineFault}
use Rattle.option_words.specs.declared.effort.Effort.{Effort}
use Rattle.mine_inputs.specs.Mines.{PrecedenceBy, is_sloped, texts_by, DenoteMine}
use Rattle.check_engines.specs.Prelude.{ModelFails}
use Rattle.solve_engines.specs.Prelude.{IsNetBy}
use Rattle.solve_engines.specs.declared.solvers.Unsolved.{Unsolved}
use Rattle.series_pits.specs.declared.shell_rows.ShellRow.{ShellRow}
use Rattle.shell_engines.specs.declared.series_outputs.Wanted.{Wanted}
use Rattle.series_pits.specs.Prelude.{NotSolvedStands, AreRowsOf, shell_table_text, IsLineOf}
use Rattle.shell_engines.specs.Answering.{FailsBy, Ends}
use Rattle.shell_engines.specs.SeriesTexts.{KeysKnown, factors_said, SeriesMineFails}
use Rattle.shell_engines.specs.BlockTables.{mine_at_factor, IsTableWanted}

-- the amounts in which each flow is checked: worth and the count of blocks in one number
abbrev pub shell_group : Group
shell_group = Scaled

-- of two of these factors, the best pit at the lower one lies within that at the other
abbrev pub AreNested : (ℕ → Mine) → Type 0
AreNested mine = (j k : ℕ) (e c : ℕ → Bool) → j ≤ k → IsBest (mine j) e → IsBest (mine k) c → LiesWithin (mine j) e c

-- The texts denote a mine at each factor, and the settings name those of the shells.
pub record DenoteSeries (settings blocks : List ℕ) (precedence : PrecedenceBy) : Type 0 where
  pub size : ℕ
  pub mine : (factor : ℕ) → DenoteMine (texts_by settings blocks precedence factor) size
  pub keys : KeysKnown (is_sloped precedence) settings

-- The texts denote a mine at each of the factors of the settings, and this one the table of its best pits, each of
-- which lies within the next.
pub record IsShellTable (settings blocks : List ℕ) (precedence : PrecedenceBy) (text : List ℕ) : Type 0 where
  pub size : ℕ
  pub mine : (factor : ℕ) → DenoteMine (texts_by settings blocks precedence factor) size
  pub keys : KeysKnown (is_sloped precedence) settings
  pub rows : List ShellRow
  pub rows_are : AreRowsOf (mine_at_factor size settings blocks precedence) (factors_said settings) rows
  pub nested : AreNested (mine_at_factor size settings blocks precedence)
  pub spelled : text ≡ shell_table_text rows

-- At one of the factors of the settings no pit is proved, for a reason that stands.
pub record IsNoTable (settings blocks : List ℕ) (precedence : PrecedenceBy) (effort : Effort) (text : List ℕ) : Type 0
  where
    pub factor : ℕ
    pub said : Contains (factors_said settings) factor
    pub net : NetView
    pub by : IsNetBy (texts_by settings blocks precedence factor) shell_group net
    pub why : Unsolved
    pub stands : NotSolvedStands net effort why
    pub spelled : IsLineOf factor why text

-- the table of blocks, where one is wanted, and the text that answer for them
abbrev pub AnswersShells : List ℕ → List ℕ → PrecedenceBy → Effort → Wanted → Verdict → List ℕ → List ℕ → Type 0
AnswersShells settings blocks precedence effort wanted Done table text = IsShellTable settings blocks precedence text
    × IsTableWanted wanted settings blocks precedence table
AnswersShells settings blocks precedence effort wanted No table text = IsNoTable settings blocks precedence effort
    text × (table ≡ [])

-- at one of the factors of the settings an amount of the mine's doesn't fit
pub record NoNetAt (settings blocks : List ℕ) (precedence : PrecedenceBy) (fault : NetFault) : Type 0 where
  pub factor : ℕ
  pub said : Contains (factors_said settings) factor
  pub size : ℕ
  pub mine : DenoteMine (texts_by settings blocks precedence factor) size
  pub stands : ModelFails (texts_by settings blocks precedence factor) size shell_group fault

-- why the engine answers a fault: it stands, and none before it does
abbrev pub ShellsFail : List ℕ → List ℕ → PrecedenceBy → EngineFault → Type 0
ShellsFail settings blocks precedence = FailsBy (SeriesMineFails settings blocks precedence)
    (DenoteSeries settings blocks precedence) (NoNetAt settings blocks precedence)

-- the answer, and what was written with it
abbrev pub Shells : List ℕ → List ℕ → PrecedenceBy → Effort → Wanted → Option (List ℕ) → Option (List ℕ)
    → Option (List ℕ) → Option (List ℕ) → Result Verdict EngineFault → Type 0
Shells settings blocks precedence effort wanted = Ends (AnswersShells settings blocks precedence effort wanted)
    (ShellsFail settings blocks precedence)
