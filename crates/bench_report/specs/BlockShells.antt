-- The text of a table of blocks and their shells, and of one that says too which way each block goes.
use Rattle.std.specs.Prelude.{ℕ, zero, suc, ◌+◌, Bool, true, false, List, [], ◌∷◌, ◌++◌, codes, Option, Some, None}
use Rattle.std.specs.Fmt.{decimal}

-- the names of the columns
abbrev pub names_line : List ℕ
names_line = codes "block,shell\n"

-- a shell as it is written: nothing where there is none
abbrev pub shell_field : Option ℕ → List ℕ
shell_field None = []
shell_field (Some k) = decimal k

-- a block and its shell with a comma (44) between them, and a line feed (10)
abbrev pub block_shell_line : ℕ → Option ℕ → List ℕ
block_shell_line b shell = decimal b ++ 44 ∷ (shell_field shell ++ 10 ∷ [])

-- the lines of the blocks below n, where these are the shells
abbrev pub block_lines : (ℕ → Option ℕ) → ℕ → List ℕ
block_lines shell zero = []
block_lines shell (suc n) = block_lines shell n ++ block_shell_line n (shell n)

-- the names of the columns, and a line for each of n blocks, ascending
abbrev pub block_table_text : (ℕ → Option ℕ) → ℕ → List ℕ
block_table_text shell n = names_line ++ block_lines shell n

-- ---- with the way of each block

-- the names of the columns, with that of ways
abbrev pub way_names_line : List ℕ
way_names_line = codes "block,shell,way\n"

-- the way of a block that may have a shell: a block that no shell holds goes none
abbrev pub way_if_held : Option ℕ → Option ℕ → Option ℕ
way_if_held None way = None
way_if_held (Some k) way = way

-- a way as it is written, the first way as 1: nothing where there is none
abbrev pub way_field : Option ℕ → List ℕ
way_field None = []
way_field (Some i) = decimal (i + 1)

-- a block, its shell and its way with commas between them, and a line feed
abbrev pub block_way_line : ℕ → Option ℕ → Option ℕ → List ℕ
block_way_line b shell way = decimal b ++ 44
    ∷ (shell_field shell ++ 44 ∷ (way_field (way_if_held shell way) ++ 10 ∷ []))

-- the lines of the blocks below n, where these are the shells and the ways
abbrev pub block_way_lines : (ℕ → Option ℕ) → (ℕ → Option ℕ) → ℕ → List ℕ
block_way_lines shell way zero = []
block_way_lines shell way (suc n) = block_way_lines shell way n ++ block_way_line n (shell n) (way n)

-- the names of the columns, and a line for each of n blocks, ascending
abbrev pub block_way_table_text : (ℕ → Option ℕ) → (ℕ → Option ℕ) → ℕ → List ℕ
block_way_table_text shell way n = way_names_line ++ block_way_lines shell way n

-- the table of n blocks: with their ways where these are asked for
abbrev pub blocks_text : Bool → (ℕ → Option ℕ) → (ℕ → Option ℕ) → ℕ → List ℕ
blocks_text false shell way n = block_table_text shell n
blocks_text true shell way n = block_way_table_text shell way n
