-- The one text of a name and values.
use Rattle.std.specs.Prelude.{ℕ, ℤ, ◌+◌, List, [], ◌∷◌, ◌++◌, length, codes, ◌≡◌, None}
use Rattle.std.specs.Fmt.{decimal}
use Rattle.fixed_worth.specs.Prelude.{with_line_feeds, amount_text}
use Rattle.upit_file.specs.Records.{UpitView, upit_fault_of, DenotesValues}

-- The lines of the header for n blocks.
abbrev pub header_lines : List ℕ → ℕ → List (List ℕ)
header_lines name n = (codes "NAME: " ++ name) ∷ codes "TYPE: UPIT" ∷ (codes "NBLOCKS: " ++ decimal n)
    ∷ codes "OBJECTIVE_FUNCTION:" ∷ []

-- The line of block b: its number, a space (32) and its value with at most six places.
abbrev pub record_line : ℕ → ℤ → List ℕ
record_line b value = decimal b ++ (32 ∷ amount_text 6 value)

-- The lines of the blocks from b on.
abbrev pub record_lines : ℕ → List ℤ → List (List ℕ)
record_lines b [] = []
record_lines b (value ∷ values) = record_line b value ∷ record_lines (b + 1) values

-- The lines of a name and values.
abbrev pub upit_lines : UpitView → List (List ℕ)
upit_lines u = header_lines u.name (length u.values) ++ (record_lines 0 u.values ++ (codes "EOF" ∷ []))

-- The text of a name and values: a line feed after each line.
abbrev pub upit_text : UpitView → List ℕ
upit_text u = with_line_feeds (upit_lines u)

-- The text of a name and values is read without a fault, and denotes them.
pub record IsUpitReadBack (u : UpitView) : Type 0 where
  pub sound : upit_fault_of (length u.values) (upit_text u) ≡ None
  pub same : DenotesValues (length u.values) (upit_text u) u
