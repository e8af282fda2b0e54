-- The tonnes of a bench and a shell by the way that their blocks go, and the text of a bench table that has them.
use Rattle.std.specs.Prelude.{◌≡◌, ℕ, zero, suc, ◌+◌, ◌<◌, ℤ, pos, ◌==◌, ◌&&◌, Bool, true, false, List, [], ◌∷◌, ◌++◌}
use Rattle.std.specs.Prelude.{map, length, codes, slice_index_or, Vec, Option, Some, None}
use Rattle.std.specs.List.{range_with_len}
use Rattle.std.specs.declared.alloc.Global.{Global}
use Rattle.std.specs.Fmt.{decimal, signed_decimal}
use Rattle.fixed_worth.specs.Printed.{amount_text}
use Rattle.ordered_group.specs.Sets.{worth_in}
use Rattle.shells.specs.Prices.{PricesView, plain_prices, treated_prices}
use Rattle.bench_report.specs.declared.bench_row.BenchRow.{BenchRow}
use Rattle.bench_report.specs.Benches.{ReportedBlocks, blocks_at}
use Rattle.bench_report.specs.Written.{table_text}

-- how many ways prices have: none where they are revenues and costs
abbrev pub way_count : PricesView → ℕ
way_count (plain_prices revenue cost) = 0
way_count (treated_prices ways mining) = length ways

-- whether a block that may go a way goes the i-th, counted from 0
abbrev pub goes_way : Option ℕ → ℕ → Bool
goes_way None i = false
goes_way (Some j) i = j == i

-- whether it goes any way, and not to waste
abbrev pub is_treated : Option ℕ → Bool
is_treated None = false
is_treated (Some j) = true

-- the tonnes of the blocks of a row, those of one bench and one shell, that go the i-th way
abbrev pub way_tonnes : ReportedBlocks → (ℕ → Option ℕ) → BenchRow → ℕ → ℤ
way_tonnes m way r i = worth_in m.tonnes (λ b. blocks_at m r.z r.shell b && goes_way (way b) i) m.blocks

-- the tonnes of the blocks of a row that are treated
abbrev pub treated_tonnes : ReportedBlocks → (ℕ → Option ℕ) → BenchRow → ℤ
treated_tonnes m way r = worth_in m.tonnes (λ b. blocks_at m r.z r.shell b && is_treated (way b)) m.blocks

-- the tonnes of a row by n ways, one after another
abbrev pub tonnes_by_way : ReportedBlocks → (ℕ → Option ℕ) → ℕ → BenchRow → List ℤ
tonnes_by_way m way n r = map (way_tonnes m way r) (range_with_len 0 n)

-- Where each block goes one of n ways or to waste, the tonnes of a row by way add up to those of its treated blocks.
abbrev pub WaysAddUp : Type 0
WaysAddUp = (m : ReportedBlocks) (way : ℕ → Option ℕ) (n : ℕ) (r : BenchRow)
    → ((b i : ℕ) → b < m.blocks → way b ≡ Some i → i < n)
    → worth_in (way_tonnes m way r) (λ i. true) n ≡ treated_tonnes m way r

-- ---- the text

-- the names of the columns of tonnes by n ways: tonnes1, tonnes2 and so on
abbrev pub way_names : ℕ → List ℕ
way_names zero = []
way_names (suc n) = way_names n ++ (codes ",tonnes" ++ decimal (n + 1))

-- the names of all columns
abbrev pub way_header : ℕ → List ℕ
way_header n = codes "z,shell,blocks,tonnes,worth" ++ (way_names n ++ 10 ∷ [])

-- the numbers of a row as the table without ways has them, with no line feed
abbrev pub row_front : BenchRow → List ℕ
row_front r = signed_decimal r.z ++ 44
    ∷ (decimal r.shell ++ 44 ∷ (decimal r.blocks ++ 44 ∷ (amount_text 6 r.tonnes ++ 44 ∷ amount_text 9 r.worth)))

-- tonnes with at most six places, a comma (44) before each
abbrev pub tonnes_fields : List ℤ → List ℕ
tonnes_fields [] = []
tonnes_fields (t ∷ ts) = 44 ∷ (amount_text 6 t ++ tonnes_fields ts)

-- the line of a row with its tonnes by way
abbrev pub way_row_line : BenchRow → List ℤ → List ℕ
way_row_line r tonnes = row_front r ++ (tonnes_fields tonnes ++ 10 ∷ [])

-- a line for each row
abbrev pub way_rows_text : (BenchRow → List ℤ) → List BenchRow → List ℕ
way_rows_text tonnes [] = []
way_rows_text tonnes (r ∷ rs) = way_row_line r (tonnes r) ++ way_rows_text tonnes rs

-- the names of the columns, and the rows with their tonnes by n ways
abbrev pub way_table_text : ℕ → (BenchRow → List ℤ) → List BenchRow → List ℕ
way_table_text n tonnes rs = way_header n ++ way_rows_text tonnes rs

-- the bench table of these blocks, with tonnes by n ways where these are wanted (true)
abbrev pub bench_text : Bool → ReportedBlocks → (ℕ → Option ℕ) → ℕ → List BenchRow → List ℕ
bench_text false m way n rs = table_text rs
bench_text true m way n rs = way_table_text n (tonnes_by_way m way n) rs

-- ---- lists of tonnes, one for each way

-- the number of a row in each of these lists
abbrev pub tonnes_at : List (Vec ℤ Global) → ℕ → List ℤ
tonnes_at by_way j = map (λ list. slice_index_or list.items j (pos 0)) by_way

-- a row that stands for none
abbrev pub no_row : BenchRow
no_row = record { z = pos 0; shell = 0; blocks = 0; tonnes = pos 0; worth = pos 0 }

-- these are the tonnes of each row
abbrev pub AreTonnesOf : List BenchRow → List (Vec ℤ Global) → (BenchRow → List ℤ) → Type 0
AreTonnesOf rows by_way tonnes = (j : ℕ) → j < length rows → tonnes (slice_index_or rows j no_row) ≡ tonnes_at by_way j
