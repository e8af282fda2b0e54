-- What a schedule says, over its list of lines.
use Rattle.std.specs.Prelude.{◌≡◌, ℕ, ◌<◌, Bool, true, false, not, cond, ◌==◌, List, [], ◌∷◌, length, codes, nat_lt}
use Rattle.std.specs.Prelude.{nat_le, slice_set, slice_index_or, Option, Some, None, option_map}
use Rattle.std.specs.Option.{option_or}
use Rattle.fixed_worth.specs.declared.limits.TheConstants.{LINE_BYTES}
use Rattle.fixed_worth.specs.Prelude.{fields_of, at_line}
pub use Rattle.fixed_worth.specs.Record.{Line, lines_in, reads, number_of, is_skipped}
use Rattle.schedule_file.specs.declared.entry.Entry.{Entry}
use Rattle.schedule_file.specs.declared.schedule_fault.ScheduleFault.{ScheduleFault}
use Rattle.schedule_file.specs.declared.schedule_fault.ScheduleFault.TheVariants.{Text, Number, UnknownBlock}
use Rattle.schedule_file.specs.declared.schedule_fault.ScheduleFault.TheVariants.{UnknownPeriod, UnknownWay, Repeated}
use Rattle.schedule_file.specs.declared.schedule_fault.ScheduleFault.TheVariants.{NoMemory}
use Rattle.schedule_file.specs.declared.schedule_fault.ScheduleFault.TheVariants as schedule

-- The fields that name the block, the period and the way of a line of two fields, or of three where there are ways to
-- treat a block; none of a line of any other form.
abbrev pub block_word : ℕ → List (List ℕ) → Option (List ℕ)
block_word ways (block ∷ period ∷ []) = Some block
block_word ways (block ∷ period ∷ way ∷ []) = cond (ways == 0) None (Some block)
block_word ways _ = None

abbrev pub period_word : ℕ → List (List ℕ) → Option (List ℕ)
period_word ways (block ∷ period ∷ []) = Some period
period_word ways (block ∷ period ∷ way ∷ []) = cond (ways == 0) None (Some period)
period_word ways _ = None

abbrev pub way_word : List (List ℕ) → Option (List ℕ)
way_word (block ∷ period ∷ way ∷ []) = Some way
way_word _ = None

-- a field that may be left out is a whole number where it is there
abbrev pub reads_if_some : Option (List ℕ) → Bool
reads_if_some (Some word) = reads word
reads_if_some None = true

-- whether a way that is named is none of so many, and not waste, which is the number after the last
abbrev pub is_unknown_way : ℕ → Option ℕ → Bool
is_unknown_way ways (Some way) = nat_lt ways way
is_unknown_way ways None = false

-- What is wrong with a block, its period and its way, given the entries of the lines before: a block has a period there
-- where one of them named it.
abbrev pub number_fault : (n periods ways : ℕ) → (ℕ → Entry) → (line block period : ℕ) → Option ℕ → Option ScheduleFault
number_fault n periods ways before line block period way =
    cond (nat_le n block) (Some (UnknownBlock line))
    (cond (nat_le periods period) (Some (UnknownPeriod line))
    (cond (is_unknown_way ways way) (Some (UnknownWay line))
    (cond (nat_lt (before block).period periods) (Some (Repeated line))
    None)))

-- What is wrong with these fields as the block, the period and the way of a line, if there are the first two.
abbrev pub entry_fault : (n periods ways : ℕ) → (ℕ → Entry) → ℕ → (block period way : Option (List ℕ))
    → Option ScheduleFault
entry_fault n periods ways before line (Some block) (Some period) way =
    cond (not (reads block)) (Some (Number line))
    (cond (not (reads period)) (Some (Number line))
    (cond (not (reads_if_some way)) (Some (Number line))
    (number_fault n periods ways before line (number_of block) (number_of period) (option_map number_of way))))
entry_fault n periods ways before line _ _ way = Some (Text line)

-- The fault of a line's fields: one without a field, and a remark, have none.
abbrev pub record_fault : (n periods ways : ℕ) → (ℕ → Entry) → ℕ → List (List ℕ) → Option ScheduleFault
record_fault n periods ways before line fields = cond (is_skipped fields) None
    (entry_fault n periods ways before line (block_word ways fields) (period_word ways fields) (way_word fields))

-- The fault of a line: one of more than 65,536 bytes is faulty even where it would be passed over.
abbrev pub line_fault : (n periods ways : ℕ) → (ℕ → Entry) → Line → Option ScheduleFault
line_fault n periods ways before l = cond (nat_lt LINE_BYTES (length l.text)) (Some (Text l.number))
    (record_fault n periods ways before l.number (fields_of l.text))

-- the entry of a period and a way, which may be left out
abbrev pub entry_of : ℕ → Option ℕ → Entry
entry_of period way = record { period = period; way = way }

-- The entries with the one that a line gives its block.
abbrev pub with_entry : (ℕ → Entry) → (block period way : Option (List ℕ)) → ℕ → Entry
with_entry before (Some block) (Some period) way = λ b. cond (b == number_of block)
    (entry_of (number_of period) (option_map number_of way)) (before b)
with_entry before _ _ way = before

abbrev pub with_fields : ℕ → (ℕ → Entry) → List (List ℕ) → ℕ → Entry
with_fields ways before fields = cond (is_skipped fields) before
    (with_entry before (block_word ways fields) (period_word ways fields) (way_word fields))

abbrev pub with_lines : ℕ → (ℕ → Entry) → List Line → ℕ → Entry
with_lines ways before [] = before
with_lines ways before (l ∷ lines) = with_lines ways (with_fields ways before (fields_of l.text)) lines

-- The fault of the first faulty line, if any, given the entries of the lines before.
abbrev pub first_fault : (n periods ways : ℕ) → (ℕ → Entry) → List Line → Option ScheduleFault
first_fault n periods ways before [] = None
first_fault n periods ways before (l ∷ lines) = option_or (line_fault n periods ways before l)
    (first_fault n periods ways (with_fields ways before (fields_of l.text)) lines)

-- what a block has that no line names: the number of periods as its period, and no way
abbrev pub no_entry : ℕ → Entry
no_entry periods = entry_of periods None

-- The fault of a text for n blocks, so many periods and so many ways beside waste, if any.
abbrev pub fault_of : (n periods ways : ℕ) → List ℕ → Option ScheduleFault
fault_of n periods ways text = first_fault n periods ways (λ b. no_entry periods) (lines_in text)

-- The entries of a text over so many periods: the period and the way that a line gives a block.
abbrev pub entries_of : (periods ways : ℕ) → List ℕ → ℕ → Entry
entries_of periods ways text = with_lines ways (λ b. no_entry periods) (lines_in text)

-- the schedule of a text: the period that a line gives a block, and their number for one that no line names
abbrev pub schedule_of : (periods ways : ℕ) → List ℕ → ℕ → ℕ
schedule_of periods ways text b = (entries_of periods ways text b).period

-- The list has the entry of each of n blocks.
pub record AreEntries (n periods ways : ℕ) (text : List ℕ) (listed : List Entry) : Type 0 where
  pub size : length listed ≡ n
  pub at : (b : ℕ) → b < n → slice_index_or listed b (no_entry periods) ≡ entries_of periods ways text b

-- The entries of a list, with no period beyond its end.
abbrev pub by_list : ℕ → List Entry → ℕ → Entry
by_list periods listed b = slice_index_or listed b (no_entry periods)

-- The list with the entry that a line gives its block.
abbrev pub set_entry : List Entry → (block period way : Option (List ℕ)) → List Entry
set_entry listed (Some block) (Some period) way = slice_set listed (number_of block)
    (entry_of (number_of period) (option_map number_of way))
set_entry listed _ _ way = listed

abbrev pub entries_after : ℕ → List (List ℕ) → List Entry → List Entry
entries_after ways fields listed = cond (is_skipped fields) listed
    (set_entry listed (block_word ways fields) (period_word ways fields) (way_word fields))

-- The fault is want of memory, or the claim holds.
abbrev pub UnlessMemory : ScheduleFault → Type 0 → Type 0
UnlessMemory NoMemory claim = Unit {0}
UnlessMemory _ claim = claim

-- The fault's name, and its line in brackets.
abbrev pub schedule_fault_text : ScheduleFault → List ℕ
schedule_fault_text (schedule.Text line) = at_line (codes "Text") line
schedule_fault_text (schedule.Number line) = at_line (codes "Number") line
schedule_fault_text (schedule.UnknownBlock line) = at_line (codes "UnknownBlock") line
schedule_fault_text (schedule.UnknownPeriod line) = at_line (codes "UnknownPeriod") line
schedule_fault_text (schedule.UnknownWay line) = at_line (codes "UnknownWay") line
schedule_fault_text (schedule.Repeated line) = at_line (codes "Repeated") line
schedule_fault_text schedule.NoMemory = codes "NoMemory"
