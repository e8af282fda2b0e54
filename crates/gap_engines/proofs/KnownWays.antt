-- A way that a schedule names, and the one that is meant where it names none, is one of those that there are, or waste.
use Rattle.fixed_worth.proofs.Common.{◌≡◌, ℕ, ◌+◌, ◌<◌, ℤ, pos, Bool, true, false, cond, ◌==◌, nat_lt, List, [], ◌∷◌}
use Rattle.fixed_worth.proofs.Common.{length, Option, Some, None, option_map, option_or, unwrap_or, refl, sym, arith}
use Rattle.fixed_worth.proofs.Common.{length-map, common_steps}
use Rattle.std.specs.Prelude.{int_lt}
use Rattle.std.specs.List.{position}
use Rattle.std.specs.Ordering.{int_eq}
use Rattle.std.proofs.lemmas.Bool.{ltb-false}
use Rattle.std.proofs.lemmas.List.Quantifiers.{position-Some}
use Rattle.std.proofs.lemmas.Option.{none-some}
use Rattle.fixed_worth.specs.Prelude.{fields_of}
use Rattle.fixed_worth.specs.declared.limits.TheConstants.{LINE_BYTES}
use Rattle.shells.specs.Prices.{PricesView, plain_prices, treated_prices, best_of, first_best, left_at, way_count}
use Rattle.shells.specs.Prices.{worths_by}
use Rattle.mine_inputs.specs.Prelude.{MineTexts, mine_texts, priced_texts, sloped_texts, valued_texts, most_way}
use Rattle.mine_inputs.specs.Prelude.{most_way_at, table_of, ways_of}
use Rattle.schedule_file.specs.declared.entry.Entry.{Entry}
use Rattle.schedule_file.specs.declared.schedule_fault.ScheduleFault.{ScheduleFault}
use Rattle.schedule_file.specs.declared.schedule_fault.ScheduleFault.TheVariants.{Text}
use Rattle.schedule_file.specs.Records.{Line, block_word, entries_of, entry_fault, entry_of, fault_of, first_fault}
use Rattle.schedule_file.specs.Records.{is_skipped, is_unknown_way, line_fault, lines_in, no_entry, number_of}
use Rattle.schedule_file.specs.Records.{period_word, record_fault, way_word, with_entry, with_fields, with_lines}
use Rattle.schedule_engines.specs.Schedules.{way_by}

-- ---- a way that is named

-- every way that entries name is known
abbrev pub AreKnown : ℕ → (ℕ → Entry) → Type 0
AreKnown ways entries = (b : ℕ) → is_unknown_way ways (entries b).way ≡ false

named : (n periods ways : ℕ) (before : ℕ → Entry) (line : ℕ) (block period : List ℕ) (way : Option (List ℕ))
    → entry_fault n periods ways before line (Some block) (Some period) way ≡ None
    → is_unknown_way ways (option_map number_of way) ≡ false
named n periods ways before line block period way e = grind (arith, common_steps)

entry_known : (n periods ways : ℕ) (before : ℕ → Entry) (line : ℕ) (o p q : Option (List ℕ)) → AreKnown ways before
    → entry_fault n periods ways before line o p q ≡ None → AreKnown ways (with_entry before o p q)
entry_known n periods ways before line (Some block) (Some period) way known e b = by_test (b == number_of block)
  where
    by_test : (t : Bool) → is_unknown_way ways
        (cond t (entry_of (number_of period) (option_map number_of way)) (before b)).way ≡ false
    by_test true = named n periods ways before line block period way e
    by_test false = known b
entry_known n periods ways before line (Some block) None way known e b = known b
entry_known n periods ways before line None p way known e b = known b

record_known : (n periods ways : ℕ) (before : ℕ → Entry) (line : ℕ) (s : Bool) (o p q : Option (List ℕ))
    → AreKnown ways before → cond s None (entry_fault n periods ways before line o p q) ≡ None
    → AreKnown ways (cond s before (with_entry before o p q))
record_known n periods ways before line true o p q known e = known
record_known n periods ways before line false o p q known e = entry_known n periods ways before line o p q known e

short : (t : Bool) (x : ScheduleFault) (o : Option ScheduleFault) → cond t (Some x) o ≡ None → o ≡ None
short true x o e = absurd (none-some x (sym e))
short false x o e = e

no_fault : (o p : Option ScheduleFault) → option_or o p ≡ None → (o ≡ None) × (p ≡ None)
no_fault None p e = (refl, e)
no_fault (Some x) p e = absurd (none-some x (sym e))

lines_known : (n periods ways : ℕ) (before : ℕ → Entry) (lines : List Line) → AreKnown ways before
    → first_fault n periods ways before lines ≡ None → AreKnown ways (with_lines ways before lines)
lines_known n periods ways before [] known e = known
lines_known n periods ways before (l ∷ lines) known e =
    let fields = fields_of l.text in
    let x = no_fault (line_fault n periods ways before l)
    (first_fault n periods ways (with_fields ways before fields) lines) e in
    let y = short (nat_lt LINE_BYTES (length l.text)) (Text l.number)
    (record_fault n periods ways before l.number fields) x.0 in
    lines_known n periods ways (with_fields ways before fields) lines
    (record_known n periods ways before l.number (is_skipped fields) (block_word ways fields)
    (period_word ways fields) (way_word fields) known y) x.1

pub entries_known : (n periods ways : ℕ) (text : List ℕ) → fault_of n periods ways text ≡ None
    → AreKnown ways (entries_of periods ways text)
entries_known n periods ways text e = lines_known n periods ways (λ b. no_entry periods) (lines_in text) (λ b. refl) e

-- ---- a way that is meant

placed : (o : Option ℕ) (m : ℕ) → ((i : ℕ) → o ≡ Some i → i < m) → unwrap_or o m < m + 1
placed None m low = omega arith
placed (Some i) m low = let l = low i refl in omega (arith, l)

best_known : (ws : List ℤ) (t : Bool) (i : ℕ) → cond t (position (λ w. int_eq w (best_of ws)) ws) None ≡ Some i
    → i < length ws
best_known ws true i e = (position-Some (λ w. int_eq w (best_of ws)) ws i (pos 0) e).0
best_known ws false i e = absurd (none-some i e)

meant : (table : PricesView) (factor b : ℕ) → most_way_at table factor b < way_count table + 1
meant (plain_prices revenue cost) factor b = omega arith
meant (treated_prices ways mining) factor b =
    let ws = worths_by ways factor b in
    placed (first_best ws) (length ways)
    (λ i e. let l = best_known ws (int_lt (pos 0) (best_of ws)) i e in omega
    (arith, l, length-map ways (λ way. left_at way.revenue way.processing factor b)))

most_known : (texts : MineTexts) (b : ℕ) → most_way texts b < ways_of texts + 1
most_known (mine_texts values precedence) b = omega arith
most_known (priced_texts settings blocks precedence factor) b = meant (table_of settings blocks) factor b
most_known (sloped_texts settings blocks factor) b = meant (table_of settings blocks) factor b
most_known (valued_texts settings blocks values) b = omega arith

-- ---- the way of a block

chosen : (ways most : ℕ) (o : Option ℕ) → is_unknown_way ways o ≡ false → most < ways + 1 → unwrap_or o most < ways + 1
chosen ways most (Some way) e low = let l = ltb-false ways way e in omega (arith, l)
chosen ways most None e low = low

-- whichever way a block goes by entries of known ways, it is one of those of the texts, or waste
pub way_known : (texts : MineTexts) (entries : ℕ → Entry) → AreKnown (ways_of texts) entries → (b : ℕ)
    → way_by texts entries b < ways_of texts + 1
way_known texts entries known b = chosen (ways_of texts) (most_way texts b) (entries b).way (known b)
    (most_known texts b)
