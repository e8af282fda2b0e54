use Rattle.fixed_worth.proofs.Common.{None, ◌≡◌, ℕ, ℤ, List, [], length, Option, sym, ap, ◌∙◌, subst, arith}
use Rattle.fixed_worth.proofs.Common.{common_steps}
use Rattle.blocks_file.proofs.reading.read_blocks.Goals as goal
use Rattle.blocks_file.specs.declared.place.Place.{Place}
use Rattle.blocks_file.specs.declared.blocks_fault.BlocksFault.{BlocksFault}
use Rattle.fixed_worth.specs.Record.{lines_in}
use Rattle.blocks_file.specs.Prelude.{record_count_of, first_blocks_fault, long_fault, many_fault, blocks_fault_of}
use Rattle.blocks_file.specs.Prelude.{BlocksView, DenotesModel, columns_from, AreKept}
use Rattle.blocks_file.proofs.Slots.{columns_length, column_length, column_at}

denoted : (n : ℕ) (chosen text : List ℕ) (places : List Place) (values : List ℤ) → n ≡ record_count_of text
    → AreKept n chosen (lines_in text) places values
    → DenotesModel chosen text (record { blocks = n; places = places; columns = columns_from (length chosen) n values })
denoted n chosen text places values e k = grind (arith, common_steps, columns_length, column_length, column_at)

is_denoted : (n : ℕ) (chosen text : List ℕ) (places : List Place) (values : List ℤ) (m : BlocksView)
    → m ≡ record { blocks = n; places = places; columns = columns_from (length chosen) n values }
    → n ≡ record_count_of text → AreKept n chosen (lines_in text) places values
    → DenotesModel chosen text m
is_denoted n chosen text places values m e f k = subst (λ (x : BlocksView). DenotesModel chosen text x) (sym e)
    (denoted n chosen text places values f k)

-- A text without an early fault has the fault of its first faulty line.
fault_is : (n : ℕ) (chosen text : List ℕ) (o : Option BlocksFault) → long_fault (lines_in text) ≡ None
    → many_fault (lines_in text) ≡ None → n ≡ record_count_of text → first_blocks_fault n chosen [] (lines_in text)
    ≡ o → blocks_fault_of chosen text ≡ o
fault_is n chosen text o l m e f = rw (l, m) (ap (λ (x : ℕ). first_blocks_fault x chosen [] (lines_in text)) (sym e)
    ∙ f)

pub returns-clause-value : goal.returns-clause-value
returns-clause-value c =
    let n = c.in_ok-n.ensures in
    let r = c.in_ok-kept.ensures in (
      fault_is c.in_ok-n.n c.args.columns.now c.args.text.now None n.0 n.1 n.2 r.0,
      is_denoted c.in_ok-n.n c.args.columns.now c.args.text.now c.in_ok-kept.kept.places.items
          c.in_ok-kept.kept.values.items c.of.result c.of.ensures n.2 r.1,
    )
