use Rattle.fixed_worth.proofs.Common.{◌≡◌, false, sym, ◌∙◌, ℕ, ℤ, true, List, ◌∷◌, length, map, Some, None, refl, arith}
use Rattle.fixed_worth.proofs.Common.{length-map, common_steps}
use Rattle.fixed_worth.specs.Prelude.{fields_of, WordRun, is_remark, is_skipped, number_of, block_of}
use Rattle.blocks_file.proofs.record.read_record.Goals as goal
use Rattle.blocks_file.specs.declared.place.Place.{Place}
use Rattle.blocks_file.specs.declared.blocks_fault.BlocksFault.TheVariants.{NoColumn}
use Rattle.blocks_file.specs.Prelude.{head_reads, place_at, place_of_record, columns_of, blocks_shape_fault, are_there}
use Rattle.blocks_file.specs.Prelude.{IsRow, HoldsValues}
use Rattle.blocks_file.proofs.Rows.{row_good}

abbrev texts : List WordRun → List (List ℕ)
texts rs = map (λ r. r.text) rs

four_fields : (all after_block after_x after_y after_z : List WordRun) (block x y z : WordRun)
    → all ≡ block ∷ after_block → after_block ≡ x ∷ after_x → after_x ≡ y ∷ after_y → after_y ≡ z ∷ after_z
    → texts all ≡ block.text ∷ x.text ∷ y.text ∷ z.text ∷ texts after_z
four_fields all after_block after_x after_y after_z block x y z e f g h = rw (e, f, g, h) refl

-- A record that is read.
sound : (line : ℕ) (chosen : List ℕ) (fields : List (List ℕ)) (block x y z : List ℕ) (columns : List (List ℕ))
    (count b : ℕ) (p : Place) (row : List ℤ)
    → fields ≡ block ∷ x ∷ y ∷ z ∷ columns → is_remark block ≡ false → head_reads block x y z ≡ true
    → b ≡ number_of block → p ≡ place_at x y z
    → count ≡ length columns → IsRow chosen columns count row → are_there chosen count ≡ true
    → (is_skipped fields ≡ false) × (blocks_shape_fault line chosen fields ≡ None) × (b ≡ block_of fields)
    × (p ≡ place_of_record fields) × HoldsValues chosen (columns_of fields) row
sound line chosen fields block x y z columns count b p row e m h k q n r t = grind (arith, common_steps, row_good)

-- A record without a chosen column.
unsound : (line : ℕ) (chosen : List ℕ) (fields : List (List ℕ)) (block x y z : List ℕ) (columns : List (List ℕ))
    (count : ℕ) (row : List ℤ)
    → fields ≡ block ∷ x ∷ y ∷ z ∷ columns → is_remark block ≡ false → head_reads block x y z ≡ true
    → count ≡ length columns → IsRow chosen columns count row → are_there chosen count ≡ false
    → (is_skipped fields ≡ false) × (blocks_shape_fault line chosen fields ≡ Some (NoColumn line))
unsound line chosen fields block x y z columns count row e m h n r t = grind (arith, common_steps, row_good)

texts_length : (rs : List WordRun) → length (texts rs) ≡ length rs
texts_length rs = length-map rs (λ r. r.text)

pub returns-then-are_there : goal.returns-then-are_there
returns-then-are_there c =
    let x = rw c.in_ok-x.ensures.ok_part at c.next-2.ensures.steps in
    let y = rw c.in_ok-y.ensures.ok_part at c.next-3.ensures.steps in
    let z = rw c.in_ok-z.ensures.ok_part at c.next-4.ensures.steps in
    let e = four_fields _ _ _ _ _ _ _ _ _ (sym c.new-fields.ensures.fields ∙ c.in-Some.ensures.steps) x y z in
    let m : is_remark c.in-Some.block.text.now ≡ false = sym c.is_remark.ensures ∙ c.if-is_remark.false in
    let r = rw c.in_ok-record.ensures.ok_part at c.read_head.ensures in
    sound c.args.line c.args.columns.now (fields_of c.args.text.now) _ _ _ _ _ c.in_ok-count.count
    c.in_ok-record.record.block c.in_ok-record.record.place c.read_row.new.row
    e m r.0 r.1 r.2 (c.in_ok-count.ensures.0 ∙ sym (texts_length c.next-4.new.self)) c.in_ok-count.ensures.1
    (sym c.are_there.ensures ∙ c.if-are_there.true)

pub returns-else-are_there : goal.returns-else-are_there
returns-else-are_there c =
    let x = rw c.in_ok-x.ensures.ok_part at c.next-2.ensures.steps in
    let y = rw c.in_ok-y.ensures.ok_part at c.next-3.ensures.steps in
    let z = rw c.in_ok-z.ensures.ok_part at c.next-4.ensures.steps in
    let e = four_fields _ _ _ _ _ _ _ _ _ (sym c.new-fields.ensures.fields ∙ c.in-Some.ensures.steps) x y z in
    let m : is_remark c.in-Some.block.text.now ≡ false = sym c.is_remark.ensures ∙ c.if-is_remark.false in
    let r = rw c.in_ok-record.ensures.ok_part at c.read_head.ensures in
    unsound c.args.line c.args.columns.now (fields_of c.args.text.now) _ _ _ _ _ c.in_ok-count.count c.read_row.new.row
    e m r.0 (c.in_ok-count.ensures.0 ∙ sym (texts_length c.next-4.new.self)) c.in_ok-count.ensures.1
    (sym c.are_there.ensures ∙ c.if-are_there.false)
