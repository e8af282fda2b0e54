use Rattle.fixed_worth.proofs.Common.{Some, List, map, sym, ap, ◌∙◌, subst, ◌≡◌, ℕ, true, [], ◌∷◌, drop, None, Ok, ℤ}
use Rattle.fixed_worth.proofs.Common.{pos, refl, is_some, is_ok, unwrap_or, result_ok, result_unwrap_or}
use Rattle.fixed_worth.specs.Prelude.{WordRun, first_whole, reads, number_of, first_decimal, decimal_of}
use Rattle.upit_file.specs.declared.record.Record.TheVariants.{Value}
use Rattle.upit_file.specs.Body.{IsRecord}
use Rattle.upit_file.proofs.record.read_record.Goals as goal
use Rattle.fixed_worth.proofs.FirstNumbers.{first_is, no_field, number_no_remark}
use Rattle.fixed_worth.proofs.FirstAmounts.{first_amount_is}

record_of_two : (line block : ℕ) (value : ℤ) (f g : List ℕ) → reads f ≡ true → number_of f ≡ block
    → Ok value ≡ decimal_of g → IsRecord line (f ∷ g ∷ []) (Value block value)
record_of_two line block value f g good is read =
    let some : is_some (result_ok (decimal_of g)) ≡ true = ap (λ r. is_some (result_ok r)) (sym read) in
    (number_no_remark f good, refl, rw (good, some) refl, sym is, ap (λ r. unwrap_or (result_ok r) (pos 0)) read)

is_value : (fields left after : List WordRun) (block : ℕ) (value : ℤ) → Some (Ok block) ≡ first_whole fields
    → left ≡ drop 1 fields → Some (Ok value) ≡ first_decimal left → after ≡ drop 1 left → None ≡ first_whole after
    → (line : ℕ) → IsRecord line (map (λ r. r.text) fields) (Value block value)
is_value fields left after block value a e b h none line =
    let f = first_is fields (Ok block) a in
    let g = first_amount_is left (Ok value) b in
    let two : fields ≡ f.0 ∷ g.0 ∷ [] = f.1
    ∙ ap (λ rs. f.0 ∷ rs) (sym e ∙ g.1 ∙ ap (λ rs. g.0 ∷ rs) (sym h ∙ no_field after none)) in
    let good : reads f.0.text ≡ true = ap is_ok (sym f.2) in
    let is : number_of f.0.text ≡ block = ap (λ r. result_unwrap_or r 0) (sym f.2) in
    rw two (record_of_two line block value f.0.text g.0.text good is g.2)

pub returns-in-None : goal.returns-in-None
returns-in-None c =
    let block = ap Some (sym c.in-Some-Ok.field-0-is) ∙ c.in-Some-Ok.ensures.value in
    let value = ap Some (sym c.in-Some-Ok-next_amount.field-0-is) ∙ c.in-Some-Ok-next_amount.ensures.value in
    let is = is_value c.new-fields.result c.next_whole.new.self c.next_amount.new.self c.in-Some-Ok.block
    c.in-Some-Ok-next_amount.value block c.in-Some-Ok.ensures.left value c.in-Some-Ok-next_amount.ensures.left
    c.in-None.ensures.value c.args.line in
    subst (λ (fields : List WordRun). IsRecord c.args.line (map (λ r. r.text) fields)
    (Value c.in-Some-Ok.block c.in-Some-Ok-next_amount.value)) c.new-fields.ensures.fields is
