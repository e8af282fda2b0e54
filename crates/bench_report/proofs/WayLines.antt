-- The names and the fields of tonnes by way, one after another.
use Rattle.fixed_worth.proofs.Common.{◌≡◌, ℕ, ◌+◌, ◌<◌, ℤ, pos, List, [], ◌∷◌, ◌++◌, length, take, get_or, map, codes}
use Rattle.fixed_worth.proofs.Common.{decimal, Vec, sym, ap, ◌∙◌, append_assoc, append-nil, add-one, take_more}
use Rattle.fixed_worth.proofs.Common.{map-append}
use Rattle.std.specs.declared.alloc.Global.{Global}
use Rattle.fixed_worth.specs.Printed.{amount_text}
use Rattle.bench_report.specs.declared.bench_row.BenchRow.{BenchRow}
use Rattle.bench_report.specs.Prelude.{AreTonnesOf, no_row, tonnes_at, tonnes_fields, way_names, way_row_line}
use Rattle.bench_report.specs.Prelude.{way_rows_text}

-- one name more
pub names_more : (front : List ℕ) (i : ℕ) (old new : List ℕ) → old ≡ front ++ way_names i
    → new ≡ old ++ (codes ",tonnes" ++ decimal (i + 1)) → new ≡ front ++ way_names (i + 1)
names_more front i old new h e = e ∙ ap (λ t. t ++ (codes ",tonnes" ++ decimal (i + 1))) h
    ∙ append_assoc front (way_names i) (codes ",tonnes" ++ decimal (i + 1))
    ∙ sym (ap (λ k. front ++ way_names k) (add-one i))

fields_append : (ts : List ℤ) (t : ℤ) → tonnes_fields (ts ++ t ∷ []) ≡ tonnes_fields ts ++ 44 ∷ amount_text 6 t
fields_append [] t = ap (λ xs. 44 ∷ xs) (append-nil (amount_text 6 t))
fields_append (s ∷ ts) t = ap (λ xs. 44 ∷ (amount_text 6 s ++ xs)) (fields_append ts t)
    ∙ ap (λ xs. 44 ∷ xs) (sym (append_assoc (amount_text 6 s) (tonnes_fields ts) (44 ∷ amount_text 6 t)))

-- one field more
pub fields_more : (by_way : List (Vec ℤ Global)) (place i : ℕ) (d : Vec ℤ Global) (old new : List ℕ)
    → i < length by_way → old ≡ tonnes_fields (tonnes_at (take i by_way) place)
    → new ≡ old ++ 44 ∷ amount_text 6 (get_or (get_or by_way i d).items place (pos 0))
    → new ≡ tonnes_fields (tonnes_at (take (i + 1) by_way) place)
fields_more by_way place i d old new l h e =
    let at : Vec ℤ Global → ℤ = λ list. get_or list.items place (pos 0) in
    e ∙ ap (λ t. t ++ 44 ∷ amount_text 6 (at (get_or by_way i d))) h
    ∙ sym (fields_append (tonnes_at (take i by_way) place) (at (get_or by_way i d)))
    ∙ ap tonnes_fields (sym (map-append at (take i by_way) (get_or by_way i d ∷ [])))
    ∙ sym (ap (λ xs. tonnes_fields (map at xs)) (take_more by_way i d l))

rows_append : (tonnes : BenchRow → List ℤ) (rs : List BenchRow) (r : BenchRow)
    → way_rows_text tonnes (rs ++ r ∷ []) ≡ way_rows_text tonnes rs ++ way_row_line r (tonnes r)
rows_append tonnes [] r = append-nil (way_row_line r (tonnes r))
rows_append tonnes (s ∷ rs) r = ap (λ t. way_row_line s (tonnes s) ++ t) (rows_append tonnes rs r)
    ∙ sym (append_assoc (way_row_line s (tonnes s)) (way_rows_text tonnes rs) (way_row_line r (tonnes r)))

-- one row more
pub rows_more : (rows : List BenchRow) (by_way : List (Vec ℤ Global)) (tonnes : BenchRow → List ℤ) (i : ℕ)
    (front old new : List ℕ) → AreTonnesOf rows by_way tonnes → i < length rows
    → old ≡ front ++ way_rows_text tonnes (take i rows)
    → new ≡ old ++ way_row_line (get_or rows i no_row) (tonnes_at by_way i)
    → new ≡ front ++ way_rows_text tonnes (take (i + 1) rows)
rows_more rows by_way tonnes i front old new are l h e =
    let r = get_or rows i no_row in
    let line = way_row_line r (tonnes r) in
    e ∙ ap (λ ts. old ++ way_row_line r ts) (sym (are i l)) ∙ ap (λ t. t ++ line) h
    ∙ append_assoc front (way_rows_text tonnes (take i rows)) line
    ∙ ap (λ t. front ++ t) (sym (rows_append tonnes (take i rows) r))
    ∙ sym (ap (λ xs. front ++ way_rows_text tonnes xs) (take_more rows i no_row l))
