-- A series and its rows, one factor after another.
use Rattle.fixed_worth.proofs.Common.{◌≡◌, ℕ, ◌+◌, ◌<◌, List, [], ◌∷◌, ◌++◌, map, take, length, get_or, sym, ap, ◌∙◌}
use Rattle.fixed_worth.proofs.Common.{subst, arith, All, Contains, take_more, map_push, get_or_default, get_or-take}
use Rattle.fixed_worth.proofs.Common.{length-take-le, All-append}
use Rattle.closure_net.specs.Network.{IsAscending}
use Rattle.shells.specs.Prelude.{PricesView, SeriesView, mine_at, IsAboveAll}
use Rattle.series_pits.specs.declared.shell_rows.ShellRow.{ShellRow}
use Rattle.series_pits.specs.Prelude.{IsRowOf, IsSettled, IsAdded}

-- a factor of an ascending list is above those before it
pub above_before : (factors done : List ℕ) (i k : ℕ) → IsAscending factors → i < length factors
    → k ≡ get_or factors i k → done ≡ take i factors → IsAboveAll done k
above_before factors done i k rising l e is j c =
    let held : Contains (take i factors) j = subst (λ (xs : List ℕ). Contains xs j) is c in
    let low : held.0 < i = omega (arith, held.1, length-take-le i factors (omega (arith, l))) in
    let at : get_or factors held.0 0 ≡ j = sym (get_or-take i factors held.0 0 low)
    ∙ get_or_default (take i factors) held.0 0 j held.1 ∙ held.2 in
    omega (arith, at, e, get_or_default factors i k 0 l, rising held.0 i low l)

module _ (pairs : List (ℕ × ℕ)) (prices : PricesView) (factors : List ℕ) (i : ℕ) (s t : SeriesView)
    (rows rows' : List ShellRow) (k : ℕ) (l : i < length factors) (is : k ≡ get_or factors i k)
    (h : IsSettled pairs prices (take i factors) s rows) (a : IsAdded s t rows rows' k) where
  more : take (i + 1) factors ≡ take i factors ++ k ∷ []
  more = take_more factors i 0 l ∙ ap (λ x. take i factors ++ x ∷ []) (sym (is ∙ get_or_default factors i k 0 l))

  row_is : IsRowOf (mine_at pairs prices a.row.factor) a.row
  row_is =
      let M : ℕ → Type 0 = λ f. IsRowOf (mine_at pairs prices f) a.row in
      let P : List (ℕ × ℕ) → Type 0 = λ ps. IsRowOf (mine_at ps s.prices k) a.row in
      let Q : PricesView → Type 0 = λ table. IsRowOf (mine_at pairs table k) a.row in
      subst M (sym a.at) (subst Q h.same_prices (subst P h.same_pairs a.is))

  one : All (λ row. IsRowOf (mine_at pairs prices row.factor) row) (a.row ∷ [])
  one j d low = let z : j ≡ 0 = omega (arith, low) in subst
      (λ n. IsRowOf (mine_at pairs prices (get_or (a.row ∷ []) n d).factor) (get_or (a.row ∷ []) n d)) (sym z) row_is

  pub settled_more : IsSettled pairs prices (take (i + 1) factors) t rows'
  settled_more = record {
    same_pairs = a.pairs ∙ h.same_pairs;
    same_prices = a.prices ∙ h.same_prices;
    same_factors = a.factors ∙ ap (λ xs. xs ++ k ∷ []) h.same_factors ∙ sym more;
    rows_are = record {
      at = ap (map (λ row. row.factor)) a.last ∙ map_push (λ (row : ShellRow). row.factor) rows a.row
          ∙ ap (λ xs. xs ++ a.row.factor ∷ []) h.rows_are.at ∙ ap (λ x. take i factors ++ x ∷ []) a.at ∙ sym more;
      each = subst (λ rs. All (λ row. IsRowOf (mine_at pairs prices row.factor) row) rs) (sym a.last)
          (All-append (λ row. IsRowOf (mine_at pairs prices row.factor) row) rows (a.row ∷ []) h.rows_are.each one);
    };
  }
