use Rattle.fixed_worth.proofs.Common.{◌≡◌, ℕ, [], ◌∷◌, List, ℤ, length, Option, sym, ap, ◌∙◌, subst}
use Rattle.blocks_file.specs.Denotes.{narrowed}
use Rattle.blocks_file.proofs.Slots.{one_column}
use Rattle.blocks_file.proofs.block_model.BlockModel.narrowed.Goals as goal

pub returns-in_ok-values-in-Some : goal.returns-in_ok-values-in-Some
returns-in_ok-values-in-Some c =
    let n = c.self.inside.blocks in
    let v = c.in_ok-values-in-Some.values.items in
    let size : length v ≡ n = c.in_ok-values-in-Some.ensures.size ∙ ap (λ m. m.blocks) (sym c.self.view_is) in
    let one = one_column n v size ∙ ap (λ (xs : List ℤ). xs ∷ []) c.in_ok-values-in-Some.ensures.values in
    let same = c.self.view_is in
    let places : c.in_ok-places.places.items ≡ c.args.self.now.places = c.in_ok-places.ensures.items
    ∙ c.deref.ensures.value ∙ ap (λ m. m.places) same in
    let N : Option ℕ → Type 0 = λ o. c.of-in-Some.result ≡ narrowed o c.args.self.now in
    subst N (sym c.in-Some.is)
    (c.of-in-Some.ensures ∙ (λ j. record { blocks = (same j).blocks; places = places j; columns = one j }))
