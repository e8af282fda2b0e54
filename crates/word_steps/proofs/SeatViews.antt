-- The views of the seats, where one of them changes.
use Rattle.fixed_worth.proofs.Common.{inl, inr, ◌⊎◌, ◌≡◌, ◌≢◌, ◌↔◌, ℕ, ◌<◌, ◌==◌, Bool, cond, List, [], ◌∷◌, ◌++◌, set}
use Rattle.fixed_worth.proofs.Common.{sym, ap, ◌∙◌, subst, arith, ⊎_elim, append-nil, eq-eqb, ne_eqb, filter-append}
use Rattle.fixed_worth.proofs.Common.{common_steps}
use mathlib.Core.Option.{some}
use lib.ListN.{get_elem?}
use Rattle.atomic_table.proofs.Lists.{at_set}
use Rattle.closure_net.specs.Network.{NetView}
use Rattle.machine_law.specs.declared.events.Event.{Event}
use Rattle.machine_law.specs.declared.operations.Operation.TheVariants.{Idle}
use Rattle.word_steps.specs.declared.view.View.{View}
use Rattle.word_steps.specs.Prelude.{count, word_of, IsSeatsOwn, of_block, IsMade, IsMadeBy, operation_in_view}
use Rattle.word_steps.specs.Prelude.{block_of_view, CanTurn}

pub seats_set : (P : ℕ → View → Type 0) (vs : List View) (me : ℕ) (w : View) → P me w
    → ((j : ℕ) (v : View) → j ≢ me → get_elem? vs j ≡ some v → P j v)
    → (j : ℕ) (v : View) → get_elem? (set vs me w) j ≡ some v → P j v
seats_set P vs me w mine others j v e = grind (arith, common_steps, ⊎_elim, at_set)

-- a seat with no operation shows none
pub free_operation : (v : View) (c : ℕ) → v.operation ≡ Idle → operation_in_view v c ≡ Idle
free_operation v c e = grind (arith, common_steps)

pub operation_here : (v : View) (b : ℕ) → v.block ≡ b → operation_in_view v b ≡ v.operation
operation_here v b e = ap (λ z. cond z v.operation Idle) (eq-eqb v.block b e)

pub operation_else : (v : View) (b : ℕ) → v.block ≢ b → operation_in_view v b ≡ Idle
operation_else v b e = ap (λ z. cond z v.operation Idle) (ne_eqb v.block b e)

-- what a seat that may turn shows
pub shown_here : (v : View) (b : ℕ) → CanTurn v b → operation_in_view v b ≡ v.operation
shown_here v b q = elim q.here [ inl e ↦ free_operation v b e ∙ sym e | inr e ↦ operation_here v b e ]

pub shown_else : (v : View) (b c : ℕ) → CanTurn v b → c ≢ b → operation_in_view v c ≡ Idle
shown_else v b c q ne = elim q.here [ inl e ↦ free_operation v c e | inr e ↦ operation_else v c (λ h. ne (sym h ∙ e)) ]

pub block_is : (v : View) (b : ℕ) → CanTurn v b → block_of_view v (word_of v.net b v.operation) ≡ b
block_is v b q = grind (arith, common_steps)

-- one more step, of the seat `me`, at its block b
module _ (net : NetView) (es : List Event) (e : Event) where
  longer : (c : ℕ) (xs : List Event) → of_block c (xs ++ e ∷ []) ≡ of_block c xs ++ of_block c (e ∷ [])
  longer c xs = filter-append (λ (z : Event). z.block == c) xs (e ∷ [])

  elsewhere : (c : ℕ) (xs : List Event) → c ≢ e.block → of_block c (xs ++ e ∷ []) ≡ of_block c xs
  elsewhere c xs ne = longer c xs
      ∙ ap (λ (x : List Event). of_block c xs ++ x)
      (ap (λ (z : Bool). cond z (e ∷ []) []) (ne_eqb e.block c (λ q. ne (sym q)))) ∙ append-nil (of_block c xs)

  pub made_more : (vs : List View) (me : ℕ) (v w : View) → IsMade net es vs → get_elem? vs me ≡ some v
      → ((j : ℕ) (u : View) → j ≢ me → get_elem? vs j ≡ some u → (c : ℕ) → c < count net → IsSeatsOwn u c → c ≢ e.block)
      → w.made ≡ v.made ++ e ∷ [] → IsSeatsOwn v e.block → ((c : ℕ) → IsSeatsOwn w c ↔ IsSeatsOwn v c)
      → IsMade net (es ++ e ∷ []) (set vs me w)
  made_more vs me v w m at others is mine same = seats_set (λ j u. IsMadeBy net (es ++ e ∷ []) u) vs me w
      (record {
        own = λ c l o. longer c es
            ∙ ap (λ (x : List Event). x ++ of_block c (e ∷ [])) ((m me v at).own c l ((same c).0 o))
            ∙ sym (longer c v.made) ∙ ap (λ (x : List Event). of_block c x) (sym is);
        other = λ c l no. ap (λ (x : List Event). of_block c x) is
            ∙ elsewhere c v.made (λ q. no ((same c).1 (subst (IsSeatsOwn v) (sym q) mine)))
            ∙ (m me v at).other c l (λ o. no ((same c).1 o));
      })
      (λ j u ne at'. record {
        own = λ c l o. elsewhere c es (others j u ne at' c l o)
            ∙ (m j u at').own c l o;
        other = (m j u at').other;
      })
