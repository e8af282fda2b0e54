use Rattle.fixed_worth.proofs.Common.{◌≡◌, ◌++◌, ◌∷◌, [], ◌<◌, ◌-◌, ℕ, suc, List, length, map, IfSome, get_or, set}
use Rattle.fixed_worth.proofs.Common.{subst, ap, refl, sym, ◌∙◌, arith, length-map, map-append, map-set}
use Rattle.fixed_worth.proofs.Common.{get_or_default_zero}
use Rattle.ordered_group.specs.Amount.{Amount}
use Rattle.closure_net.specs.Carrying.{amount_of_place, ArePlaces}
use Rattle.closure_net.proofs.Places.{grown, few_set, few_replaced, few_size, place_fits, places_more, all_set}
use Rattle.closure_net.proofs.carried.Carried.set.Goals as goal

pub overflow_cast-as_slice : goal.overflow_cast-as_slice
overflow_cast-as_slice g c =
    let parts = g.G.OrderedGroup.parts_of in
    let old = c.self.inside.amounts.items in
    let places = c.in-Some.places.items in
    let held : ArePlaces places (length old) = subst (λ o. IfSome o (λ v. ArePlaces v.items (length old)))
    c.in-Some.is c.self.invariant in
    let inside : c.args.arc < length places = omega (
      arith,
      c.requires,
      few_size (λ v. v.items) c.self.inside.places c.in-Some.places
          (map parts old) c.args.self.now c.in-Some.is c.self.view_is,
    ) in
    let none : get_or places c.args.arc 0 ≡ 0 = sym
    (c.index.ensures ∙ get_or_default_zero places c.args.arc c.index.result.now inside) ∙ c.if-place-eq0.true in
    let size = grown old c.push.new.self.items c.as_slice.result.now c.args.amount c.in_ok-push-in-Some.ensures.items
    c.as_slice.ensures.value in
    omega (arith, size, place_fits places (length old) c.args.arc held inside none)

pub invariant_of-self-then-place-eq0 : goal.invariant_of-self-then-place-eq0
invariant_of-self-then-place-eq0 g c =
    let parts = g.G.OrderedGroup.parts_of in
    let old = c.self.inside.amounts.items in
    let places = c.in-Some.places.items in
    let held : ArePlaces places (length old) = subst (λ o. IfSome o (λ v. ArePlaces v.items (length old)))
    c.in-Some.is c.self.invariant in
    let inside : c.args.arc < length places = omega (
      arith,
      c.requires,
      few_size (λ v. v.items) c.self.inside.places c.in-Some.places
          (map parts old) c.args.self.now c.in-Some.is c.self.view_is,
    ) in
    let none : get_or places c.args.arc 0 ≡ 0 = sym
    (c.index.ensures ∙ get_or_default_zero places c.args.arc c.index.result.now inside) ∙ c.if-place-eq0.true in
    let more = grown old c.push.new.self.items c.push.new.self.items c.args.amount c.in_ok-push-in-Some.ensures.items
    refl in
    let size = grown old c.push.new.self.items c.as_slice.result.now c.args.amount c.in_ok-push-in-Some.ensures.items
    c.as_slice.ensures.value in
    let P : ℕ → Type 0 = λ n. ArePlaces (set places c.args.arc n) (length c.push.new.self.items) in
    let Q : ℕ → Type 0 = λ n. ArePlaces (set places c.args.arc (suc (length old))) n in
    subst P (sym size) (subst Q (sym more) (places_more places (length old) c.args.arc held inside none))

pub returns-in_ok-push-in-Some-clause-is : goal.returns-in_ok-push-in-Some-clause-is
returns-in_ok-push-in-Some-clause-is g c =
    let parts = g.G.OrderedGroup.parts_of in
    let old = c.self.inside.amounts.items in
    let held : ArePlaces c.in-Some.places.items (length old) = subst
    (λ o. IfSome o (λ v. ArePlaces v.items (length old))) c.in-Some.is c.self.invariant in
    let more : map parts c.push.new.self.items ≡ map parts old ++ parts c.args.amount ∷ [] = ap
    (map parts) c.in_ok-push-in-Some.ensures.items ∙ map-append parts old (c.args.amount ∷ []) in
    few_set (λ v. v.items) c.self.inside.places c.in-Some.places (map parts old) (map parts c.push.new.self.items)
    c.args.self.now (parts c.args.amount) c.args.arc _ c.in-Some.is
    (λ k d l. omega (arith, held.inside k d l, length-map old parts)) more (ap length c.as_slice.ensures.value
    ∙ sym (length-map c.push.new.self.items parts)) c.self.view_is

pub returns-else-place-eq0-clause-is : goal.returns-else-place-eq0-clause-is
returns-else-place-eq0-clause-is g c =
    let parts = g.G.OrderedGroup.parts_of in
    let old = c.self.inside.amounts.items in
    let places = c.in-Some.places.items in
    let at = c.index.result.now - 1 in
    let P : ℕ → Type 0 = λ n. ArePlaces places n in
    let held : ArePlaces places (length old) = subst (λ o. IfSome o (λ v. ArePlaces v.items (length old)))
    c.in-Some.is c.self.invariant in
    let inside : c.args.arc < length places = omega (
      arith,
      c.requires,
      few_size (λ v. v.items) c.self.inside.places c.in-Some.places
          (map parts old) c.args.self.now c.in-Some.is c.self.view_is,
    ) in
    let here : get_or places c.args.arc 0 ≡ suc at = omega (
      arith,
      c.index.ensures ∙ get_or_default_zero places c.args.arc c.index.result.now inside,
      c.if-place-eq0.false,
    ) in
    ap (λ (us : List Amount). map (amount_of_place us) places) (map-set parts old at c.args.amount)
    ∙ few_replaced (λ v. v.items) c.self.inside.places c.in-Some.places (map parts old) c.args.self.now
    (parts c.args.amount) c.args.arc at c.in-Some.is
    (subst P (sym (length-map old parts)) held) inside here c.self.view_is

pub returns-in-None-clause-is : goal.returns-in-None-clause-is
returns-in-None-clause-is g c = all_set g.G.OrderedGroup.parts_of (λ v. v.items) c.self.inside.places
    c.self.inside.amounts.items c.args.self.now c.args.amount c.args.arc c.in-None.is c.self.view_is
