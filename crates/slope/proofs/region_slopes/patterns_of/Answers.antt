use Rattle.fixed_worth.proofs.Common.{◌≡◌, ◌<◌, ◌+◌, ℤ, List, [], ◌∷◌, ◌++◌, All, Contains, map, take, length, get_or}
use Rattle.fixed_worth.proofs.Common.{sym, ap, subst, ◌∙◌, arith, rules, length-map, take_more, take-length}
use Rattle.std.specs.Global.{Vec}
use Rattle.slope_offsets.specs.Prelude.{Offset, IsUpward, AreOffsets, listed_at}
use Rattle.slope.specs.Prelude.{AreOfListed}
use Rattle.slope.proofs.Regions.{list_at, listed_more, none_of_none}
use Rattle.slope.proofs.region_slopes.patterns_of.Goals as goal

pub loop-offsets-init : goal.loop-offsets-init
loop-offsets-init c = subst (AreOfListed []) (sym c.new-patterns.ensures.items) none_of_none

pub loop-offsets-preserved : goal.loop-offsets-preserved
loop-offsets-preserved c =
    let vs = c.args.listed.now in
    let lists : List (List Offset) = map (λ (w : Vec (ℤ × ℤ × ℤ)). w.items) vs in
    let k = c.loop-offsets.offsets-index in
    let inside : k < length vs = c.loop-offsets-test.true in
    let within : k < length lists = omega (arith, inside, length-map vs (λ (w : Vec (ℤ × ℤ × ℤ)). w.items)) in
    let item : (get_or vs k c.offsets-item.result).items ≡ c.deref.result.now = search
    (rules, c.offsets-item.is, c.deref.ensures.value) in
    let at : c.deref.result.now ≡ listed_at lists k = sym (list_at vs k c.offsets-item.result inside ∙ item) in
    let are = subst (λ (xs : List Offset). AreOffsets (Contains xs) c.in_ok-gathered.field-0) at
    c.in_ok-gathered.ensures.is in
    let more = listed_more (take k lists) c.loop-offsets.patterns.items c.loop-offsets.invariant (listed_at lists k)
    c.in_ok-gathered.field-0 are c.in_ok-gathered.ensures.all in
    let P : List (List Offset)
    → Type 0 = λ ws. AreOfListed ws (c.loop-offsets.patterns.items ++ c.in_ok-gathered.field-0 ∷ []) in
    subst (AreOfListed (take (k + 1) lists)) (sym c.in_ok-push.ensures.items)
    (subst P (sym (take_more lists k [] within)) more)

pub returns : goal.returns
returns c =
    let vs = c.args.listed.now in
    let lists : List (List Offset) = map (λ (w : Vec (ℤ × ℤ × ℤ)). w.items) vs in
    let e : c.loop-offsets.offsets-index ≡ length lists = omega (
      arith,
      c.loop-offsets-test.false,
      c.loop-offsets.auto.offsets-index-end,
      length-map vs
          (λ (w : Vec (ℤ × ℤ × ℤ)). w.items),
    ) in
    subst (λ (ws : List (List Offset)). AreOfListed ws c.loop-offsets.patterns.items)
    (ap (λ n. take n lists) e ∙ take-length lists) c.loop-offsets.invariant

pub gathered-requires-clause-upward : goal.gathered-requires-clause-upward
gathered-requires-clause-upward c =
    let vs = c.args.listed.now in
    let k = c.loop-offsets.offsets-index in
    let inside : k < length vs = c.loop-offsets-test.true in
    let item : (get_or vs k c.offsets-item.result).items ≡ c.deref.result.now = search
    (rules, c.offsets-item.is, c.deref.ensures.value) in
    subst (All IsUpward) (list_at vs k c.offsets-item.result inside ∙ item)
    (c.requires.upward k (omega (arith, inside, length-map vs (λ (w : Vec (ℤ × ℤ × ℤ)). w.items))))

pub gathered-requires-clause-few : goal.gathered-requires-clause-few
gathered-requires-clause-few c =
    let vs = c.args.listed.now in
    let k = c.loop-offsets.offsets-index in
    let inside : k < length vs = c.loop-offsets-test.true in
    let item : (get_or vs k c.offsets-item.result).items ≡ c.deref.result.now = search
    (rules, c.offsets-item.is, c.deref.ensures.value) in
    let few = c.requires.few k (omega (arith, inside, length-map vs (λ (w : Vec (ℤ × ℤ × ℤ)). w.items))) in
    omega (arith, few, ap length (list_at vs k c.offsets-item.result inside ∙ item))
