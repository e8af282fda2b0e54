use Rattle.fixed_worth.proofs.Common.{ℤ, List, map, sym, subst, arith, length-map, err_from_is_err_and}
use Rattle.std.specs.Global.{Vec}
use Rattle.slope.specs.declared.region_fault.RegionFault.{RegionFault}
use Rattle.slope_offsets.specs.Prelude.{Offset}
use Rattle.slope.specs.Prelude.{RegionFaultStands, own_offsets}
use Rattle.slope.proofs.Finding.{places_apart}
use Rattle.slope.proofs.PairSteps.{slopes_are}
use Rattle.slope.proofs.Alike.{collected_alike, own_to, own_back, own_few, refusal_stands, pairs_refused}
use Rattle.slope.proofs.Narrow.{slopes_narrow}
use Rattle.slope.proofs.Tested.{not_more}
use Rattle.slope.proofs.region_slopes.predecessors_by_region.Goals as goal

pub returns-in_err-refused-clause-made : goal.returns-in_err-refused-clause-made
returns-in_err-refused-clause-made c =
    let p = err_from_is_err_and c.from_residual.result c.from_residual.ensures.1 in
    rw (p.1, p.2) (refusal_stands (map (λ (w : Vec (ℤ × ℤ × ℤ)). w.items) c.args.listed.now) c.args.model.now
    c.args.up c.args.selection c.in_err-refused.field-0.0 (places_apart _ _ _ c.in-Ok.ensures)
    c.in_err-refused.ensures)

pub returns-in-Ok-pairs_of-clause-made : goal.returns-in-Ok-pairs_of-clause-made
returns-in-Ok-pairs_of-clause-made c =
    let m = c.args.model.now in
    let lists : List (List Offset) = map (λ (w : Vec (ℤ × ℤ × ℤ)). w.items) c.args.listed.now in
    let ps = c.in-Ok-patterns_of.patterns.items in
    let found = c.in-Ok-pairs_of.found in
    let of = c.in-Ok-patterns_of.ensures in
    slopes_are m (own_offsets lists m) c.args.up c.args.selection found (places_apart _ _ _ c.in-Ok.ensures)
    c.in-Ok-pairs_of.ensures.0 c.len.ensures.all.rising
    (collected_alike m _ (own_offsets lists m) c.args.up c.args.selection found.pairs (own_to lists ps m of)
    (own_back lists ps m of) c.in-Ok-pairs_of.ensures.1)

pub returns-in-Ok-pairs_of-clause-narrow : goal.returns-in-Ok-pairs_of-clause-narrow
returns-in-Ok-pairs_of-clause-narrow c =
    let m = c.args.model.now in
    let lists : List (List Offset) = map (λ (w : Vec (ℤ × ℤ × ℤ)). w.items) c.args.listed.now in
    let ps = c.in-Ok-patterns_of.patterns.items in
    let found = c.in-Ok-pairs_of.found in
    let of = c.in-Ok-patterns_of.ensures in
    let made = slopes_are m (own_offsets lists m) c.args.up c.args.selection found
    (places_apart _ _ _ c.in-Ok.ensures) c.in-Ok-pairs_of.ensures.0 c.len.ensures.all.rising
    (collected_alike m _ (own_offsets lists m) c.args.up c.args.selection found.pairs (own_to lists ps m of)
    (own_back lists ps m of) c.in-Ok-pairs_of.ensures.1) in
    slopes_narrow m (own_offsets lists m) c.args.up c.args.selection found (own_few lists m c.in_ok-refused.ensures.2)
    made

pub returns-in-Ok-pairs_of-clause-right : goal.returns-in-Ok-pairs_of-clause-right
returns-in-Ok-pairs_of-clause-right c =
    let m = c.args.model.now in
    let lists : List (List Offset) = map (λ (w : Vec (ℤ × ℤ × ℤ)). w.items) c.args.listed.now in
    let ps = c.in-Ok-patterns_of.patterns.items in
    let found = c.in-Ok-pairs_of.found in
    let of = c.in-Ok-patterns_of.ensures in
    let known = c.in_ok-refused.ensures in
    let made = slopes_are m (own_offsets lists m) c.args.up c.args.selection found
    (places_apart _ _ _ c.in-Ok.ensures) c.in-Ok-pairs_of.ensures.0 c.len.ensures.all.rising
    (collected_alike m _ (own_offsets lists m) c.args.up c.args.selection found.pairs (own_to lists ps m of)
    (own_back lists ps m of) c.in-Ok-pairs_of.ensures.1) in
    record {
      right = record {
        placed = record { apart = places_apart _ _ _ c.in-Ok.ensures; regions = known.0 };
        upward = known.1;
        few_offsets = known.2;
        few_regions = omega (arith, known.3, length-map c.args.listed.now (λ (w : Vec (ℤ × ℤ × ℤ)). w.items));
      };
      few_pairs = not_more m (own_offsets lists m) c.args.up c.args.selection found made c.len.ensures.few;
    }

pub returns-clause-made : goal.returns-clause-made
returns-clause-made c =
    let m = c.args.model.now in
    let lists : List (List Offset) = map (λ (w : Vec (ℤ × ℤ × ℤ)). w.items) c.args.listed.now in
    let known = c.in_ok-refused.ensures in
    let P : RegionFault → Type 0 = λ e. RegionFaultStands lists m c.args.up c.args.selection e in
    subst P (sym c.of_slope-in-Err-pairs_of.ensures)
    (pairs_refused lists c.in-Ok-patterns_of.patterns.items m c.args.up c.args.selection c.in-Err-pairs_of.fault
    c.in-Ok-patterns_of.ensures
    (record { apart = places_apart _ _ _ c.in-Ok.ensures; regions = known.0 }) known.1 known.2
    (omega (arith, known.3, length-map c.args.listed.now (λ (w : Vec (ℤ × ℤ × ℤ)). w.items)))
    c.in-Err-pairs_of.ensures)
