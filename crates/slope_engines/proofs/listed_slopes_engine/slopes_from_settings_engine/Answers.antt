use Rattle.fixed_worth.proofs.Common.{◌≡◌, ℕ, ℤ, List, map, Option, None, rules, sym, subst}
use Rattle.std.specs.Global.{Vec}
use Rattle.settings_file.specs.Settings.{first_missing}
use Rattle.slope_offsets.specs.Prelude.{Offset}
use Rattle.slope_offsets.specs.declared.up.Up.{Up}
use Rattle.mine_inputs.specs.SlopedTexts.{columns_for}
use Rattle.slope_engines.specs.Slopes.{offset_keys}
use Rattle.slope_engines.proofs.SlopeAnswers.{RegionsGive, PatternGives, listed_missing, listed_regions, listed_pattern}
use Rattle.slope_engines.proofs.listed_slopes_engine.slopes_from_settings_engine.Goals as goal

pub returns-in-Some-clause-answer : goal.returns-in-Some-clause-answer
returns-in-Some-clause-answer g c =
    rw c.missing.ensures (listed_missing (g.S.Read.remaining c.args.settings.now)
    (g.B.Read.remaining c.args.blocks.now) c.args.up c.args.selection c.in_ok-settings.settings
    (g.W.Write.contents c.args.out.now) c.in-Some.key c.in_ok-settings.ensures.read (sym c.in-Some.ensures))

pub returns-in-Some-slopes-clause-answer : goal.returns-in-Some-slopes-clause-answer
returns-in-Some-slopes-clause-answer g c =
    let said = c.in_ok-settings.settings in
    let q = g.B.Read.remaining c.args.blocks.now in
    let slopes : List (List Offset) = map (λ (w : Vec (ℤ × ℤ × ℤ)). w.items) c.in-Some-slopes.slopes.now in
    let old = g.W.Write.contents c.args.out.now in
    let new = g.W.Write.contents c.region_slopes.new.out in
    let whole : first_missing (offset_keys said) said ≡ None = search
    (rules, c.lacking.ensures, c.in_default.not-Some) in
    let R : Option ℕ → Type 0 = λ r. RegionsGive q slopes (columns_for r) c.way_up-up.result c.args.selection old new
    c.region_slopes.result in
    let U : Up → Type 0 = λ u. RegionsGive q slopes (columns_for said.region) u c.args.selection old new
    c.region_slopes.result in
    listed_regions (g.S.Read.remaining c.args.settings.now) q c.args.up c.args.selection said
    c.in_ok-settings.ensures.read old new slopes c.region_slopes.result whole (sym c.in-Some-slopes.ensures)
    (subst U c.way_up-up.ensures (subst R c.region.ensures.value c.region_slopes.ensures.answer))

pub returns-clause-answer : goal.returns-clause-answer
returns-clause-answer g c =
    let said = c.in_ok-settings.settings in
    let q = g.B.Read.remaining c.args.blocks.now in
    let old = g.W.Write.contents c.args.out.now in
    let new = g.W.Write.contents c.pattern_slopes.new.out in
    let whole : first_missing (offset_keys said) said ≡ None = search
    (rules, c.lacking.ensures, c.in_default.not-Some) in
    let U : Up → Type 0 = λ u. PatternGives q c.offsets_of.result.now u c.args.selection old new
    c.pattern_slopes.result in
    listed_pattern (g.S.Read.remaining c.args.settings.now) q c.args.up c.args.selection said
    c.in_ok-settings.ensures.read old new c.offsets_of.result.now c.pattern_slopes.result whole
    (sym c.in-None.ensures) c.offsets_of.ensures
    (subst U c.way_up-up.ensures c.pattern_slopes.ensures.answer)
