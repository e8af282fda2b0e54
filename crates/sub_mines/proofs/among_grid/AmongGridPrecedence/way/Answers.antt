use Rattle.fixed_worth.proofs.Common.{◌≡◌, ◌<◌, ◌∙◌, Some, length, get_or, sym, ap, subst, arith, rules, get_or_read}
use Rattle.places.specs.Prelude.{grid_way, block_in}
use Rattle.sub_mines.specs.Prelude.{AmongView, AreAmong, place_of, number_in}
use Rattle.sub_mines.proofs.among_grid.AmongGridPrecedence.way.Goals as goal

pub index-requires : goal.index-requires
index-requires c =
    let a = c.args.self.now in
    let b = number_in a.kept c.args.b in
    let h = subst AreAmong c.self.view_is c.self.invariant in
    let e : grid_way a.grid b c.args.k ≡ Some c.in-Some.p = sym
    (ap (λ (v : AmongView). grid_way v.grid (number_in v.kept c.args.b) c.args.k) c.self.view_is)
    ∙ sym c.way.ensures ∙ c.in-Some.is in
    let t = h.precedes.sound b c.in-Some.p c.args.k (h.below c.args.b 0 c.requires.known)
    (record { inside = c.requires.inside; there = e }) in
    let inside : c.in-Some.p < length c.self.inside.places.items = omega (
      arith,
      (h.precedes.known b c.in-Some.p t).1,
      h.places.size,
      ap (λ (v : AmongView). length v.places)
          c.self.view_is,
    ) in
    search (rules, inside)

pub returns-in-Some : goal.returns-in-Some
returns-in-Some c =
    let a = c.args.self.now in
    let b = number_in a.kept c.args.b in
    let h = subst AreAmong c.self.view_is c.self.invariant in
    let e : grid_way a.grid b c.args.k ≡ Some c.in-Some.p = sym
    (ap (λ (v : AmongView). grid_way v.grid (number_in v.kept c.args.b) c.args.k) c.self.view_is)
    ∙ sym c.way.ensures ∙ c.in-Some.is in
    let t = h.precedes.sound b c.in-Some.p c.args.k (h.below c.args.b 0 c.requires.known)
    (record { inside = c.requires.inside; there = e }) in
    let inside : c.in-Some.p < length c.self.inside.places.items = omega (
      arith,
      (h.precedes.known b c.in-Some.p t).1,
      h.places.size,
      ap (λ (v : AmongView). length v.places)
          c.self.view_is,
    ) in
    let place : c.index.result.now ≡ get_or a.places c.in-Some.p 0 = get_or_read c.self.inside.places.items
    c.in-Some.p c.index.result.now inside c.index.ensures 0
    ∙ ap (λ (v : AmongView). get_or v.places c.in-Some.p 0) c.self.view_is in
    c.place_in.ensures ∙ ap block_in place ∙ sym (ap (place_of a.places) e)
