use Rattle.fixed_worth.proofs.Common.{◌<◌, length, arith, ap, subst, sym, ℕ, List, set, true, ◌++◌, ◌∷◌, []}
use Rattle.fixed_worth.proofs.Common.{vec_capacity}
use Rattle.closure_net.specs.Searches.{IsSearch}
use Rattle.closure_net.proofs.Marks.{search_room, search_more, read_false}
use Rattle.closure_net.proofs.search.Search.add.Goals as goal

pub push_reserved-requires : goal.push_reserved-requires
push_reserved-requires c =
    let known : c.args.b < length c.self.inside.marks.items = omega
    (arith, c.requires, ap (λ v. v.blocks) c.self.view_is) in
    let off = read_false c.self.inside.marks.items c.args.b _ known c.index.ensures c.if-not-index.true in
    let room = search_room c.self.inside.marks.items c.self.inside.found.items (vec_capacity c.self.inside.found)
    c.args.b c.self.invariant known off in
    omega arith

pub invariant_of-self : goal.invariant_of-self
invariant_of-self c =
    let known : c.args.b < length c.self.inside.marks.items = omega
    (arith, c.requires, ap (λ v. v.blocks) c.self.view_is) in
    let off = read_false c.self.inside.marks.items c.args.b _ known c.index.ensures c.if-not-index.true in
    let more = search_more c.self.inside.marks.items c.self.inside.found.items (vec_capacity c.self.inside.found)
    c.args.b c.self.invariant known off in
    let P : List ℕ → Type 0 = λ xs. IsSearch (set c.self.inside.marks.items c.args.b true) xs
    (vec_capacity c.push_reserved.new.self) in
    let Q : ℕ → Type 0 = λ s. IsSearch (set c.self.inside.marks.items c.args.b true)
    (c.self.inside.found.items ++ c.args.b ∷ []) s in
    subst P (sym c.push_reserved.ensures.items) (subst Q (sym c.push_reserved.ensures.capacity) more)
