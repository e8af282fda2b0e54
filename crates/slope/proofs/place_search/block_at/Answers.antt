use Rattle.std.proofs.Common.{List, Err, subst}
use Rattle.slope_offsets.specs.Prelude.{Offset}
use Rattle.slope.specs.Prelude.{IsFinding}
use Rattle.slope.proofs.Finding.{none_at}
use Rattle.slope.proofs.place_search.block_at.Goals as goal

pub returns-in-Err : goal.returns-in-Err
returns-in-Err c =
    let keys = c.args.index.now.keys.items in
    let P : List Offset → Type 0 = λ ks. IsFinding ks c.key_of.result (Err c.in-Err.at) in
    let Q : Offset → Type 0 = λ k. IsFinding keys k (Err c.in-Err.at) in
    let f = subst Q c.key_of.ensures (subst P c.deref.ensures.value c.in-Err.ensures) in
    none_at c.args.model.now keys c.args.index.now.blocks.items c.args.up c.args.from c.in-Some.place c.args.offset
    c.requires c.in-Some.ensures c.in-Err.at f
