use Rattle.fixed_worth.proofs.Common.{◌≡◌, ◌∙◌, ℕ, IsTrue, Contains, List, sym, ap, subst}
use Rattle.prec_file.specs.Rests.{RestsView, has_pair}
use Rattle.prec_file.proofs.Pairs.{rests_of_pair, pair_of_rests}
use Rattle.prec_file.proofs.OneListing.{one_listing}
use Rattle.prec_file.proofs.SortedApart.{own_pairs}
use Rattle.places.specs.Prelude.{lent}
use Rattle.shells.proofs.same_held.are_same.Goals as goal

pub returns-then-all_held : goal.returns-then-all_held
returns-then-all_held c =
    let v = lent c.as_ref-held.result in
    let r = c.args.pairs.now in
    let listed = c.args.list.now.pairs in
    let same : (b p : ℕ) → v.rests b p ≡ has_pair r.pairs b p = λ b p. c.blocks-blocks.ensures.same b p
    ∙ ap (λ (x : RestsView). has_pair x.pairs b p) c.as_ref-held.ensures in
    let own = c.len-list.ensures.all in
    let all = c.len-pairs.ensures.all in (
      λ t. one_listing listed listed r.pairs (own_pairs listed own.rising own.apart) (record {
        rising = all.rising;
        held = λ q k d. pair_of_rests r.pairs q.0 q.1
            (subst IsTrue (same q.0 q.1) (c.all_held.ensures.0 c.if-all_held.true q.0 q.1 k));
        only = λ q k. (
          c.all_listed.ensures.0 t q.0 q.1
              (subst IsTrue (sym (same q.0 q.1)) (rests_of_pair r.pairs q.0 q.1 k)),
          all.apart q k,
        );
      }),
      λ e. c.all_listed.ensures.1
          (λ b p t. subst (λ (ps : List (ℕ × ℕ)). Contains ps (b, p)) (sym e)
          (pair_of_rests r.pairs b p (subst IsTrue (same b p) t))),
    )
