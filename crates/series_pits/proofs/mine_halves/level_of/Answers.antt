use Rattle.fixed_worth.proofs.Common.{All, IfOk, Result, sym, subst, AllocError, All-append}
use Rattle.series_pits.specs.declared.best_pits.BestPit.{BestPit}
use Rattle.series_pits.specs.declared.mine_parts.Part.{Part}
use Rattle.series_pits.specs.declared.mine_halves.Level.{Level}
use Rattle.series_pits.specs.Prelude.{IsProved, IsLeft, IsSearchLevel}
use Rattle.series_pits.proofs.Proving.{all_before, all_last}
use Rattle.series_pits.proofs.mine_halves.level_of.Goals as goal

pub loop-answer-preserved : goal.loop-answer-preserved
loop-answer-preserved g c =
    let pairs = c.args.mine.now.predecessors.pairs in
    let prices = c.args.mine.now.prices in
    let factors = c.args.mine.now.factors.items in
    let P : BestPit → Type 0 = IsProved pairs prices in
    let Q : Part → Type 0 = IsLeft pairs prices factors in
    let A : Result Level AllocError → Type 0 = λ answer. IfOk answer (IsSearchLevel pairs prices factors) in
    let i = c.loop-answer.invariant in
    let all = subst (All A) c.in-Some.ensures.items i.0 in
    let last : A c.in-Some.answer = all_last A c.pop.new.self.items c.in-Some.answer all in
    let level : IsSearchLevel pairs prices factors c.in_ok-level.level = subst A c.in_ok-level.was last in (
      all_before A c.pop.new.self.items c.in-Some.answer all,
      record {
        found = subst (All P) (sym c.in_ok-append.ensures.items)
            (All-append P c.loop-answer.all.found.items c.in_ok-level.level.found.items i.1.found level.found);
        left = subst (All Q) (sym c.in_ok-append-2.ensures.items)
            (All-append Q c.loop-answer.all.parts.items c.in_ok-level.level.parts.items i.1.left level.left);
      },
    )
