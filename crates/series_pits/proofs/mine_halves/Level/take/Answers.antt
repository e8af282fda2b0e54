use Rattle.fixed_worth.proofs.Common.{[], ◌∷◌, All, Option, IfSome, sym, subst, All-append}
use Rattle.series_pits.specs.declared.best_pits.BestPit.{BestPit}
use Rattle.series_pits.specs.declared.mine_parts.Part.{Part}
use Rattle.series_pits.specs.declared.mine_halves.Level.{Level}
use Rattle.series_pits.specs.Prelude.{IsProved, IsLeft}
use Rattle.series_pits.proofs.Proving.{all_one}
use Rattle.series_pits.proofs.Among.{all_kept}
use Rattle.series_pits.proofs.mine_halves.Level.take.Goals.{in-Some+in_ok-push, in_default}
use Rattle.series_pits.proofs.mine_halves.Level.take.Goals as goal

pub returns : goal.returns
returns c = λ pairs prices factors level halves.
    let P : BestPit → Type 0 = IsProved pairs prices in
    let Q : Part → Type 0 = IsLeft pairs prices factors in
    let found : All P c.match-best.self.found.items =
    elim c.match-best.branch [
      | in-Some+in_ok-push w ↦
          subst (λ (l : Level). All P l.found.items) (sym w.self-is)
          (subst (All P) (sym w.in_ok-push.ensures.items)
          (All-append P c.args.self.now.found.items (w.in-Some.found ∷ []) level.found
          (all_one P w.in-Some.found (subst (λ (o : Option BestPit). IfSome o P) w.in-Some.is halves.found))))
      | in_default w ↦ subst (λ (l : Level). All P l.found.items) (sym w.self-is) level.found
    ] in
    let left : All Q c.match-best.self.parts.items =
    elim c.match-best.branch [
      | in-Some+in_ok-push w ↦ subst (λ (l : Level). All Q l.parts.items) (sym w.self-is) level.left
      | in_default w ↦ subst (λ (l : Level). All Q l.parts.items) (sym w.self-is) level.left
    ] in
    let one = all_kept Q c.args.halves.lower c.match-best.self.parts.items _ c.in_ok-keep.ensures.parts left
    (λ some. record { lies = halves.lower; some = some }) in
    record {
      found = subst (All P) (sym c.in_ok-keep-2.ensures.same) (subst (All P) (sym c.in_ok-keep.ensures.same) found);
      left = all_kept Q c.args.halves.higher c.keep.new.self.parts.items _ c.in_ok-keep-2.ensures.parts one
          (λ some. record { lies = halves.higher; some = some });
    }
