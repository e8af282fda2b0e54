-- What holds of the texts that the devices of a mine and of its periods tell.
use Rattle.std.proofs.Common.{◌≡◌, ◌∙◌, ℕ, List, subst, Option, IfSome}
use Rattle.prec_file.specs.Rests.{RestsView}
use Rattle.mine_inputs.specs.declared.mines.MineInputs.{MineInputs}
use Rattle.mine_inputs.specs.declared.worths.Worths.{Worths}
use Rattle.mine_inputs.specs.Prelude.{ForTexts, IsMineRead, MineTexts, ways_of, ways_valued}
use Rattle.mine_inputs.proofs.MineDevices.{all_texts, always, for_texts, under}
use Rattle.periods_file.specs.Periods.{periods_view}
use Rattle.schedule_engines.specs.Prelude.{ReadsPeriodsBy, ReadsWayUses}
use Rattle.planned_mine.specs.declared.bound_inputs.BoundInputs.{BoundInputs}
use Rattle.planned_mine.specs.declared.bound_inputs.BesideRead.{BesideRead}
use Rattle.planned_mine.specs.Prelude.{ForBeside, IsBesideRead}

module _ {D : Type 0} (inputs : MineInputs D) (beside : BoundInputs D) (remaining : D → Option (List ℕ)) (factor : ℕ)
    (Q : MineTexts → List ℕ → List ℕ → Type 0) where
  abbrev pub ForAll : Type 0
  ForAll = ForBeside beside remaining (λ p u. ForTexts inputs remaining factor (λ texts. Q texts p u))

  -- what holds of all texts
  pub whatever : ((texts : MineTexts) (p u : List ℕ) → Q texts p u) → ForAll
  whatever f =
      always (remaining beside.periods)
      (λ p. IfSome (remaining beside.uses) (λ u. ForTexts inputs remaining factor (λ texts. Q texts p u))) (λ p.
      always (remaining beside.uses) (λ u. ForTexts inputs remaining factor (λ texts. Q texts p u)) (λ u.
      all_texts inputs remaining factor (λ texts. Q texts p u) (λ texts. f texts p u)))

  -- what holds of the texts of what was read
  pub of_read : (worths : Worths) (rests : RestsView) (n ways : ℕ) → n ≡ rests.blocks → ways ≡ ways_valued worths
      → (r : BesideRead) → ((k : ℕ) → ForTexts inputs remaining k (λ texts. IsMineRead texts k worths rests))
      → ForBeside beside remaining (λ p u. IsBesideRead n ways r p u)
      → ((texts : MineTexts) (p u : List ℕ) → IsMineRead texts factor worths rests
      → ReadsPeriodsBy (ways_of texts) p (periods_view r.periods)
      → ReadsWayUses rests.blocks (ways_of texts) (periods_view r.periods) u r.uses.items r.waits → Q texts p u)
      → ForAll
  of_read worths rests n ways size many r h b f =
      under (remaining beside.periods) (λ p. IfSome (remaining beside.uses) (λ u. IsBesideRead n ways r p u))
      (λ p. IfSome (remaining beside.uses) (λ u. ForTexts inputs remaining factor (λ texts. Q texts p u))) b (λ p q.
      under (remaining beside.uses) (λ u. IsBesideRead n ways r p u)
      (λ u. ForTexts inputs remaining factor (λ texts. Q texts p u)) q (λ u k.
      for_texts inputs remaining factor (λ texts. IsMineRead texts factor worths rests) (λ texts. Q texts p u)
      (h factor) (λ texts m.
      let here : IsBesideRead rests.blocks (ways_of texts) r p u = subst
      (λ (i : ℕ). IsBesideRead rests.blocks i r p u) (many ∙ m.2.count)
      (subst (λ (i : ℕ). IsBesideRead i ways r p u) size k) in
      f texts p u m here.0 here.1)))
