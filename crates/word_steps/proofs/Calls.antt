-- What the four operations write is what the step writes.
use Rattle.fixed_worth.proofs.Common.{◌≡◌, ℕ, ◌+◌, ◌-◌, ◌%◌, ◌<◌, ◌^◌, get_or, ap, sym, ◌∙◌, subst, arith, common_steps}
use mathlib.Core.Option.{none}
use Rattle.atomic_table.specs.Table.{Allows, step}
use Rattle.closure_net.specs.Network.{NetView}
use Rattle.machine_law.specs.declared.operations.Operation.{Operation}
use Rattle.word_steps.specs.declared.view.View.{View}
use Rattle.word_steps.specs.Prelude.{width, word_after, IsRuled, Sat, view_after_turn, TurnsSeat, block_of_view}
use Rattle.word_steps.specs.Prelude.{IsNextAt, StepReads, StepAdds, Subtracts, Stores}
use Rattle.word_steps.proofs.Writes.{Fits}
use Rattle.word_steps.proofs.KeepsRule.{turns}

reads : (o : Operation ℕ) (x : ℕ) → StepReads o → x ≡ word_after o x
reads o x h = grind (arith, common_steps)

adds : (o : Operation ℕ) (k x : ℕ) → StepAdds o k → Fits o x → (x + k) % 2 ^ 64 ≡ word_after o x
adds o k x h f = grind (arith, common_steps)

subtracts : (o : Operation ℕ) (k x : ℕ) → Subtracts o k → x < 2 ^ 64 → Fits o x
    → (x + (2 ^ 64 - k)) % 2 ^ 64 ≡ word_after o x
subtracts o k x h l f = grind (arith, common_steps)

stores : (o : Operation ℕ) (k x : ℕ) → Stores o k → k ≡ word_after o x
stores o k x h = grind (arith, common_steps)

unread : (b : ℕ) (v : View) (k x y : ℕ) → Stores v.operation k → view_after_turn b v x ≡ view_after_turn b v y
unread b v k x y h = grind (arith, common_steps)

-- what a seat's next step may do at its word, among the words of a table whose key is the seat's net
module _ (key : NetView) (slots id b i : ℕ) (me : Sat) (e : me.0.net ≡ key) (n : IsNextAt me.0 b i) where
  pub allows : (a : ℕ) (f : ℕ → ℕ)
      → ((x : ℕ) → x < 2 ^ 64 → Fits me.0.operation x → f x ≡ word_after me.0.operation x)
      → Allows (IsRuled key) slots id me i f (TurnsSeat (step slots i a 0 none) me)
  allows a f h = subst (λ (z : NetView × ℕ). Allows (IsRuled z.0) slots id me z.1 f
      (TurnsSeat (step slots z.1 a 0 none) me)) (λ k. (e k, sym n.word k)) (turns slots id a b me f n.may h)

  pub loads : StepReads me.0.operation
      → Allows (IsRuled key) slots id me i (λ n. n) (TurnsSeat (step slots i 0 0 none) me)
  loads h = allows 0 (λ n. n) (λ x l f. reads me.0.operation x h)

  pub gives : (k : ℕ) → StepAdds me.0.operation k → Allows (IsRuled key) slots id me i (λ n. (n + k) % 2 ^ 64)
      (TurnsSeat (step slots i k 0 none) me)
  gives k h = allows k (λ n. (n + k) % 2 ^ 64) (λ x l f. adds me.0.operation k x h f)

  pub takes : (k : ℕ) → Subtracts me.0.operation k
      → Allows (IsRuled key) slots id me i (λ n. (n + (2 ^ 64 - k)) % 2 ^ 64) (TurnsSeat (step slots i k 0 none) me)
  takes k h = allows k (λ n. (n + (2 ^ 64 - k)) % 2 ^ 64) (λ x l f. grind (arith, common_steps))

  -- a step that stores doesn't tell what the word was
  pub puts : (k : ℕ) → Stores me.0.operation k
      → Allows (IsRuled key) slots id me i (λ _. k) (λ _. TurnsSeat (step slots i k 0 none) me k)
  puts k h s r homes at small =
      let g = allows k (λ _. k) (λ x l f. stores me.0.operation k x h) s r homes at small in
      let x : ℕ = get_or s.words i 0 in
      let z = unread (block_of_view me.0 i) me.0 k x k h in
      (g.0, g.1, g.2, g.3, (g.4.0 ∙ z, g.4.1, g.4.2, g.4.3))

  pub in_table : (words : ℕ) → words ≡ width key → i < words
  in_table words w = let l = n.within in subst (λ (z : ℕ). i < z) (ap width e ∙ sym w) l
