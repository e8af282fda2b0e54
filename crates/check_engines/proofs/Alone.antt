-- The texts denote one net, and the lines of a certificate one flow.
use Rattle.std.proofs.Common.{◌≡◌, ℕ, ◌<◌, ℤ, Bool, List, length, sym, ◌∙◌, arith, Result, Ok}
use Rattle.ordered_group.specs.Prelude.{Amount, zero_amount, amount_at}
use Rattle.closure_net.specs.Prelude.{NetView, FlowView, IsNet, IsNetOf}
use Rattle.closure_net.proofs.Views.{same_at_default}
use Rattle.certificate_file.specs.Certificate.{lines_of_text, DenotesFlow}
use Rattle.mine_inputs.specs.Mines.{MineTexts, rests_of, mine_of}
use Rattle.mine_inputs.proofs.Listed.{pairs_same}

pub ok_same : {E : Type 0} {A : Type 0} (r : Result A E) (a b : A) → r ≡ Ok a → r ≡ Ok b → a ≡ b
ok_same r a b e f = let g : Ok a ≡ Ok b = sym e ∙ f in cc

-- two nets of one mine are one
pub nets_same : (block : ℤ → ℕ → Amount) (n : ℕ) (texts : MineTexts) (x y : NetView) → IsNet x → IsNet y
    → IsNetOf block (mine_of n texts) x → IsNetOf block (mine_of n texts) y → x ≡ y
nets_same block n texts x y a b p q =
    let pairs = pairs_same (rests_of texts) x.pairs y.pairs a.rests.apart
    (record { rising = a.rests.rising; same = p.pairs }) (record { rising = b.rests.rising; same = q.pairs }) in
    let sizes = p.blocks ∙ sym q.blocks in
    let worths = same_at_default zero_amount x.worths y.worths sizes
    (λ k l. let m : k < n = omega (arith, l, p.blocks) in p.worths k m ∙ sym (q.worths k m)) in
    λ i. record { pairs = pairs i; worths = worths i }

lists_same : (xs ys : List Amount) (n : ℕ) (f : ℕ → Amount) → length xs ≡ n → length ys ≡ n
    → ((k : ℕ) → k < n → amount_at xs k ≡ f k) → ((k : ℕ) → k < n → amount_at ys k ≡ f k) → xs ≡ ys
lists_same xs ys n f a b p q = same_at_default zero_amount xs ys (a ∙ sym b)
    (λ k l. let m : k < n = omega (arith, l, a) in p k m ∙ sym (q k m))

-- two flows that lines say are one
pub flows_same : (counts : Bool) (n : ℕ) (ps : List (ℕ × ℕ)) (text pit other : List ℕ) (x y : FlowView)
    → DenotesFlow n ps (lines_of_text counts n text) pit x → DenotesFlow n ps (lines_of_text counts n text) other y
    → x ≡ y
flows_same counts n ps text pit other x y a b =
    let source = lists_same x.source y.source n _ a.covers.sources b.covers.sources a.source b.source in
    let rest = lists_same x.rest y.rest (length ps) _ a.covers.rests b.covers.rests a.rest b.rest in
    let sink = lists_same x.sink y.sink n _ a.covers.sinks b.covers.sinks a.sink b.sink in
    λ i. record { source = source i; rest = rest i; sink = sink i }
