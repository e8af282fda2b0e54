-- What holds of the texts that the devices of a mine tell, and the counts of their failures.
use Rattle.std.proofs.Common.{◌≡◌, ℕ, ◌+◌, List, refl, ap, arith, Option, Some, None, IfSome}
use Rattle.mine_inputs.specs.declared.mines.WorthInputs.{WorthInputs}
use Rattle.mine_inputs.specs.declared.mines.WorthInputs.TheVariants.{Values, Prices}
use Rattle.mine_inputs.specs.declared.mines.MineInputs.{MineInputs}
use Rattle.mine_inputs.specs.declared.mines.MineInputs.TheVariants.{Listed, Sloped, Valued}
use Rattle.mine_inputs.specs.Prelude.{ForWorths, ForTexts, worths_failures, mine_failures, is_priced, mine_kind_of}
use Rattle.mine_inputs.specs.Prelude.{listed_kind, NoWorthsFailed, NoneFailed, OneFailed, MineTexts, mine_texts}
use Rattle.mine_inputs.specs.Prelude.{priced_texts, sloped_texts, valued_texts}
use Rattle.mine_inputs.proofs.PricedAnswers.{under3}

-- ---- texts

pub always : (o : Option (List ℕ)) (Q : List ℕ → Type 0) → ((x : List ℕ) → Q x) → IfSome o Q
always None Q f = tt
always (Some x) Q f = f x

pub under : (o : Option (List ℕ)) (P Q : List ℕ → Type 0) → IfSome o P → ((x : List ℕ) → P x → Q x) → IfSome o Q
under None P Q h f = tt
under (Some x) P Q h f = f x h

pub under2 : (o r : Option (List ℕ)) (P Q : List ℕ → List ℕ → Type 0) → IfSome o (λ u. IfSome r (λ p. P u p))
    → ((u p : List ℕ) → P u p → Q u p) → IfSome o (λ u. IfSome r (λ p. Q u p))
under2 (Some u) (Some p) P Q h f = f u p h
under2 _ _ P Q h f = tt

pub always3 : (o q r : Option (List ℕ)) (Q : List ℕ → List ℕ → List ℕ → Type 0) → ((s b v : List ℕ) → Q s b v)
    → IfSome o (λ s. IfSome q (λ b. IfSome r (λ v. Q s b v)))
always3 (Some s) (Some b) (Some v) Q f = f s b v
always3 _ _ _ Q f = tt

-- what holds of all texts
all_worths : {D : Type 0} (inputs : WorthInputs D) (remaining : D → Option (List ℕ)) (factor : ℕ)
    (precedence : List ℕ) (Q : MineTexts → Type 0) → ((texts : MineTexts) → Q texts)
    → ForWorths inputs remaining factor precedence Q
all_worths (Values upit) remaining factor precedence Q f = always (remaining upit) (λ u. Q (mine_texts u precedence))
    (λ u. f (mine_texts u precedence))
all_worths (Prices settings blocks) remaining factor precedence Q f =
    always (remaining settings) (λ s. IfSome (remaining blocks) (λ b. Q (priced_texts s b precedence factor)))
    (λ s. always (remaining blocks) (λ b. Q (priced_texts s b precedence factor))
    (λ b. f (priced_texts s b precedence factor)))

pub all_texts : {D : Type 0} (mine : MineInputs D) (remaining : D → Option (List ℕ)) (factor : ℕ)
    (Q : MineTexts → Type 0) → ((texts : MineTexts) → Q texts) → ForTexts mine remaining factor Q
all_texts (Listed worths prec threads) remaining factor Q f = always (remaining prec)
    (λ p. ForWorths worths remaining factor p Q) (λ p. all_worths worths remaining factor p Q f)
all_texts (Sloped settings blocks) remaining factor Q f =
    always (remaining settings) (λ s. IfSome (remaining blocks) (λ b. Q (sloped_texts s b factor)))
    (λ s. always (remaining blocks) (λ b. Q (sloped_texts s b factor)) (λ b. f (sloped_texts s b factor)))
all_texts (Valued settings blocks upit threads) remaining factor Q f = always3 (remaining settings) (remaining blocks)
    (remaining upit) (λ s b v. Q (valued_texts s b v)) (λ s b v. f (valued_texts s b v))

-- the texts have this precedence
abbrev pub HasPrecedence : MineTexts → List ℕ → Type 0
HasPrecedence (mine_texts values precedence) p = precedence ≡ p
HasPrecedence (priced_texts settings blocks precedence factor) p = precedence ≡ p
HasPrecedence (sloped_texts settings blocks factor) p = ⊥
HasPrecedence (valued_texts settings blocks values) p = ⊥

-- what follows from what holds of them
pub for_worths : {D : Type 0} (inputs : WorthInputs D) (remaining : D → Option (List ℕ)) (factor : ℕ)
    (precedence : List ℕ) (P Q : MineTexts → Type 0) → ForWorths inputs remaining factor precedence P
    → ((texts : MineTexts) → HasPrecedence texts precedence → P texts → Q texts)
    → ForWorths inputs remaining factor precedence Q
for_worths (Values upit) remaining factor precedence P Q h f = under (remaining upit)
    (λ u. P (mine_texts u precedence)) (λ u. Q (mine_texts u precedence)) h (λ u a. f (mine_texts u precedence) refl a)
for_worths (Prices settings blocks) remaining factor precedence P Q h f = under2 (remaining settings)
    (remaining blocks) (λ s b. P (priced_texts s b precedence factor)) (λ s b. Q (priced_texts s b precedence factor))
    h (λ s b a. f (priced_texts s b precedence factor) refl a)

pub for_texts : {D : Type 0} (mine : MineInputs D) (remaining : D → Option (List ℕ)) (factor : ℕ)
    (P Q : MineTexts → Type 0) → ForTexts mine remaining factor P → ((texts : MineTexts) → P texts → Q texts)
    → ForTexts mine remaining factor Q
for_texts (Listed worths prec threads) remaining factor P Q h f = under (remaining prec)
    (λ p. ForWorths worths remaining factor p P) (λ p. ForWorths worths remaining factor p Q) h
    (λ p a. for_worths worths remaining factor p P Q a (λ texts same x. f texts x))
for_texts (Sloped settings blocks) remaining factor P Q h f = under2 (remaining settings) (remaining blocks)
    (λ s b. P (sloped_texts s b factor)) (λ s b. Q (sloped_texts s b factor)) h (λ s b a. f (sloped_texts s b factor) a)
for_texts (Valued settings blocks upit threads) remaining factor P Q h f = under3 (remaining settings)
    (remaining blocks) (remaining upit) (λ s b v. P (valued_texts s b v)) (λ s b v. Q (valued_texts s b v)) h
    (λ s b v a. f (valued_texts s b v) a)

-- ---- failures

worths_kept : {D : Type 0} (old new : WorthInputs D) (failed : D → ℕ) → NoWorthsFailed old new failed
    → worths_failures new failed ≡ worths_failures old failed
worths_kept (Values upit) (Values upit') failed h = h
worths_kept (Prices settings blocks) (Prices settings' blocks') failed h = omega (arith, h.0, h.1)
worths_kept _ _ failed h = absurd h

kind_kept : {D : Type 0} (old new : WorthInputs D) (failed : D → ℕ) → NoWorthsFailed old new failed
    → is_priced new ≡ is_priced old
kind_kept (Values upit) (Values upit') failed h = refl
kind_kept (Prices settings blocks) (Prices settings' blocks') failed h = refl
kind_kept _ _ failed h = absurd h

none_kept : {D : Type 0} (old new : MineInputs D) (failed : D → ℕ) → NoneFailed old new failed
    → mine_failures new failed ≡ mine_failures old failed
none_kept (Listed worths prec threads) (Listed worths' prec' threads') failed h = let kept = worths_kept worths
    worths' failed h.0 in let same = h.1 in omega (arith, kept, same)
none_kept (Sloped settings blocks) (Sloped settings' blocks') failed h = omega (arith, h.0, h.1)
none_kept (Valued settings blocks upit threads) (Valued settings' blocks' upit' threads') failed h = omega
    (arith, h.0, h.1, h.2)
none_kept _ _ failed h = absurd h

kinds_kept : {D : Type 0} (old new : MineInputs D) (failed : D → ℕ) → NoneFailed old new failed
    → mine_kind_of new ≡ mine_kind_of old
kinds_kept (Listed worths prec threads) (Listed worths' prec' threads') failed h = ap listed_kind
    (kind_kept worths worths' failed h.0)
kinds_kept (Sloped settings blocks) (Sloped settings' blocks') failed h = refl
kinds_kept (Valued settings blocks upit threads) (Valued settings' blocks' upit' threads') failed h = refl
kinds_kept _ _ failed h = absurd h

-- one of the mine's failed, and none of those beside them
pub mine_once : {D : Type 0} (old new : MineInputs D) (failed : D → ℕ) (others others' : ℕ)
    → OneFailed old new failed 0 0 → others' ≡ others → OneFailed old new failed others others'
mine_once old new failed others others' h k = let one = h.one in record { kind = h.kind; one = omega (arith, one, k) }

-- one of those beside them failed, and none of the mine's
pub other_once : {D : Type 0} (old new : MineInputs D) (failed : D → ℕ) (others others' : ℕ)
    → NoneFailed old new failed → others' ≡ others + 1 → OneFailed old new failed others others'
other_once old new failed others others' h k = let kept = none_kept old new failed h in record
    { kind = kinds_kept old new failed h; one = omega (arith, kept, k) }
