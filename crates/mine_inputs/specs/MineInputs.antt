-- The inputs of a mine as devices: the texts that they tell, and the failures that they count.
use Rattle.std.specs.Prelude.{◌≡◌, ℕ, ◌+◌, ◌-◌, ◌^◌, ◌<◌, Bool, false, true, List, Option, IfSome}
use Rattle.mine_inputs.specs.declared.mines.WorthInputs.{WorthInputs}
use Rattle.mine_inputs.specs.declared.mines.WorthInputs.TheVariants.{Values, Prices}
use Rattle.mine_inputs.specs.declared.mines.MineInputs.{MineInputs}
use Rattle.mine_inputs.specs.declared.mines.MineInputs.TheVariants.{Listed, Sloped, Valued}
use Rattle.mine_inputs.specs.Mines.{MineTexts, mine_texts, priced_texts, sloped_texts, valued_texts}

-- ---- texts

-- P holds of the texts of the mine with this precedence and at this factor, where the devices of what its blocks are
-- worth tell their bytes. Of values the factor is none.
abbrev pub ForWorths : {D : Type 0} → WorthInputs D → (D → Option (List ℕ)) → ℕ → List ℕ → (MineTexts → Type 0) → Type 0
ForWorths (Values upit) remaining factor precedence P = IfSome (remaining upit) (λ u. P (mine_texts u precedence))
ForWorths (Prices settings blocks) remaining factor precedence P = IfSome (remaining settings)
    (λ s. IfSome (remaining blocks) (λ b. P (priced_texts s b precedence factor)))

-- P holds of the texts of the mine at this factor, where all its devices tell their bytes
abbrev pub ForTexts : {D : Type 0} → MineInputs D → (D → Option (List ℕ)) → ℕ → (MineTexts → Type 0) → Type 0
ForTexts (Listed worths prec threads) remaining factor P = IfSome (remaining prec)
    (λ p. ForWorths worths remaining factor p P)
ForTexts (Sloped settings blocks) remaining factor P = IfSome (remaining settings)
    (λ s. IfSome (remaining blocks) (λ b. P (sloped_texts s b factor)))
ForTexts (Valued settings blocks upit threads) remaining factor P = IfSome (remaining settings)
    (λ s. IfSome (remaining blocks) (λ b. IfSome (remaining upit) (λ v. P (valued_texts s b v))))

-- ---- failures

-- each device has counted fewer than 2^64 - 1 failures, so that one more can be counted
abbrev pub WorthsCanCount : {D : Type 0} → WorthInputs D → (D → ℕ) → Type 0
WorthsCanCount (Values upit) failed = failed upit < 2 ^ 64 - 1
WorthsCanCount (Prices settings blocks) failed = (failed settings < 2 ^ 64 - 1) × (failed blocks < 2 ^ 64 - 1)

abbrev pub CanCount : {D : Type 0} → MineInputs D → (D → ℕ) → Type 0
CanCount (Listed worths prec threads) failed = WorthsCanCount worths failed × (failed prec < 2 ^ 64 - 1)
CanCount (Sloped settings blocks) failed = (failed settings < 2 ^ 64 - 1) × (failed blocks < 2 ^ 64 - 1)
CanCount (Valued settings blocks upit threads) failed = (failed settings < 2 ^ 64 - 1) × (failed blocks < 2 ^ 64 - 1)
    × (failed upit < 2 ^ 64 - 1)

-- the failures that the devices have counted together
abbrev pub worths_failures : {D : Type 0} → WorthInputs D → (D → ℕ) → ℕ
worths_failures (Values upit) failed = failed upit
worths_failures (Prices settings blocks) failed = failed settings + failed blocks

abbrev pub mine_failures : {D : Type 0} → MineInputs D → (D → ℕ) → ℕ
mine_failures (Listed worths prec threads) failed = worths_failures worths failed + failed prec
mine_failures (Sloped settings blocks) failed = failed settings + failed blocks
mine_failures (Valued settings blocks upit threads) failed = failed settings + failed blocks + failed upit

-- whether they are devices of prices
abbrev pub is_priced : {D : Type 0} → WorthInputs D → Bool
is_priced (Values upit) = false
is_priced (Prices settings blocks) = true

-- of which kind the devices of a mine are
pub data MineKind : Type 0 where
  listed_kind : (priced : Bool) → MineKind
  sloped_kind : MineKind
  valued_kind : MineKind

abbrev pub mine_kind_of : {D : Type 0} → MineInputs D → MineKind
mine_kind_of (Listed worths prec threads) = listed_kind (is_priced worths)
mine_kind_of (Sloped settings blocks) = sloped_kind
mine_kind_of (Valued settings blocks upit threads) = valued_kind

-- each device counts the failures that it had counted, and so none failed
abbrev pub NoWorthsFailed : {D : Type 0} → WorthInputs D → WorthInputs D → (D → ℕ) → Type 0
NoWorthsFailed (Values upit) (Values upit') failed = failed upit' ≡ failed upit
NoWorthsFailed (Prices settings blocks) (Prices settings' blocks') failed = (failed settings' ≡ failed settings)
    × (failed blocks' ≡ failed blocks)
NoWorthsFailed _ _ failed = ⊥

abbrev pub NoneFailed : {D : Type 0} → MineInputs D → MineInputs D → (D → ℕ) → Type 0
NoneFailed (Listed worths prec threads) (Listed worths' prec' threads') failed = NoWorthsFailed worths worths' failed
    × (failed prec' ≡ failed prec)
NoneFailed (Sloped settings blocks) (Sloped settings' blocks') failed = (failed settings' ≡ failed settings)
    × (failed blocks' ≡ failed blocks)
NoneFailed (Valued settings blocks upit threads) (Valued settings' blocks' upit' threads') failed =
    (failed settings' ≡ failed settings) × (failed blocks' ≡ failed blocks) × (failed upit' ≡ failed upit)
NoneFailed _ _ failed = ⊥

-- the devices of a mine and those beside them, which had counted so many, have counted one failure more together
pub record OneFailed {D : Type 0} (old new : MineInputs D) (failed : D → ℕ) (others others' : ℕ) : Type 0 where
  pub kind : mine_kind_of new ≡ mine_kind_of old
  pub one : mine_failures new failed + others' ≡ mine_failures old failed + others + 1
