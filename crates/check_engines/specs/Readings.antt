-- What the texts of a mine and of a certificate denote together.
use Rattle.std.specs.Prelude.{◌≡◌, ℕ, ◌<◌, All, ℤ, Bool, false, true, List, None, Ok}
use Rattle.ordered_group.specs.Prelude.{Amount, worth_block, counted_block, scaled_block}
use Rattle.ordered_group.specs.declared.groups.Group.{Group}
use Rattle.ordered_group.specs.declared.groups.Group.TheVariants.{Worth, Pair, Scaled}
use Rattle.closure_net.specs.Prelude.{NetView, FlowView, IsNet, IsAscending, IsGreatest, Mine, IsRichest, IsBest}
use Rattle.closure_net.specs.Prelude.{IsNetOf}
use Rattle.certificate_file.specs.Prelude.{pieces_of, header_of, cert_fault_of, lines_of_text, DenotesFlow}
use Rattle.mine_inputs.specs.Mines.{MineTexts, price_wanted, mine_of, DenoteMine}

-- what one block counts as in a group
abbrev pub block_by : Group → ℤ → ℕ → Amount
block_by Worth = worth_block
block_by Pair = counted_block
block_by Scaled = scaled_block

-- an amount of this group has a count beside its worth
abbrev pub counts_by : Group → Bool
counts_by Pair = true
counts_by _ = false

-- What a certificate proves: that no pit is worth more; and where sizes count too, that the pit is the best one.
abbrev pub IsProvedPit : Group → Mine → (ℕ → Bool) → Type 0
IsProvedPit Worth mine e = IsRichest mine e
IsProvedPit Pair mine e = IsBest mine e
IsProvedPit Scaled mine e = IsBest mine e

-- what is counted tells the sizes of sets: only then is a best pit proved
abbrev pub TellsSizes : Group → Type 0
TellsSizes Worth = ⊥
TellsSizes _ = Unit {0}

-- the header is one for this mine at its price
abbrev pub IsHeader : MineTexts → List ℕ → ℕ → Group → Type 0
IsHeader texts certificate n group = header_of (pieces_of certificate)
    ≡ Ok (record { blocks = n; price = price_wanted texts; group = group })

-- The texts denote a mine, its net, and a certificate for it with a pit and a flow.
pub record Reads (texts : MineTexts) (certificate : List ℕ) : Type 0 where
  pub blocks : ℕ
  pub mine : DenoteMine texts blocks
  pub group : Group
  pub header : IsHeader texts certificate blocks group
  pub net : NetView
  pub is_net : IsNet net
  pub of_mine : IsNetOf (block_by group) (mine_of blocks texts) net
  pub no_fault : cert_fault_of (counts_by group) group blocks net.pairs certificate ≡ None
  pub pit : List ℕ
  pub flow : FlowView
  pub denotes : DenotesFlow blocks net.pairs (lines_of_text (counts_by group) blocks certificate) pit flow
  pub ascending : IsAscending pit
  pub known : All (λ b. b < blocks) pit

-- The group with this name counts a block so, and what sums to most by it is proved.
pub record IsGroupNamed (name : Group) (block : ℤ → ℕ → Amount) (counts : Bool) : Type 0 where
  pub block_is : block_by name ≡ block
  pub counts_is : counts_by name ≡ counts
  pub proves : (mine : Mine) (net : NetView) (e : ℕ → Bool) → IsNetOf block mine net → IsGreatest net e
      → IsProvedPit name mine e
