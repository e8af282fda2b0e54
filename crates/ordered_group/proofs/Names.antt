-- The words of the kinds of amount.
use Rattle.std.proofs.Common.{◌≡◌, ℕ, ◌≤◌, true, not, eqb, ◌&&◌, List, Option, Some, refl, sym, ap, ◌∙◌, arith, length}
use Rattle.std.specs.Prelude.{unwrap_or}
use Rattle.std.specs.List.{list_all}
use Rattle.std.proofs.lemmas.Slice.Eq.{bytes_eq-Decides}
use Rattle.ordered_group.specs.declared.groups.Group.{Group}
use Rattle.ordered_group.specs.declared.groups.Group.TheVariants.{Worth}
use Rattle.ordered_group.specs.Group.{group_name, group_of}
use Rattle.std.proofs.lemmas.Grind.{common_steps}

-- each kind is read of its word
pub group_read : (g : Group) → group_of (group_name g) ≡ Some g
group_read Worth = refl
group_read g = refl

-- a kind is read of no other word
pub group_spelled : (word : List ℕ) (g : Group) → group_of word ≡ Some g → word ≡ group_name g
group_spelled word g h = grind (arith, common_steps, bytes_eq-Decides)

-- no two kinds have one word
pub group_name-same : (a b : Group) → group_name a ≡ group_name b → a ≡ b
group_name-same a b h = ap (λ (o : Option Group). unwrap_or o b) (let e : Some a ≡ Some b = sym (group_read a)
    ∙ ap group_of h ∙ group_read b in e)

-- a word has no line feed and no space, and at most six letters
pub group_name-one_word : (g : Group) → list_all (λ b. not (eqb b 10) && not (eqb b 32)) (group_name g) ≡ true
group_name-one_word Worth = refl
group_name-one_word g = refl

pub group_name-few : (g : Group) → length (group_name g) ≤ 6
group_name-few Worth = omega arith
group_name-few g = omega arith
