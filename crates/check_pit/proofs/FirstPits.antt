-- The PIT lines with which the lines of a certificate begin.
use Rattle.fixed_worth.proofs.Common.{◌≡◌, true, false, List, [], ◌∷◌, ◌++◌, Option, Some, refl, ap, append_assoc}
use Rattle.fixed_worth.proofs.Common.{append-nil, arith, common_steps}
use Rattle.certificate_file.specs.declared.body_lines.LineKind.{LineKind}
use Rattle.certificate_file.specs.declared.body_lines.LineKind.TheVariants.{Pit}
use Rattle.certificate_file.specs.declared.body_lines.BodyLine.{BodyLine}
use Rattle.certificate_file.specs.BodyLines.{may_follow}
use Rattle.check_pit.specs.StreamChecks.{is_pit, is_after_pits, first_pits}
use Rattle.certificate_file.proofs.Order.{InOrder}
use Rattle.check_pit.proofs.Beginnings.{last_line}
use Rattle.fixed_worth.proofs.Bits.{not_false}

-- Lines that are all PIT lines.
abbrev pub AllPits : List BodyLine → Type 0
AllPits [] = Unit {0}
AllPits (l ∷ ls) = (is_pit l.kind ≡ true) × AllPits ls

first_front : (ls more : List BodyLine) → AllPits ls → first_pits (ls ++ more) ≡ ls ++ first_pits more
first_front [] more a = refl
first_front (l ∷ ls) more a = rw a.0 (ap (λ (xs : List BodyLine). l ∷ xs) (first_front ls more a.1))

-- They are the first ones where another line stands after them, or none does.
pub first_after : (ls more : List BodyLine) (l : BodyLine) → AllPits ls → is_pit l.kind ≡ false
    → first_pits ((ls ++ l ∷ []) ++ more) ≡ ls
first_after ls more l a h = grind (arith, common_steps, append_assoc, first_front, append-nil)

pub first_all : (ls : List BodyLine) → AllPits ls → first_pits ls ≡ ls
first_all [] a = refl
first_all (l ∷ ls) a = rw a.0 (ap (λ (xs : List BodyLine). l ∷ xs) (first_all ls a.1))

kind_is : (kind : LineKind) → is_pit kind ≡ true → kind ≡ Pit
kind_is kind h = grind (arith, common_steps)

-- Where PIT lines are not left for others, the lines so far are PIT lines alone.
module _ (P : BodyLine → Type 0) (pit_after : (previous : Option BodyLine) (line : BodyLine)
    → may_follow previous line ≡ true → line.kind ≡ Pit → is_after_pits previous ≡ false) where
  stays : (l : BodyLine) (ls : List BodyLine) → InOrder P (Some l) ls → is_after_pits (last_line (Some l) ls) ≡ false
      → is_pit l.kind ≡ true
  stays l [] o h = not_false (is_pit l.kind) h
  stays l (m ∷ ms) o h = not_false (is_pit l.kind) (pit_after (Some l) m o.0 (kind_is m.kind (stays m ms o.2 h)))

  pub all_pits : (previous : Option BodyLine) (ls : List BodyLine) → InOrder P previous ls
      → is_after_pits (last_line previous ls) ≡ false → AllPits ls
  all_pits previous [] o h = tt
  all_pits previous (l ∷ ls) o h = (stays l ls o.2 h, all_pits (Some l) ls o.2 h)
