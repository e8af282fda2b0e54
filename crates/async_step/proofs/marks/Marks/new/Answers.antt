use Rattle.std.proofs.Common.{rules}
use Rattle.async_step.proofs.Gaps.{marks_none}
use Rattle.async_step.proofs.marks.Marks.new.Goals as goal

pub invariant_of-result : goal.invariant_of-result
invariant_of-result c =
    marks_none c.args.blocks c.in_ok-vec.field-0.items c.in_ok-vec-2.field-0.items c.in_ok-vec-3.field-0.items
    c.in_ok-vec-4.field-0.items c.requires
    (c.in_ok-vec.ensures.items_if_clones_equal (λ y h. search rules))
    (c.in_ok-vec-2.ensures.items_if_clones_equal (λ y h. search rules))
    (c.in_ok-vec-3.ensures.items_if_clones_equal (λ y h. search rules))
    (c.in_ok-vec-4.ensures.items_if_clones_equal (λ y h. search rules))
