use Rattle.fixed_worth.proofs.Common.{not, take, drop, length, ap, ◌∙◌, nat_lt, position_or_len, before_first}
use Rattle.fixed_worth.proofs.Common.{after_first, drop-drop, prefix_len-le-length}
use Rattle.fixed_worth.specs.Prelude.{is_minus, unsigned_of, is_mark, is_point, whole_part, fraction_part, exponent_of}
use Rattle.fixed_worth.specs.Prelude.{has_mark}
use Rattle.fixed_worth.proofs.decimals.cut.Goals as goal

pub split_at-requires : goal.split_at-requires
split_at-requires c = rw c.mark_length-end.ensures (prefix_len-le-length (λ b. not (is_mark b)) c.args.text.now)

pub split_at-requires-2 : goal.split_at-requires-2
split_at-requires-2 c = rw c.point_length.ensures
    (prefix_len-le-length (λ b. not (is_point b)) c.without_sign-mantissa.result.now)

pub returns : goal.returns
unfolding has_mark exponent_of whole_part fraction_part
returns c =
    let t = c.args.text.now in
    let end = c.mark_length-end.ensures in
    let mantissa = c.without_sign-mantissa.result.now in
    let m = c.without_sign-mantissa.ensures ∙ ap unsigned_of (c.split_at.ensures.front ∙ ap (λ n. take n t) end) in
    let back = c.after_first_line-exponent.ensures ∙ ap (drop 1) (c.split_at.ensures.back ∙ ap (λ n. drop n t) end)
    ∙ drop-drop 1 (position_or_len is_mark t) t in
    let pointed = c.split_at-2.ensures.back ∙ ap (λ n. drop n mantissa) c.point_length.ensures in
    record {
      whole = c.split_at-2.ensures.front ∙ ap (λ n. take n mantissa) c.point_length.ensures
          ∙ ap (before_first is_point) m;
      fraction = c.after_first_line-fraction.ensures ∙ ap (drop 1) pointed
          ∙ drop-drop 1 (position_or_len is_point mantissa) mantissa ∙ ap (after_first is_point) m;
      exponent = c.without_sign.ensures ∙ ap unsigned_of back;
      down = c.has_minus.ensures ∙ ap is_minus back;
      marked = ap (λ n. nat_lt n (length t)) end;
    }
