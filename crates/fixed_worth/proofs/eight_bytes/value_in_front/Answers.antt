use Rattle.fixed_worth.proofs.EightBytes.{front_value}
use Rattle.fixed_worth.proofs.eight_bytes.value_in_front.Goals as goal

pub returns : goal.returns
returns c =
    let asked = c.requires in
    front_value c.args.text.now c.args.count c.word_of-word.result c.joined_digits.result asked.long asked.some
    asked.few asked.digits c.word_of-word.ensures c.joined_digits.ensures
