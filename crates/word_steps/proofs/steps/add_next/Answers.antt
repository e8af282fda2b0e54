use Rattle.word_steps.proofs.Calls.{gives, in_table}
use Rattle.word_steps.proofs.steps.add_next.Goals as goal

pub fetch_add-requires : goal.fetch_add-requires
fetch_add-requires c = let a = c.args in let q = c.requires.seat in let n = c.requires.next in (
  q.table,
  in_table a.words.now.key a.words.now.table_id.slots a.place.now.id a._b a.at a.place.now.me q.net n.0
      a.words.now.table_id.words q.words,
  gives a.words.now.key a.words.now.table_id.slots a.place.now.id a._b a.at a.place.now.me q.net n.0 a.k n.1,
)
