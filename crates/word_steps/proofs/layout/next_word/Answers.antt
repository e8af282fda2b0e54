use Rattle.machine_law.proofs.PortLists.{port-at}
use Rattle.word_steps.proofs.Shows.{other_within}
use Rattle.word_steps.proofs.layout.next_word.Goals as goal

pub first_word-requires-clause-other : goal.first_word-requires-clause-other
first_word-requires-clause-other c = let p = c.port-port.result in
    other_within c.args.net.now c.args.b p.kind p.other p.slot c.worths-net.ensures.net.rests.known c.requires.known
    (port-at c.args.net.now c.args.b c.in-Scan.place p c.port-port.ensures)

pub first_word-requires-clause-port : goal.first_word-requires-clause-port
first_word-requires-clause-port c = port-at c.args.net.now c.args.b c.in-Scan.place c.port-port.result
    c.port-port.ensures

pub label_word-requires : goal.label_word-requires
label_word-requires c = let p = c.port-port.result in
    other_within c.args.net.now c.args.b p.kind p.other p.slot c.worths-net.ensures.net.rests.known c.requires.known
    (port-at c.args.net.now c.args.b c.in-Scan.place p c.port-port.ensures)
