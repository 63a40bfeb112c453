use Rattle.std.proofs.Common.{Err, ap}
use Rattle.lift_program.proofs.Unread.{fails}
use Rattle.lift_program.proofs.leftover.text.bytes_of.Goals as goal

pub returns-then-len-gt-MOST_BYTES-clause-each_call : goal.returns-then-len-gt-MOST_BYTES-clause-each_call
returns-then-len-gt-MOST_BYTES-clause-each_call g c = rw (← c.text.view_is) (rw c.new.ensures c.read_all.ensures.reads.each_call)

pub returns-else-len-gt-MOST_BYTES-clause-each_call : goal.returns-else-len-gt-MOST_BYTES-clause-each_call
returns-else-len-gt-MOST_BYTES-clause-each_call g c = rw (← c.text.view_is) (rw c.new-else-len-gt-MOST_BYTES.ensures c.read_all.ensures.reads.each_call)

pub returns-in-Err-clause-each_call : goal.returns-in-Err-clause-each_call
returns-in-Err-clause-each_call g c = rw (← c.text.view_is) (rw c.new-in-Err.ensures c.read_all.ensures.reads.each_call)

pub returns-in-Err-clause-no_text : goal.returns-in-Err-clause-no_text
returns-in-Err-clause-no_text g c = λ same.
    rw (← c.text.view_is) (rw c.new-in-Err.ensures (fails g.B.Text.Read.remaining g.B.Text.Inlet.gives g.B.TextOpener.reads g.met.B.TextOpener.reads_told _ _
    c.read_all.ensures.reads.each_call (rw c.text.view_is c.requires.uncalled.0) (c.in-Err.ensures.fails (ap Err (c.unread.ensures.unread cc)))))
