use Rattle.held.proofs.Issuable.{again_of}
use Rattle.held.proofs.is_issuable.Goals as goal

pub returns-in-Read : goal.returns-in-Read
returns-in-Read c = rw (c.issues_it.ensures, c.read_row.ensures, c.offset_from-offset.ensures) (again_of _ _ _ _ _ _ c.in-Read.is c.requires.1.1)

pub returns-in-Write : goal.returns-in-Write
returns-in-Write c = rw (c.issues_it-in-Write.ensures, c.write_row-again.ensures, c.offset_from-offset.ensures) (again_of _ _ _ _ _ _ c.in-Write.is c.requires.1.1)

pub returns-in-Reset : goal.returns-in-Reset
returns-in-Reset c = rw (c.issues_it-in-Reset.ensures, c.truncate_row.ensures) (again_of _ _ _ _ _ _ c.in-Reset.is c.requires.1.1)

pub returns-in-Finish : goal.returns-in-Finish
returns-in-Finish c = rw (c.issues_it-in-Finish.ensures, c.truncate_row-in-Finish.ensures) (again_of _ _ _ _ _ _ c.in-Finish.is c.requires.1.1)

pub returns-in-Flush : goal.returns-in-Flush
returns-in-Flush c = rw (c.issues_it-in-Flush.ensures, c.flush_row.ensures) (again_of _ _ _ _ _ _ c.in-Flush.is c.requires.1.1)

pub returns-in-Open : goal.returns-in-Open
returns-in-Open c = rw (c.issues_it-in-Open.ensures, c.open_row-again.ensures, c.with_opens.ensures) (again_of _ _ _ _ _ _ c.in-Open.is c.requires.1.1)

pub returns-in-Close : goal.returns-in-Close
returns-in-Close c = rw (c.is_write.ensures, c.issues_it-in-Close.ensures, c.close_row-again.ensures, c.with_opens-in-Close.ensures) (again_of _ _ _ _ _ _ c.in-Close.is c.requires.1.1)
