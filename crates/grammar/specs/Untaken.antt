-- What a book tells of a text that gave no formula. Assumes nothing.
use Rattle.faults.specs.Carried.{carried, book_of_reading, no_memory}
use Rattle.faults.specs.declared.causes.BookCause.{BookCause}
use Rattle.faults.specs.declared.fault.Fault.{Fault}
use Rattle.grammar.specs.declared.unread.Unread.{Unread}
use Rattle.grammar.specs.declared.unread.Unread.TheVariants.{Refused, NoMemory}

-- the reading's refusal carried whole, or want of memory
abbrev pub book_of_unread : Unread → Fault BookCause
book_of_unread (Refused e) = carried book_of_reading e
book_of_unread NoMemory = no_memory
