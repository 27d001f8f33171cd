-- A lower layer's cause as the layer above it has it, and a refusal carried whole. Assumes nothing.
use Rattle.faults.specs.declared.fault.Fault.{Fault}
use Rattle.faults.specs.declared.causes.WordCause.{WordCause}
use Rattle.faults.specs.declared.causes.ReadingCause.{ReadingCause}
use Rattle.faults.specs.declared.causes.ReadingCause.TheVariants.{Words}
use Rattle.faults.specs.declared.causes.SearchCause.{SearchCause}
use Rattle.faults.specs.declared.causes.BookCause.{BookCause}
use Rattle.faults.specs.declared.causes.BookCause.TheVariants.{Reading, Search, NoMemory}
use Rattle.faults.specs.declared.causes.ConsoleCause.{ConsoleCause}
use Rattle.faults.specs.declared.causes.ConsoleCause.TheVariants.{Book}

abbrev pub reading_of_words : WordCause → ReadingCause
reading_of_words c = Words c

abbrev pub book_of_reading : ReadingCause → BookCause
book_of_reading c = Reading c

abbrev pub book_of_search : SearchCause → BookCause
book_of_search c = Search c

abbrev pub console_of_book : BookCause → ConsoleCause
console_of_book c = Book c

-- the same place, and the cause as the layer above has it
abbrev pub carried : {C D : Type 0} → (C → D) → Fault C → Fault D
carried up e = record { cause = up e.cause; place = e.place }

-- there is no memory
abbrev pub no_memory : Fault BookCause
no_memory = record { cause = NoMemory; place = 0 }
