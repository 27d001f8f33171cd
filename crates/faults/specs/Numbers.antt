-- The number of each cause. Numbers 24 to 29 are free. Assumes nothing.
use Rattle.std.specs.Prelude.{ℕ}
use Rattle.faults.specs.declared.causes.WordCause.{WordCause}
use Rattle.faults.specs.declared.causes.WordCause.TheVariants.{NoToken, LongWord}
use Rattle.faults.specs.declared.causes.ReadingCause.{ReadingCause}
use Rattle.faults.specs.declared.causes.ReadingCause.TheVariants.{Words, Misfit, Unfinished, Undeclared, ManyTokens}
use Rattle.faults.specs.declared.causes.PlantCause.{PlantCause}
use Rattle.faults.specs.declared.causes.PlantCause.TheVariants.{Large, BadState, BadEdge}
use Rattle.faults.specs.declared.causes.SearchCause.{SearchCause}
use Rattle.faults.specs.declared.causes.SearchCause.TheVariants.{Unfit, ShortWork, ShortSheet}
use Rattle.faults.specs.declared.causes.BookCause.{BookCause}
use Rattle.faults.specs.declared.causes.BookCause.TheVariants.{Reading, Search, NoSlot, Occupied, Vacant, LongText, ManyBasics, NoName, Declared, ManySignals, FarStep, NoSignal, NoMemory}
use Rattle.faults.specs.declared.causes.ConsoleCause.{ConsoleCause}
use Rattle.faults.specs.declared.causes.ConsoleCause.TheVariants.{Book, NoForm}

abbrev pub word_number : WordCause → ℕ
word_number NoToken = 1
word_number LongWord = 2

abbrev pub reading_number : ReadingCause → ℕ
reading_number (Words c) = word_number c
reading_number Misfit = 3
reading_number Unfinished = 4
reading_number Undeclared = 5
reading_number ManyTokens = 6

abbrev pub plant_number : PlantCause → ℕ
plant_number Large = 15
plant_number BadState = 16
plant_number BadEdge = 17

abbrev pub search_number : SearchCause → ℕ
search_number Unfit = 18
search_number ShortWork = 19
search_number ShortSheet = 20

abbrev pub book_number : BookCause → ℕ
book_number (Reading c) = reading_number c
book_number (Search c) = search_number c
book_number NoSlot = 7
book_number Occupied = 8
book_number Vacant = 9
book_number LongText = 10
book_number ManyBasics = 11
book_number NoName = 12
book_number Declared = 13
book_number ManySignals = 14
book_number FarStep = 21
book_number NoSignal = 22
book_number NoMemory = 30

abbrev pub console_number : ConsoleCause → ℕ
console_number (Book c) = book_number c
console_number NoForm = 23
