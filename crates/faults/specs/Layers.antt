-- The layer of each cause: a cause that is carried keeps its own. Assumes nothing.
use Rattle.faults.specs.declared.layer.Layer.{Layer}
use Rattle.faults.specs.declared.layer.Layer.TheVariants as layers
use Rattle.faults.specs.declared.causes.WordCause.{WordCause}
use Rattle.faults.specs.declared.causes.ReadingCause.{ReadingCause}
use Rattle.faults.specs.declared.causes.ReadingCause.TheVariants.{Words, Misfit, Unfinished, Undeclared, ManyTokens}
use Rattle.faults.specs.declared.causes.PlantCause.{PlantCause}
use Rattle.faults.specs.declared.causes.SearchCause.{SearchCause}
use Rattle.faults.specs.declared.causes.BookCause.{BookCause}
use Rattle.faults.specs.declared.causes.BookCause.TheVariants.{Reading, Search, NoSlot, Occupied, Vacant, LongText, ManyBasics, NoName, Declared, ManySignals, FarStep, NoSignal, NoMemory}
use Rattle.faults.specs.declared.causes.ConsoleCause.{ConsoleCause}
use Rattle.faults.specs.declared.causes.ConsoleCause.TheVariants.{Book, NoForm}

abbrev pub word_layer : WordCause → Layer
word_layer c = layers.Words

abbrev pub reading_layer : ReadingCause → Layer
reading_layer (Words c) = word_layer c
reading_layer Misfit = layers.Reading
reading_layer Unfinished = layers.Reading
reading_layer Undeclared = layers.Reading
reading_layer ManyTokens = layers.Reading

abbrev pub plant_layer : PlantCause → Layer
plant_layer c = layers.Plant

abbrev pub search_layer : SearchCause → Layer
search_layer c = layers.Search

abbrev pub book_layer : BookCause → Layer
book_layer (Reading c) = reading_layer c
book_layer (Search c) = search_layer c
book_layer NoSlot = layers.Book
book_layer Occupied = layers.Book
book_layer Vacant = layers.Book
book_layer LongText = layers.Book
book_layer ManyBasics = layers.Book
book_layer NoName = layers.Book
book_layer Declared = layers.Book
book_layer ManySignals = layers.Book
book_layer FarStep = layers.Book
book_layer NoSignal = layers.Book
book_layer NoMemory = layers.Book

abbrev pub console_layer : ConsoleCause → Layer
console_layer (Book c) = book_layer c
console_layer NoForm = layers.Console
