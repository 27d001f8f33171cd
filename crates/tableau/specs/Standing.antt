-- The machine of a book. Assumes nothing.
use Rattle.plant.specs.Meaning.{Meaning}
use Rattle.book.specs.Rules.{standing}
use Rattle.book.specs.Standing.{state_of}
use Rattle.book.specs.declared.book.Book.{Book}
use Rattle.tableau.specs.Machine.{tableau}

abbrev pub tableau_of : Book → Meaning
tableau_of b = tableau (standing (state_of b).rules)
