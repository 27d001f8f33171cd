-- What a caller sees of a refusal: its layer, its number and its place. Assumes nothing.
use Rattle.std.specs.Prelude.{ℕ}
use Rattle.faults.specs.declared.layer.Layer.{Layer}
use Rattle.faults.specs.declared.fault.Fault.{Fault}
use Rattle.faults.specs.declared.causes.WordCause.{WordCause}
use Rattle.faults.specs.declared.causes.ReadingCause.{ReadingCause}
use Rattle.faults.specs.declared.causes.PlantCause.{PlantCause}
use Rattle.faults.specs.declared.causes.SearchCause.{SearchCause}
use Rattle.faults.specs.declared.causes.BookCause.{BookCause}
use Rattle.faults.specs.declared.causes.ConsoleCause.{ConsoleCause}
use Rattle.faults.specs.Numbers.{word_number, reading_number, plant_number, search_number, book_number, console_number}
use Rattle.faults.specs.Layers.{word_layer, reading_layer, plant_layer, search_layer, book_layer, console_layer}

pub record Refusal : Type 0 where
  pub layer : Layer
  pub number : ℕ
  pub place : ℕ

abbrev pub refusal : Layer → ℕ → ℕ → Refusal
refusal l n p = record { layer = l; number = n; place = p }

-- what a fault tells, by the layer and the number of its cause
abbrev pub told : {C : Type 0} → (C → Layer) → (C → ℕ) → Fault C → Refusal
told l n e = refusal (l e.cause) (n e.cause) e.place

abbrev pub word_refusal : Fault WordCause → Refusal
word_refusal e = told word_layer word_number e

abbrev pub reading_refusal : Fault ReadingCause → Refusal
reading_refusal e = told reading_layer reading_number e

abbrev pub plant_refusal : Fault PlantCause → Refusal
plant_refusal e = told plant_layer plant_number e

abbrev pub search_refusal : Fault SearchCause → Refusal
search_refusal e = told search_layer search_number e

abbrev pub book_refusal : Fault BookCause → Refusal
book_refusal e = told book_layer book_number e

abbrev pub console_refusal : Fault ConsoleCause → Refusal
console_refusal e = told console_layer console_number e
