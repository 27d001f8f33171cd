-- What a book keeps of its rules. Assumes nothing.
use Rattle.std.specs.Prelude.{◌≡◌, ℕ, ◌<◌, ◌≤◌, true}
use Rattle.logic.specs.Form.{Form}
use Rattle.logic.specs.Basics.{occurs, basics}

-- sixteen signals and twelve basics
pub record Small (f : Form) : Type 0 where
  pub signals_few : (g : ℕ) → occurs f g ≡ true → g < 16
  pub basics_few : basics f ≤ 12
