-- Mark words: of each of the sixteen signals on, off or either. Assumes nothing.
use Rattle.std.specs.Prelude.{◌≡◌, ℕ, zero, suc, ◌+◌, ◌*◌, ◌/◌, ◌%◌, ◌^◌, ◌<◌, Bool, true, false, cond, not, ◌&&◌, ◌||◌, ◌==◌, ◌≢◌}
use Rattle.logic.specs.Runs.{Setting}

-- the mark of the signal g, which stands in the bits 2g and 2g + 1: 1 on, 2 off, 3 either
abbrev pub mark : ℕ → ℕ → ℕ
mark w g = (w / 2 ^ (2 * g)) % 4

-- the word that marks every signal either
abbrev pub all_either : ℕ
all_either = 4294967295

-- no signal has the mark zero, which says nothing
abbrev pub Whole : ℕ → Type 0
Whole w = (g : ℕ) → g < 16 → mark w g ≢ 0

-- the setting has on what the word marks on, and off what it marks off
abbrev pub Obeys : Setting → ℕ → Type 0
Obeys on w = (g : ℕ) → g < 16 → (mark w g ≡ 1 → on g ≡ true) × (mark w g ≡ 2 → on g ≡ false)

-- the word of the first n of these marks
unfoldable pub word : (ℕ → ℕ) → ℕ → ℕ
word v zero = 0
word v (suc g) = v g * 2 ^ (2 * g) + word v g

-- on in one and off in the other
abbrev pub clash : ℕ → ℕ → Bool
clash x y = (x == 1 && y == 2) || (x == 2 && y == 1)

-- none of the first n signals is on in one word and off in the other
abbrev pub agree_below : ℕ → ℕ → ℕ → Bool
agree_below v w zero = true
agree_below v w (suc g) = not (clash (mark v g) (mark w g)) && agree_below v w g

-- two words agree when no signal is on in one and off in the other
unfoldable pub agree : ℕ → ℕ → Bool
agree v w = agree_below v w 16

-- on or off where one mark says so, and either elsewhere
abbrev pub one_says : ℕ → ℕ → ℕ
one_says x y = cond (x == 1 || y == 1) 1 (cond (x == 2 || y == 2) 2 3)

-- the merger of two words: on or off where one says so, and all either where they do not agree
unfoldable pub merged : ℕ → ℕ → ℕ
merged v w = cond (agree v w) (word (λ g. one_says (mark v g) (mark w g)) 16) all_either
