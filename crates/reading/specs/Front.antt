-- What the front of a text stands for, token by token. Assumes nothing.
use Rattle.std.specs.Prelude.{ℕ, ◌<◌, ◌≤◌, Some, None, Ok, Err, Option, Result}
use Rattle.faults.specs.declared.causes.WordCause.{WordCause}
use Rattle.reading.specs.declared.token.Token.{Token}
use Rattle.reading.specs.Tokens.{Head, nothing, some, bad, tok_of, TokenAt}

-- a word, with its length
abbrev pub worded : Result (Token × ℕ) WordCause → Head
worded (Ok p) = some (tok_of p.0) p.1
worded (Err e) = bad e

abbrev pub front_of : Result (Option (Token × ℕ)) WordCause → Head
front_of (Ok None) = nothing
front_of (Ok (Some p)) = some (tok_of p.0) p.1
front_of (Err e) = bad e

-- a token takes at least one byte, and no more than there are
abbrev pub Long : Result (Option (Token × ℕ)) WordCause → ℕ → Type 0
Long (Ok None) m = Unit {0}
Long (Ok (Some p)) m = (0 < p.1) × (p.1 ≤ m)
Long (Err e) m = Unit {0}

-- a name found begins where the text does
abbrev pub Lies : Result (Option (Token × ℕ)) WordCause → ℕ × ℕ → Type 0
Lies (Ok None) a = Unit {0}
Lies (Ok (Some p)) a = TokenAt p.0 a
Lies (Err e) a = Unit {0}
