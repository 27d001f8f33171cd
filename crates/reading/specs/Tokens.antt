-- Which token comes next in a text, and where. Assumes nothing.
use Rattle.std.specs.Prelude.{◌≡◌, ℕ, ◌+◌, ◌<◌, ◌≤◌, Bool, false, cond, ◌&&◌, ◌||◌, List, [], ◌∷◌, take, drop, Some, None, Ok, Err, codes, Option, Result, ◌==◌, nat_lt}
use Rattle.std.specs.Char.{is_ascii_digit, is_ascii_lowercase}
use Rattle.std.specs.List.{prefix_len}
use Rattle.std.specs.Str.{bytes_eq}
use Rattle.reading.specs.declared.token.Token.{Token}
use Rattle.reading.specs.declared.token.Token.TheVariants.{Open, Close, And, Or, Implies, Until, Not, Next, Always, Eventually, True, False, Name}
use Rattle.reading.specs.declared.token.Placed.{Placed}
use Rattle.faults.specs.declared.causes.WordCause.{WordCause}
use Rattle.faults.specs.declared.causes.WordCause.TheVariants.{NoToken, LongWord}
use Rattle.faults.specs.declared.fault.Fault.{Fault}

-- a token by its meaning: a name is its bytes
pub data Tok : Type 0 where
  open' close' and' or' implies' until' not' next' always' eventually' true' false' : Tok
  name' : List ℕ → Tok

abbrev pub tok_of : Token → Tok
tok_of Open = open'
tok_of Close = close'
tok_of And = and'
tok_of Or = or'
tok_of Implies = implies'
tok_of Until = until'
tok_of Not = not'
tok_of Next = next'
tok_of Always = always'
tok_of Eventually = eventually'
tok_of True = true'
tok_of False = false'
tok_of (Name s) = name' s.now

abbrev pub is_blank : ℕ → Bool
is_blank b = b == 32 || b == 10

abbrev pub lower_byte : ℕ → Bool
lower_byte b = is_ascii_lowercase b

abbrev pub word_byte : ℕ → Bool
word_byte b = is_ascii_lowercase b || is_ascii_digit b || b == 95

-- the token of one byte that a byte is
abbrev pub symbol_of : ℕ → Option Token
symbol_of c = cond (c == 40) (Some Open) (cond (c == 41) (Some Close) (cond (c == 38) (Some And) (cond (c == 124) (Some Or) None)))

-- the token that a word is
abbrev pub word_of : List ℕ → Tok
word_of w =
    cond (bytes_eq w (codes "not")) not'
    (cond (bytes_eq w (codes "next")) next'
    (cond (bytes_eq w (codes "always")) always'
    (cond (bytes_eq w (codes "eventually")) eventually'
    (cond (bytes_eq w (codes "until")) until'
    (cond (bytes_eq w (codes "true")) true'
    (cond (bytes_eq w (codes "false")) false' (name' w)))))))

-- what stands at the front of a text
pub data Head : Type 0 where
  nothing : Head
  -- a token and its length
  some : Tok → ℕ → Head
  bad : WordCause → Head

abbrev pub word : List ℕ → ℕ → Head
word s n = cond (nat_lt 16 n) (bad LongWord) (some (word_of (take n s)) n)

abbrev pub marked : Option Token → Head
marked (Some t) = some (tok_of t) 1
marked None = bad NoToken

abbrev pub arrow : ℕ → List ℕ → Bool
arrow b [] = false
arrow b (c ∷ cs) = b == 45 && c == 62

-- of a text that begins with no blank
abbrev pub classify : List ℕ → Head
classify [] = nothing
classify (b ∷ bs) = cond (arrow b bs) (some implies' 2) (cond (lower_byte b) (word (b ∷ bs) (prefix_len word_byte (b ∷ bs))) (marked (symbol_of b)))

-- what comes next in a text
pub data Lexed : Type 0 where
  -- the end, where the cursor then stands
  finished : ℕ → Lexed
  -- a token, its place, and where the cursor stands after it
  token : Tok → ℕ → ℕ → Lexed
  -- a refusal and its place
  refused : WordCause → ℕ → Lexed

-- a front that stands at p
abbrev pub placed : ℕ → Head → Lexed
placed p nothing = finished p
placed p (some t n) = token t p (p + n)
placed p (bad e) = refused e p

abbrev pub lex_from : List ℕ → ℕ → Lexed
lex_from text p = placed p (classify (drop p text))

abbrev pub lex : List ℕ → ℕ → Lexed
lex text at = lex_from text (at + prefix_len is_blank (drop at text))

-- what `next` answered, with the cursor after it
abbrev pub answer_of : Result (Option Placed) (Fault WordCause) → ℕ → Lexed
answer_of (Ok None) after = finished after
answer_of (Ok (Some p)) after = token (tok_of p.token) p.place after
answer_of (Err e) after = refused e.cause e.place

-- a token lies between the cursor before and the cursor after, and a refusal leaves the cursor
abbrev pub Moves : Result (Option Placed) (Fault WordCause) → ℕ → ℕ → Type 0
Moves (Ok None) before after = before ≤ after
Moves (Ok (Some p)) before after = (before ≤ p.place) × (p.place < after)
Moves (Err e) before after = after ≡ before

-- a name's bytes lie at this address: a block of memory and an offset in it
abbrev pub TokenAt : Token → ℕ × ℕ → Type 0
TokenAt Open a = Unit {0}
TokenAt Close a = Unit {0}
TokenAt And a = Unit {0}
TokenAt Or a = Unit {0}
TokenAt Implies a = Unit {0}
TokenAt Until a = Unit {0}
TokenAt Not a = Unit {0}
TokenAt Next a = Unit {0}
TokenAt Always a = Unit {0}
TokenAt Eventually a = Unit {0}
TokenAt True a = Unit {0}
TokenAt False a = Unit {0}
TokenAt (Name s) a = s.ref_ptr ≡ a

-- a name is the part of the text that begins at the token's place
abbrev pub LiesAt : Result (Option Placed) (Fault WordCause) → ℕ × ℕ → Type 0
LiesAt (Ok None) a = Unit {0}
LiesAt (Ok (Some p)) a = TokenAt p.token (a.0, a.1 + p.place)
LiesAt (Err e) a = Unit {0}
