-- Where a scan stands after a token. Assumes nothing.
use Rattle.std.specs.Prelude.{ℕ, true, false, List, Ok, Err, Result}
use Rattle.faults.specs.declared.causes.ReadingCause.{ReadingCause}
use Rattle.faults.specs.declared.fault.Fault.{Fault}
use Rattle.grammar.specs.declared.stand.Stand.{Stand}
use Rattle.grammar.specs.declared.stand.Stand.TheVariants.{Due, Ended}
use Rattle.grammar.specs.Limits.{Stream}
use Rattle.grammar.specs.Scan.{Verdict, refusal, scan}

-- how many `(` are open
abbrev pub depth_of : Stand → ℕ
depth_of (Due d) = d
depth_of (Ended d) = d

-- the verdict on what follows where the scan stands so
abbrev pub scan_at : List (List ℕ) → Stream → Stand → Verdict
scan_at names s (Due d) = scan names s true d
scan_at names s (Ended d) = scan names s false d

-- the verdict on what follows, or the refusal
abbrev pub goes_on : List (List ℕ) → Stream → Result Stand (Fault ReadingCause) → Verdict
goes_on names s (Ok at) = scan_at names s at
goes_on names s (Err e) = refusal e.cause e.place
