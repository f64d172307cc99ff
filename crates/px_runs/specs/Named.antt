-- Files whose bytes are known.
use Rattle.std.specs.Prelude.{◌≡◌, ◌≢◌, ◌⊎◌, ℕ, Option, Some, None, List, [], ◌∷◌, Result, Ok, Err}
use Rattle.std.specs.Borrow.{Bor}
use Rattle.px_engine.specs.declared.Fault.{Fault}
use Rattle.px_runs.specs.declared.named.NamedFile.{NamedFile}

-- the first file of that name has these bytes; None: no file has that name
abbrev pub HasFile : List NamedFile → List ℕ → Option (List ℕ) → Type 0
HasFile [] name x = x ≡ None
HasFile (f ∷ fs) name x = ((f.name.now ≡ name) × (x ≡ Some f.bytes.now)) ⊎ ((f.name.now ≢ name) × HasFile fs name x)

-- what opening the file of that name returns
abbrev pub IsOpened : List NamedFile → List ℕ → Result (Bor (List ℕ)) Fault → Type 0
IsOpened fs name (Ok reader) = HasFile fs name (Some reader.now)
IsOpened fs name (Err e) = HasFile fs name None
