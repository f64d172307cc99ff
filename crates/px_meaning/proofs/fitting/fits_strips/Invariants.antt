use Rattle.std.proofs.Common.{◌≡◌, ◌<◌, ℕ, slice_get, Some, List}
use Rattle.px_meaning.specs.Writable.{IsBytes}
use Rattle.px_meaning.proofs.fitting.fits_strips.Given as goal

-- the strips so far are not too long
abbrev pub invariant-loop-i : goal.invariant-loop-i
invariant-loop-i l = (k : ℕ) (x : List ℕ) → k < l.i → slice_get l.strips k ≡ Some x → IsBytes x
