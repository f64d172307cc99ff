use Rattle.std.proofs.Common.{◌≡◌, ◌<◌, ℕ, slice_get, Some}
use Rattle.px_field.specs.Values.{Value}
use Rattle.px_meaning.specs.Writable.{IsWritableField}
use Rattle.px_meaning.proofs.fitting.fits_fields.Given as goal

-- the fields so far are allowed
abbrev pub invariant-loop-i : goal.invariant-loop-i
invariant-loop-i l = (k : ℕ) (p : ℕ × Value) → k < l.i → slice_get l.fields k ≡ Some p → IsWritableField l.dir p
