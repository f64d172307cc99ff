-- The name at the end of a namespace, as it is found.
use Rattle.std.specs.Prelude.{ℕ, suc, if◌then◌else◌, List, [], ◌∷◌}
use Rattle.px_xmp_forms.specs.Labels.{is_name_start}

-- how many octets precede the first that a name can begin with
abbrev pub before_start : List ℕ → ℕ
before_start [] = 0
before_start (o ∷ x) = if is_name_start o then 0 else suc (before_start x)
