-- Whether a list is part of another one, from an offset on.
use Rattle.std.proofs.Common.{◌≡◌, ◌<◌, ◌+◌, ◌||◌, ◌∙◌, ap, sym, ℕ, nat_eq, List, length, drop}
use Rattle.std.proofs.lemmas.List.{drop_more, at_drop_more}
use Rattle.std.specs.List.{starts_with}
use Rattle.px_pictures.specs.Xmp.{has_part}

-- it begins at the offset, or is part of what follows
pub part_further : (w x : List ℕ) (n : ℕ) → n < length x
    → has_part w (drop n x) ≡ (starts_with nat_eq (drop n x) w || has_part w (drop (n + 1) x))
part_further w x n lt =
    at_drop_more (has_part w) x n 0 lt
    ∙ ap (λ y. starts_with nat_eq y w || has_part w (drop (n + 1) x)) (sym (drop_more x n 0 lt))
