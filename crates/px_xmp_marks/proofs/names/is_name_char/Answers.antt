-- The table is held against the definition at each octet, by computing.
use Rattle.std.proofs.Common.{◌≡◌, ◌<◌, ℕ, true, not, nat_eq, get_or, List, refl, arith}
use Rattle.std.proofs.lemmas.Bool.{agree_below, agree_below_at}
use Rattle.px_xmp_marks.specs.declared.names.TheConstants.{NAME_CHARS}
use Rattle.px_xmp_marks.specs.Reading.{is_name_char}
use Rattle.px_xmp_marks.proofs.names.is_name_char.Goals as goal

from_table : (table : List ℕ) (b : ℕ) → b < 256 → agree_below (λ k. not (nat_eq (get_or table k 0) 44)) is_name_char 256 ≡ true
    → not (nat_eq (get_or table b 0) 44) ≡ is_name_char b
from_table table b l h = agree_below_at (λ k. not (nat_eq (get_or table k 0) 44)) is_name_char 256 b h l

pub returns : goal.returns
returns c = from_table NAME_CHARS c.args.octet (omega arith) refl
