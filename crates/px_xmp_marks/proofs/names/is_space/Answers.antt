-- The table is held against the definition at each octet, by computing.
use Rattle.std.proofs.Common.{◌≡◌, ◌<◌, ℕ, true, nat_eq, get_or, List, refl, arith}
use Rattle.std.proofs.lemmas.Bool.{agree_below, agree_below_at}
use Rattle.px_xmp_marks.specs.declared.names.TheConstants.{SPACES}
use Rattle.px_xmp_marks.specs.Reading.{is_space}
use Rattle.px_xmp_marks.proofs.names.is_space.Goals as goal

from_table : (table : List ℕ) (b : ℕ) → b < 256 → agree_below (λ k. nat_eq (get_or table k 0) 43) is_space 256 ≡ true
    → nat_eq (get_or table b 0) 43 ≡ is_space b
from_table table b l h = agree_below_at (λ k. nat_eq (get_or table k 0) 43) is_space 256 b h l

pub returns : goal.returns
returns c = from_table SPACES c.args.octet (omega arith) refl
