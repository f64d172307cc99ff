-- The table is held against the definition at each octet, by computing.
use Rattle.std.proofs.Common.{◌≡◌, ◌<◌, ℕ, true, nat_eq, get_or, List, refl, arith}
use Rattle.std.proofs.lemmas.Bool.{agree_below, agree_below_at}
use Rattle.px_xmp_text.specs.declared.normal.TheConstants.{PLAIN}
use Rattle.px_xmp_text.specs.calls.Appending.{is_plain}
use Rattle.px_xmp_text.proofs.normal.is_plain.Goals as goal

from_table : (table : List ℕ) (b : ℕ) → b < 256 → agree_below (λ k. nat_eq (get_or table k 0) 43) is_plain 256 ≡ true
    → nat_eq (get_or table b 0) 43 ≡ is_plain b
from_table table b l h = agree_below_at (λ k. nat_eq (get_or table k 0) 43) is_plain 256 b h l

pub returns : goal.returns
returns c = from_table PLAIN c.args.octet (omega arith) refl
