-- Ranges that share no byte with those claimed before them, nor with one another.
use Rattle.std.proofs.Common.{List, [], ◌∷◌, ◌++◌}
use Rattle.std.specs.List.{AllByRecursion}
use Rattle.px_bytes.specs.Range.{Range, Apart, AllApart}
use Rattle.px_bytes.specs.lemmas.EachLaws.{each_map, each_map₂, each_left, each_right, each_append}

pub apart_turned : (r s : Range) → Apart r s → Apart s r
apart_turned r s a p i j = a p j i

-- no range of rs shares a byte with a claimed range
abbrev pub Clear : List Range → List Range → Type 0
Clear claimed rs = AllByRecursion (λ r. AllByRecursion (Apart r) claimed) rs

pub record Fresh (claimed rs : List Range) : Type 0 where
  pub clear : Clear claimed rs
  pub apart : AllApart rs

clear_unturned : (r : Range) (claimed rs : List Range) → Clear (r ∷ claimed) rs → AllByRecursion (Apart r) rs
clear_unturned r claimed [] h = tt
clear_unturned r claimed (s ∷ rs) h = (apart_turned s r h.0.0, clear_unturned r claimed rs h.1)

pub fresh_cons : (claimed : List Range) (r : Range) (rs : List Range) → AllByRecursion (Apart r) claimed → Fresh (r ∷ claimed) rs
    → Fresh claimed (r ∷ rs)
fresh_cons claimed r rs a f = record {
  clear = (a, each_map (λ s. AllByRecursion (Apart s) (r ∷ claimed)) (λ s. AllByRecursion (Apart s) claimed) (λ s h. h.1) rs f.clear);
  apart = (clear_unturned r claimed rs f.clear, f.apart);
}

apart_append : (rs ss : List Range) → AllApart rs → AllApart ss → Clear rs ss → AllApart (rs ++ ss)
apart_append [] ss a b c = b
apart_append (r ∷ rs) ss a b c = (
  each_append (Apart r) rs ss a.0 (clear_unturned r rs ss c),
  apart_append rs ss a.1 b
      (each_map (λ s. AllByRecursion (Apart s) (r ∷ rs)) (λ s. AllByRecursion (Apart s) rs) (λ s h. h.1) ss c),
)

pub apart_left : (rs ss : List Range) → AllApart (rs ++ ss) → AllApart rs
apart_left [] ss h = tt
apart_left (r ∷ rs) ss h = (each_left (Apart r) rs ss h.0, apart_left rs ss h.1)

pub apart_right : (rs ss : List Range) → AllApart (rs ++ ss) → AllApart ss
apart_right [] ss h = h
apart_right (r ∷ rs) ss h = apart_right rs ss h.1

nothing_clear : (ss : List Range) → Clear [] ss
nothing_clear [] = tt
nothing_clear (s ∷ ss) = (tt, nothing_clear ss)

pub clear_across : (rs ss : List Range) → AllApart (rs ++ ss) → Clear rs ss
clear_across [] ss h = nothing_clear ss
clear_across (r ∷ rs) ss h = both ss (each_right (Apart r) rs ss h.0) (clear_across rs ss h.1)
  where
    both : (ss : List Range) → AllByRecursion (Apart r) ss → Clear rs ss → Clear (r ∷ rs) ss
    both [] h k = tt
    both (s ∷ ss) h k = ((apart_turned r s h.0, k.0), both ss h.1 k.1)

pub fresh_append : (claimed rs ss : List Range) → Fresh claimed rs → Fresh (rs ++ claimed) ss → Fresh claimed (rs ++ ss)
fresh_append claimed rs ss f g = record {
  clear = each_append (λ r. AllByRecursion (Apart r) claimed) rs ss f.clear (each_map (λ s. AllByRecursion (Apart s) (rs ++ claimed))
      (λ s. AllByRecursion (Apart s) claimed) (λ s h. each_right (Apart s) rs claimed h) ss g.clear);
  apart = apart_append rs ss f.apart g.apart (each_map (λ s. AllByRecursion (Apart s) (rs ++ claimed)) (λ s. AllByRecursion (Apart s) rs)
      (λ s h. each_left (Apart s) rs claimed h) ss g.clear);
}

pub fresh_left : (claimed rs ss : List Range) → Fresh claimed (rs ++ ss) → Fresh claimed rs
fresh_left claimed rs ss f = record { clear = each_left (λ r. AllByRecursion (Apart r) claimed) rs ss f.clear; apart = apart_left rs ss f.apart }

pub fresh_right : (claimed rs ss : List Range) → Fresh claimed (rs ++ ss) → Fresh (rs ++ claimed) ss
fresh_right claimed rs ss f = record {
  clear = each_map₂ (λ s. AllByRecursion (Apart s) rs) (λ s. AllByRecursion (Apart s) claimed) (λ s. AllByRecursion (Apart s) (rs ++ claimed))
      (λ s h k. each_append (Apart s) rs claimed h k) ss (clear_across rs ss f.apart)
      (each_right (λ r. AllByRecursion (Apart r) claimed) rs ss f.clear);
  apart = apart_right rs ss f.apart;
}

pub fresh_nil : (claimed : List Range) → Fresh claimed []
fresh_nil claimed = record { clear = tt; apart = tt }

pub fresh_all : (h : Range) (rs : List Range) → Fresh (h ∷ []) rs → AllApart (h ∷ rs)
fresh_all h rs f = (clear_unturned h [] rs f.clear, f.apart)
