-- If a parse of the command has no error, it has matched a subcommand with each required argument.
use Rattle.std.proofs.Common.{◌≡◌, ◌||◌, ◌&&◌, Bool, true, false, not, List, [], ◌∷◌}
use Rattle.std.proofs.Common.{Option, Some, None, is_some, codes, refl, sym, ◌∙◌, inl, inr}
use Rattle.std.specs.Prelude.{find, option_map}
use Rattle.std.specs.Option.{option_map_or}
use Rattle.clap.specs.Walk.{Row, Text, answers_to, finished, nothing_held, rows_after, settled, walk, walk_from}
use Rattle.clap.specs.Simple.{App, Shape, built, built_leaf, entered, inherited}
use Rattle.clap.specs.Simple.{label_of, marked_built, names_of, rows_at, subcommand_of, with_leaf_noted}
use Rattle.clap.specs.Takes.{is_given}
use Rattle.clap.specs.Kinds.{Kinds, check_kinds, or_else}
use Rattle.clap.specs.Faults.{check_fault, defaults_fault, entered_fault, fault_of, level_fault, settle_fault, walk_fault}
use Rattle.px_words.specs.Words.{exifnorm, of_one, of_two}
use Rattle.px_words.specs.calls.Met.{IsMet, IsThere, takes_file}
use Rattle.px_words.proofs.matching.Rows.{Each, IsPlain, each_found, given_there}
use Rattle.px_words.proofs.matching.Walked.{rows_have}

-- if two steps have no error, neither has one
none_first : (a b : Kinds) → or_else a b ≡ [] → a ≡ []
none_first [] b none = refl
none_first (k ∷ ks) b none = cc

none_then : (a b : Kinds) → or_else a b ≡ [] → b ≡ []
none_then [] b none = none
none_then (k ∷ ks) b none = cc

-- the last checks of a subcommand with one required argument, and with two
one_given : (g : Bool) → check_kinds false false (not g || false) ≡ [] → g ≡ true
one_given true none = refl
one_given false none = cc

two_given : (g h : Bool) → check_kinds false false (not g || (not h || false)) ≡ [] → (g ≡ true) × (h ≡ true)
two_given true true none = (refl, refl)
two_given true false none = cc
two_given false h none = cc

-- and of the command, which needs a subcommand
one_met : (has : Bool) (rest : Bool) → check_kinds (not has && false) (not has && true) rest ≡ [] → has ≡ true
one_met true rest none = refl
one_met false rest none = cc

-- the last checks of a subcommand are part of its fault
level_checked : (s : Shape) (words : List Text) → level_fault s [] nothing_held words false [] ≡ []
    → check_fault s (rows_after s.rules [] words) false ≡ []
level_checked s words none =
    let end = (walk s.rules [] nothing_held words).held in
    let settles = settle_fault s.rules s.args_override_self end in
    let defaults = defaults_fault (settled s.rules end).rows s.rules in
    let checks = check_fault s (rows_after s.rules [] words) false in
    none_then defaults checks (none_then settles (or_else defaults checks)
    (none_then (walk_fault s [] (walk_from nothing_held) words) (or_else settles (or_else defaults checks)) none))

module _ (s : Shape) (each : Each IsPlain s.rules) where
  -- one argument is required
  there : (id : Text) → ((rows : List Row) → check_fault s rows false ≡ check_kinds false false (not (is_given id rows) || false))
      → (words : List Text) → level_fault s [] nothing_held words false [] ≡ [] → IsThere id (rows_after s.rules [] words)
  there id last words none =
      let rows = rows_after s.rules [] words in
      given_there id rows (rows_have s.rules each words) (one_given (is_given id rows) (sym (last rows) ∙ level_checked s words none))

  -- two must
  both_there : (first second : Text)
      → ((rows : List Row)
      → check_fault s rows false ≡ check_kinds false false (not (is_given first rows) || (not (is_given second rows) || false)))
      → (words : List Text) → level_fault s [] nothing_held words false [] ≡ []
      → IsThere first (rows_after s.rules [] words) × IsThere second (rows_after s.rules [] words)
  both_there first second last words none =
      let rows = rows_after s.rules [] words in
      let have = rows_have s.rules each words in
      let given = two_given (is_given first rows) (is_given second rows) (sym (last rows) ∙ level_checked s words none) in
      (given_there first rows have given.0, given_there second rows have given.1)

-- the subcommand has its arguments if it has no error
abbrev IsWhole : Shape → Type 0
IsWhole s = (words : List Text) → level_fault s [] nothing_held words false [] ≡ [] → IsMet (Some (rows_at s words))

-- as it is built under the command
abbrev below : Shape → Shape
below s = built_leaf (inherited (with_leaf_noted (marked_built exifnorm.top)) s)

one_plain : (name : Text) → Each IsPlain (below (of_one name)).rules
one_plain name = ((refl, inl (refl, refl)), ((refl, inr (refl, refl)), tt))

two_plain : (name first second : Text) → Each IsPlain (below (of_two name first second)).rules
two_plain name first second = ((refl, inl (refl, refl)), ((refl, inl (refl, refl)), ((refl, inr (refl, refl)), tt)))

one_whole : (name : Text) → takes_file name ≡ true → IsWhole (below (of_one name))
one_whole name is words none = inl (is, there (below (of_one name)) (one_plain name) (codes "FILE") (λ rows. refl) words none)

abbrev normalise_built : Shape
normalise_built = below (of_two (codes "normalise") (codes "FILE") (codes "OUT"))

normalise_whole : IsWhole normalise_built
normalise_whole words none =
    let plain = two_plain (codes "normalise") (codes "FILE") (codes "OUT") in
    let has = both_there normalise_built plain (codes "FILE") (codes "OUT") (λ rows. refl) words none in
    inr (inl (refl, has.0, has.1))

abbrev compare_built : Shape
compare_built = below (of_two (codes "compare") (codes "FIRST") (codes "SECOND"))

compare_whole : IsWhole compare_built
compare_whole words none =
    let plain = two_plain (codes "compare") (codes "FIRST") (codes "SECOND") in
    let has = both_there compare_built plain (codes "FIRST") (codes "SECOND") (λ rows. refl) words none in
    inr (inr (refl, has.0, has.1))

each_whole : Each IsWhole (built exifnorm).subs
each_whole = (
  one_whole (codes "show") refl,
  (
    one_whole (codes "check") refl,
    (
      one_whole (codes "captions") refl,
      (normalise_whole, (compare_whole, tt)),
    ),
  ),
)

-- the subcommand that the arguments select
found_met : (o : Option Shape) (words : List Text) → ((s : Shape) → o ≡ Some s → IsWhole s)
    → is_some (option_map (λ s. rows_at s words) o) ≡ true
    → option_map_or (λ s. level_fault s [] nothing_held words false []) o [] ≡ [] → IsMet (option_map (λ s. rows_at s words) o)
found_met None words whole some none = cc
found_met (Some s) words whole some none = whole s refl words none

entered_met : (a : App) → Each IsWhole a.subs → (stop : Option (Text × List Text)) → is_some (entered a stop) ≡ true
    → entered_fault a stop ≡ []
    → IsMet (entered a stop)
entered_met a each None some none = cc
entered_met a each (Some p) some none = found_met (find (λ s. answers_to p.0 (label_of s)) a.subs) p.1
    (λ s found. (each_found IsWhole (λ x. answers_to p.0 (label_of x)) a.subs s each found).0) some none

-- the command's own last checks
last_checks : (rows : List Row) (has : Bool)
    → check_fault (built exifnorm).top rows has ≡ check_kinds (not has && false) (not has && true) false
last_checks rows true = refl
last_checks rows false = refl

-- a parse without an error matched a subcommand with its arguments
pub requirement_met : (words : List Text) → fault_of exifnorm words ≡ [] → IsMet (subcommand_of exifnorm words)
requirement_met words none =
    let a = built exifnorm in
    let end = walk a.top.rules (names_of a) nothing_held words in
    let has = is_some (entered a end.stopped) in
    let below = entered_fault a end.stopped in
    let settles = settle_fault a.top.rules a.top.args_override_self end.held in
    let defaults = defaults_fault (settled a.top.rules end.held).rows a.top.rules in
    let checks = check_fault a.top (finished a.top.rules end.held) has in
    let after = or_else settles (or_else defaults checks) in
    let past = none_then (walk_fault a.top (names_of a) (walk_from nothing_held) words) (or_else below after) none in
    let last = none_then defaults checks (none_then settles (or_else defaults checks) (none_then below after past)) in
    entered_met a each_whole end.stopped (one_met has false (sym (last_checks (finished a.top.rules end.held) has) ∙ last))
    (none_first below after past)
