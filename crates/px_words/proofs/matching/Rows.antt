-- Rows of a match, each with values, and the effect of using an argument on them.
use Rattle.std.proofs.Common.{◌≡◌, ◌≢◌, ◌⊎◌, ◌++◌, Bool, cond, true, false, List, [], ◌∷◌, Some, is_some, refl, subst, inl, inr}
use Rattle.std.specs.Prelude.{⊤, find, option_and_then, slice_get}
use Rattle.std.specs.Option.{option_map_or}
use Rattle.std.specs.Str.{bytes_eq}
use Rattle.clap.specs.Facts.{explicit_source}
use Rattle.clap.specs.Walk.{Row, Rule, Text, action_of, at_row, default_rows, first_of, has_row, more_values, reading_by}
use Rattle.clap.specs.Walk.{takes_values, used, used_as, with_default, with_values}
use Rattle.clap.specs.Takes.{is_given}
use Rattle.clap.specs.declared.builder.action.ArgAction.{ArgAction}
use Rattle.clap.specs.declared.builder.action.ArgAction.TheVariants.{Set, Help}
use Rattle.clap.specs.declared.builder.value_parser.Reading.{Reading}
use Rattle.clap.specs.declared.parser.matches.ValueSource.{ValueSource}
use Rattle.clap.specs.declared.parser.matches.ValueSource.TheVariants.{CommandLine}

-- each element passes
abbrev pub Each : {X : Type 0} → (X → Type 0) → List X → Type 0
Each P [] = ⊤
Each P (x ∷ xs) = P x × Each P xs

each_both : {X : Type 0} (P : X → Type 0) (xs ys : List X) → Each P xs → Each P ys → Each P (xs ++ ys)
each_both P [] ys p q = q
each_both P (x ∷ xs) ys p q = (p.0, each_both P xs ys p.1 q)

-- an element that is found passes the test
pub each_found : {X : Type 0} (P : X → Type 0) (test : X → Bool) (xs : List X) (y : X) → Each P xs → find test xs ≡ Some y
    → P y × (test y ≡ true)
each_found P test [] y p found = cc
each_found P test (x ∷ xs) y p found = go (test x) refl found (each_found P test xs y p.1)
  where
    go : (b : Bool) → test x ≡ b → cond b (Some x) (find test xs) ≡ Some y → (find test xs ≡ Some y → P y × (test y ≡ true))
        → P y × (test y ≡ true)
    go true is found rest = let same : x ≡ y = cc in (subst P same p.0, subst (λ z. test z ≡ true) same is)
    go false is found rest = rest found

-- a row with a value
abbrev pub HasValue : Row → Type 0
HasValue r = r.values ≢ []

abbrev pub HaveValues : List Row → Type 0
HaveValues = Each HasValue

append_not_empty : {X : Type 0} (xs ys : List X) → (xs ≢ []) ⊎ (ys ≢ []) → (xs ++ ys) ≢ []
append_not_empty [] ys (inl some) none = some refl
append_not_empty [] ys (inr some) none = some none
append_not_empty (x ∷ xs) ys h none = cc

-- a list with one more element at its end
pub pushed_some : {X : Type 0} (xs : List X) (x : X) → (xs ++ x ∷ []) ≢ []
pushed_some xs x = append_not_empty xs (x ∷ []) (inr (λ none. cc))

row_changed : (id : Text) (change : Row → List Row) (missing rows : List Row) → ((r : Row) → HasValue r → HaveValues (change r))
    → HaveValues missing
    → HaveValues rows → HaveValues (at_row id change missing rows)
row_changed id change missing [] changes made h = made
row_changed id change missing (r ∷ rs) changes made h = go (bytes_eq r.id id) (row_changed id change missing rs changes made h.1)
  where
    go : (b : Bool) → HaveValues (at_row id change missing rs) → HaveValues (cond b (change r ++ rs) (r ∷ at_row id change missing rs))
    go true rest = each_both HasValue (change r) rs (changes r h.0) h.1
    go false rest = (h.0, rest)

values_set : (id : Text) (how : Reading) (s : ValueSource) (values : List Text) (rows : List Row) → values ≢ [] → HaveValues rows
    → HaveValues (with_values id how s values rows)
values_set id how s values rows some h =
    row_changed id (more_values s values) _ rows (λ r has. (append_not_empty r.values values (inl has), tt)) (some, tt) h

-- an argument of the command's subcommands: a positional one with a value, or a request for help without
abbrev pub IsPlain : Rule → Type 0
IsPlain a = (a.defaults ≡ []) × (((action_of a ≡ Set) × (is_some a.index ≡ true)) ⊎ ((action_of a ≡ Help) × (takes_values a ≡ false)))

use_kept : (action : ArgAction) (id : Text) (how : Reading) (values : List Text) (rows : List Row)
    → ((action ≡ Set) × (values ≢ [])) ⊎ (action ≡ Help)
    → HaveValues rows → HaveValues (used_as action id how values rows)
use_kept action id how values rows (inl h) rest = rw h.0 (values_set id how CommandLine values (at_row id (λ _. []) [] rows) h.1
    (row_changed id (λ _. []) [] rows (λ r has. tt) tt rest))
use_kept action id how values rows (inr h) rest = rw h rest

-- a use with values, or a request for help, keeps a value in each row
pub used_kept : (a : Rule) (values : List Text) (rows : List Row) → IsPlain a → (values ≢ []) ⊎ (action_of a ≡ Help) → HaveValues rows
    → HaveValues (used a values rows)
used_kept a [] rows plain (inl some) rest = absurd (some refl)
used_kept a [] rows plain (inr help) rest = use_kept (action_of a) a.id (reading_by a) a.missing rows (inr help) rest
used_kept a (v ∷ vs) rows plain h rest = use_kept (action_of a) a.id (reading_by a) (v ∷ vs) rows
    (elim plain.1 [ inl p ↦ inl (p.0, λ none. cc) | inr p ↦ inr p.0 ]) rest

-- so does the default of an argument without one
pub default_kept : (rows : List Row) (a : Rule) → IsPlain a → HaveValues rows → HaveValues (with_default rows a)
default_kept rows a plain h = rw plain.0 (go (has_row a.id rows))
  where
    go : (b : Bool) → HaveValues (cond b rows (default_rows a.id (reading_by a) [] rows))
    go true = h
    go false = h

first_there : (values : List Text) → values ≢ [] → is_some (slice_get values 0) ≡ true
first_there [] some = absurd (some refl)
first_there (v ∷ vs) some = refl

-- an argument that was given has a value
pub given_there : (id : Text) (rows : List Row) → HaveValues rows → is_given id rows ≡ true → is_some (first_of id rows) ≡ true
given_there id [] h given = cc
given_there id (r ∷ rs) h given = go (bytes_eq r.id id) given (given_there id rs h.1)
  where
    go : (b : Bool) → option_map_or (λ (x : Row). explicit_source x.source) (cond b (Some r) (find (λ x. bytes_eq x.id id) rs)) false ≡ true
        → (is_given id rs ≡ true → is_some (first_of id rs) ≡ true)
        → is_some (option_and_then (λ (x : Row). slice_get x.values 0) (cond b (Some r) (find (λ x. bytes_eq x.id id) rs))) ≡ true
    go true is rest = first_there r.values h.0
    go false is rest = rest is
