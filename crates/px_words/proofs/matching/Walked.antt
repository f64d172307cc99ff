-- The walk over the arguments of a subcommand: each row that it keeps has values.
use Rattle.std.proofs.Common.{◌≡◌, ◌≢◌, ◌&&◌, ℕ, zero, suc, Bool, cond, true, false, not}
use Rattle.std.proofs.Common.{List, [], ◌∷◌, length, drop, Option, Some, None, is_some, refl, inl, inr}
use Rattle.std.specs.Prelude.{⊤, encode_utf8, slice_get}
use Rattle.std.specs.List.{fold}
use Rattle.std.specs.Str.{bytes_eq, chars}
use Rattle.clap.specs.Lexer.{long_of, short_of}
use Rattle.clap.specs.Walk.{Held, Outcome, Row, Rule, Step, Text, Waiting, Walk, action_of, after_flag, after_step, arg_by_id, arg_by_index}
use Rattle.clap.specs.Walk.{arg_by_long, arg_by_short, bundle_met, bundle_step, done, flag_met, has_long, has_short}
use Rattle.clap.specs.Walk.{idle, is_pending, long_met, long_or_other, next, nothing_held, option, option_word, plain}
use Rattle.clap.specs.Walk.{plain_word, positional, pushed, reacted, refused, rows_after, settled, settled_rows, short_met}
use Rattle.clap.specs.Walk.{short_or_plain, started, subcommand, subcommand_or_other, takes_several, takes_values}
use Rattle.clap.specs.Walk.{to_positional, trailing, used_by_id, value, waits, walk_from, walked, walked_from, with_default, word_met}
use Rattle.clap.specs.declared.builder.action.ArgAction.TheVariants.{Help}
use Rattle.px_words.proofs.matching.Rows.{Each, HaveValues, IsPlain, default_kept, each_found, pushed_some, used_kept}

-- an option that is pending has a value
abbrev pub HasWaiting : Option (Text × List Text) → Type 0
HasWaiting None = ⊤
HasWaiting (Some p) = p.1 ≢ []

abbrev pub IsWell : Held → Type 0
IsWell h = HaveValues h.rows × HasWaiting h.pending

-- a flag of a plain command requests help and takes no value
flag_only : (a : Rule) (named : Bool) → IsPlain a → (not (is_some a.index) && named) ≡ true
    → (action_of a ≡ Help) × (takes_values a ≡ false)
flag_only a named known test = elim known.1 [
  | inl p ↦ let bad : (not true && named) ≡ true = rw p.1 at test in cc
  | inr p ↦ p
]

pushed_well : (id word : Text) (h : Held) → IsWell h → IsWell (pushed id word h)
pushed_well id word h well = (well.0, pushed_some (started id h.pending).1 word)

-- an argument that is no flag
option_well : (o : Option Rule) (id word : Text) (h : Held) → IsWell h → IsWell (option_word o id word h).0
option_well None id word h well = well
option_well (Some a) id word h well = pushed_well id word h well

plain_well : (c : List Rule) (w : Waiting) (word : Text) (h : Held) → IsWell h → IsWell (plain_word c w word h).0
plain_well c (option id) word h well = option_well (arg_by_id c id) id word h well
plain_well c idle word h well = well
plain_well c positional word h well = well

flag_well : (c : List Rule) (w : Waiting) (word : Text) (h : Held) (o : Outcome) → IsWell h → IsWell (after_flag c w word h o).0
flag_well c w word h done well = well
flag_well c w word h (waits id) well = well
flag_well c w word h plain well = plain_well c w word h well
flag_well c w word h refused well = plain_well c w word h well

-- short flags in one argument, from any of them on
abbrev Goes : (Text → ℕ → Outcome → Held → Held × Outcome) → Type 0
Goes go = (flags : Text) (skip : ℕ) (so_far : Outcome) (h : Held) → IsWell h → IsWell (go flags skip so_far h).0

module _ (c : List Rule) (each : Each IsPlain c) where
  by_id : (id : Text) (a : Rule) → arg_by_id c id ≡ Some a → IsPlain a
  by_id id a found = (each_found IsPlain (λ x. bytes_eq x.id id) c a each found).0

  used_well : (o : Option Rule) (values : List Text) (rows : List Row) → ((a : Rule) → o ≡ Some a → IsPlain a) → values ≢ []
      → HaveValues rows
      → HaveValues (used_by_id o values rows)
  used_well None values rows is some h = h
  used_well (Some a) values rows is some h = used_kept a values rows (is a refl) (inl some) h

  rows_well : (p : Option (Text × List Text)) (rows : List Row) → HasWaiting p → HaveValues rows → HaveValues (settled_rows c p rows)
  rows_well None rows has h = h
  rows_well (Some p) rows has h = used_well (arg_by_id c p.0) p.1 rows (by_id p.0) has h

  settled_well : (h : Held) → IsWell h → IsWell (settled c h)
  settled_well h well = (rows_well h.pending h.rows well.1 well.0, tt)

  helped_well : (a : Rule) (h : Held) → IsPlain a → action_of a ≡ Help → IsWell h → IsWell (reacted c a [] h)
  helped_well a h known help well = (used_kept a [] (settled c h).rows known (inr help) (settled_well h well).0, tt)

  -- a long flag
  flag_met_well : (a : Rule) (v : Option Text) (h : Held) → IsPlain a → action_of a ≡ Help → IsWell h → IsWell (flag_met c a v h).0
  flag_met_well a None h known help well = helped_well a h known help well
  flag_met_well a (Some t) h known help well = well

  long_well : (name : Text) (o : Option Rule) (v : Option Text) (h : Held) → arg_by_long c name ≡ o → IsWell h → IsWell (long_met c o v h).0
  long_well name None v h found well = well
  long_well name (Some a) v h found well =
      let is = each_found IsPlain (λ x. not (is_some x.index) && has_long x name) c a each found in
      let flag = flag_only a (has_long a name) is.0 is.1 in
      rw flag.1 (flag_met_well a v h is.0 flag.0 well)

  -- short flags
  short_well : (x : ℕ) (o : Option Rule) (rest : Text) (h : Held) (go : Held → Held × Outcome) → arg_by_short c x ≡ o
      → ((k : Held) → IsWell k → IsWell (go k).0) → IsWell h → IsWell (short_met c o rest h go).0
  short_well x None rest h go found goes well = well
  short_well x (Some a) rest h go found goes well =
      let is = each_found IsPlain (λ y. not (is_some y.index) && has_short y x) c a each found in
      let flag = flag_only a (has_short a x) is.0 is.1 in
      rw flag.1 (goes (reacted c a [] h) (helped_well a h is.0 flag.0 well))

  step_well : (o : Option ℕ) (flags : Text) (skip : ℕ) (so_far : Outcome) (h : Held) (go : Text → ℕ → Outcome → Held → Held × Outcome)
      → Goes go → IsWell h
      → IsWell (bundle_step c o flags skip so_far h go).0
  step_well None flags skip so_far h go goes well = well
  step_well (Some x) flags zero so_far h go goes well = short_well x (arg_by_short c x) (drop (length (encode_utf8 x)) flags) h
      (go (drop (length (encode_utf8 x)) flags) 0 done) refl (goes (drop (length (encode_utf8 x)) flags) 0 done) well
  step_well (Some x) flags (suc skip) so_far h go goes well = goes (drop (length (encode_utf8 x)) flags) skip so_far h well

  bundle_well : (k : ℕ) → Goes (bundle_met c k)
  unfolding bundle_met
  bundle_well zero flags skip so_far h well = well
  bundle_well (suc k) flags skip so_far h well =
      step_well (slice_get (chars flags) 0) flags skip so_far h (bundle_met c k) (bundle_well k) well

  -- an argument, before it is positional
  short_or_well : (w : Waiting) (word : Text) (o : Option Text) (h : Held) → IsWell h → IsWell (short_or_plain c w word o h).0
  short_or_well w word None h well = plain_well c w word h well
  short_or_well w word (Some flags) h well =
      let met = bundle_met c (length flags) flags h.skip plain (record h { skip = 0 }) in
      flag_well c w word met.0 met.1 (bundle_well (length flags) flags h.skip plain (record h { skip = 0 }) well)

  long_or_well : (w : Waiting) (word : Text) (o : Option (Text × Option Text)) (h : Held) → IsWell h → IsWell (long_or_other c w word o h).0
  long_or_well w word None h well = short_or_well w word (short_of word) h well
  long_or_well w word (Some p) h well =
      let met = long_met c (arg_by_long c p.0) p.1 h in
      flag_well c w word met.0 met.1 (long_well p.0 (arg_by_long c p.0) p.1 h refl well)

  other_well : (w : Waiting) (position : ℕ) (word : Text) (h : Held) → IsWell h → IsWell (subcommand_or_other c None w position word h).0
  other_well w position word h well = go (bytes_eq word (45 ∷ 45 ∷ []))
    where
      go : (b : Bool) → IsWell (cond b (h, trailing position) (long_or_other c w word (long_of word) h)).0
      go true = well
      go false = long_or_well w word (long_of word) h well

  met_well : (is_trailing : Bool) (w : Waiting) (position : ℕ) (word : Text) (h : Held) → IsWell h
      → IsWell (word_met c [] is_trailing w position word h).0
  met_well true w position word h well = well
  met_well false idle position word h well = other_well idle position word h well
  met_well false (option id) position word h well = other_well (option id) position word h well
  met_well false positional position word h well = other_well positional position word h well

  -- a positional argument
  held_well : (b : Bool) (h : Held) → IsWell h → IsWell (cond b h (settled c h))
  held_well true h well = well
  held_well false h well = settled_well h well

  positional_well : (o : Option Rule) (word : Text) (w : Walk) (h : Held) → IsWell h → IsWell (to_positional c o word w h).held
  positional_well None word w h well = well
  positional_well (Some a) word w h well =
      let several = is_pending a h.pending && takes_several a in
      pushed_well a.id word (cond several h (settled c h)) (held_well several h well)

  after_well : (word : Text) (w : Walk) (h : Held) (s : Step) → IsWell h → IsWell (after_step c word w h s).held
  after_well word w h (next waiting) well = well
  after_well word w h (trailing position) well = well
  after_well word w h (subcommand name) well = well
  after_well word w h value well = positional_well (arg_by_index c w.position) word w h well

  from_well : (stop : Option (Text × List Text)) (w : Walk) (word : Text) → IsWell w.held → IsWell (walked_from c [] stop w word).held
  from_well (Some p) w word well = well
  from_well None w word well =
      let met = word_met c [] w.is_trailing w.waiting w.position word w.held in
      after_well word w met.0 met.1 (met_well w.is_trailing w.waiting w.position word w.held well)

  walked_well : (w : Walk) (word : Text) → IsWell w.held → IsWell (walked c [] w word).held
  unfolding walked
  walked_well w word well = from_well w.stopped w word well

  walk_well : (w : Walk) (words : List Text) → IsWell w.held → IsWell (fold (walked c []) w words).held
  walk_well w [] well = well
  walk_well w (word ∷ rest) well = walk_well (walked c [] w word) rest (walked_well w word well)

  -- after the walk
  defaults_well : (rows : List Row) (xs : List Rule) → Each IsPlain xs → HaveValues rows → HaveValues (fold with_default rows xs)
  defaults_well rows [] known h = h
  defaults_well rows (a ∷ rest) known h = defaults_well (with_default rows a) rest known.1 (default_kept rows a known.0 h)

  -- each row of a match of these arguments has a value
  pub rows_have : (words : List Text) → HaveValues (rows_after c [] words)
  rows_have words =
      let end = (fold (walked c []) (walk_from nothing_held) words).held in
      defaults_well (settled c end).rows c each (settled_well end (walk_well (walk_from nothing_held) words (tt, tt))).0
