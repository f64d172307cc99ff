-- clap's view of a command that is built part by part.
use Rattle.std.proofs.Common.{◌≡◌, ◌∙◌, ◌||◌, Bool, true, false, ap, codes, refl, Result, Ok, Err, Some}
use Rattle.std.specs.Prelude.{IfOk, IsOkAnd}
use Rattle.std.specs.Borrow.{Bor}
use Rattle.std.specs.declared.alloc.AllocError.{AllocError}
use Rattle.clap.specs.Words.{AddsSubcommand, App, Rule, Shape, Text, app_of, new_app, new_rule, rule_of, shape_of, with_subcommand}
use Rattle.clap.specs.declared.builder.Arg.{Arg}
use Rattle.clap.specs.declared.builder.Command.{Command}
use Rattle.clap.specs.declared.builder.command.Command.TheOpen.{Command-F}
use Rattle.clap.specs.Simple.{app_of_fields}
use Rattle.clap.specs.declared.builder.Command.TheViews.{out-Command}
use Rattle.px_words.specs.Words.{bare, required}

-- a new argument that is made required
pub required_rule : (a b : Arg) (id : Text) → rule_of a ≡ new_rule id → b ≡ record a { required = true } → rule_of b ≡ required id
required_rule a b id new made = ap rule_of made ∙ ap (λ (r : Rule). record r { required = true }) new

-- an argument that is not global doesn't make a command global
pub or_false : (b : Bool) → (b || false) ≡ b
or_false true = refl
or_false false = refl

-- a subcommand that is known, and which was added
pub with_known : (command sub result : Result Command AllocError) (s : Shape) → IfOk sub (λ c. shape_of c ≡ s)
    → IfOk sub (λ c. (out-Command c).has_globals ≡ false)
    → IfOk result (λ c. IsOkAnd command (λ old. IsOkAnd sub (λ x. AddsSubcommand old x c)))
    → IfOk result (λ c. IsOkAnd command (λ old. app_of c ≡ with_subcommand (app_of old) s))
with_known command sub (Err e) s shape local adds = tt
with_known (Err e) sub (Ok c) s shape local adds = absurd adds
with_known (Ok old) (Err e) (Ok c) s shape local adds = absurd adds
with_known (Ok old) (Ok x) (Ok c) s shape local adds = adds.shape local ∙ ap (with_subcommand (app_of old)) shape

-- and of a command that is known
pub with_next : (command result : Result Command AllocError) (a : App) (s : Shape) → IfOk command (λ c. app_of c ≡ a)
    → IfOk result (λ c. IsOkAnd command (λ old. app_of c ≡ with_subcommand (app_of old) s))
    → IfOk result (λ c. app_of c ≡ with_subcommand a s)
with_next command (Err e) a s is adds = tt
with_next (Err e) (Ok c) a s is adds = absurd adds
with_next (Ok old) (Ok c) a s is adds = adds ∙ ap (λ (b : App). with_subcommand b s) is

-- a text for help changes nothing that is read of a command
pub about_app : (old new : Command) (about : Bor Text) → out-Command new ≡ record (out-Command old) { about = Some about }
    → app_of new ≡ app_of old
about_app old new about is = ap app_of_fields is

pub about_local : (old new : Command) (about : Bor Text) → out-Command new ≡ record (out-Command old) { about = Some about }
    → (out-Command new).has_globals ≡ (out-Command old).has_globals
about_local old new about is = ap (λ (f : Command-F Command). f.has_globals) is

-- the settings of the command, each made of the one before
pub bare_app : (made versioned reported helped unnamed single needs named : Command) (version about help : Bor Text)
    → app_of made ≡ new_app (codes "exifnorm") → out-Command versioned ≡ record (out-Command made) { version = Some version }
    → out-Command reported ≡ record (out-Command versioned) { about = Some about }
    → out-Command helped ≡ record (out-Command reported) { after_help = Some help }
    → out-Command unnamed ≡ record (out-Command helped) { no_binary_name = true }
    → out-Command single ≡ record (out-Command unnamed) { disable_help_subcommand = true }
    → out-Command needs ≡ record (out-Command single) { subcommand_required = true }
    → out-Command named ≡ record (out-Command needs) { bin_name = (out-Command named).bin_name } → app_of named ≡ bare
bare_app made versioned reported helped unnamed single needs named version about help new h1 h2 h3 h4 h5 h6 h7 =
    let one = h2 ∙ ap (λ (f : Command-F Command). record f { about = Some about }) h1 in
    let two = h3 ∙ ap (λ (f : Command-F Command). record f { after_help = Some help }) one in
    let three = h4 ∙ ap (λ (f : Command-F Command). record f { no_binary_name = true }) two in
    let four = h5 ∙ ap (λ (f : Command-F Command). record f { disable_help_subcommand = true }) three in
    let five = h6 ∙ ap (λ (f : Command-F Command). record f { subcommand_required = true }) four in
    ap app_of_fields (h7 ∙ ap (λ (f : Command-F Command). record f { bin_name = (out-Command named).bin_name }) five) ∙ ap settings new
  where
    settings : App → App
    settings a = record a {
      top = record a.top {
        no_binary_name = true;
        has_version = true;
        disable_help_subcommand = true;
        subcommand_required = true;
      };
    }
