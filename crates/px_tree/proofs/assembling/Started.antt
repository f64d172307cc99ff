-- The main directory that was read, and the checks of the directories after it.
use Rattle.std.proofs.Common.{◌≡◌, ◌++◌, ℕ, List, [], ◌∷◌, Option, Some, None, Result, Ok, Err, option_map, option_to_list}
use Rattle.std.proofs.Common.{refl, sym, ap, ◌∙◌, subst, Bool, true}
use Rattle.std.specs.Prelude.{IfOk, option_and_then}
use Rattle.px_bytes.specs.declared.Order.{Order}
use Rattle.px_bytes.specs.declared.Refusal.{Refusal}
use Rattle.px_bytes.specs.Range.{Range, Agrees, range}
use Rattle.px_bytes.specs.Checks.{Check, first_false, Refuses, Judges}
use Rattle.px_bytes.specs.lemmas.CheckLaws.{Refuses_more, Refuses_after, all_true}
use Rattle.px_tree.specs.declared.links.Link.{Link}
use Rattle.px_tree.specs.declared.links.Found.{Found}
use Rattle.px_tree.specs.declared.tables.Directory.{Directory}
use Rattle.px_tree.specs.declared.tree.Directories.{Directories}
use Rattle.px_meaning.specs.declared.Dir.{Dir}
use Rattle.px_meaning.specs.declared.Dir.TheVariants.{Main, Exif, Interop, Gps, Thumb}
use Rattle.px_meaning.specs.Entry.{fields, next, table}
use Rattle.px_meaning.specs.Directory.{dirs, dir_at, main_at, entries_at, pointer, unless_zero}
use Rattle.px_meaning.specs.Roles.{interop_tag}
use Rattle.px_meaning.specs.Footprint.{dir_ranges, listed}
use Rattle.px_meaning.specs.Iim.{Iim}
use Rattle.px_meaning.specs.Tree.{Fields}
use Rattle.px_meaning.specs.Says.{record_at, meaning}
use Rattle.px_tree.specs.Checks.{named_at, dir_checks, checks_at, dirs_checks, dirs_claimed, tree_checks}
use Rattle.px_tree.specs.calls.Reading.{HasTable}
use Rattle.px_tree.specs.calls.Uses.{link_as}
use Rattle.px_tree.specs.calls.Linked.{AreUsesAt, Names}
use Rattle.px_tree.specs.calls.ReadTree.{main_checks, main_claimed, others, IsReadMain, IsAlone, SeenTree}
use Rattle.px_tree.proofs.reading.Named.{main_is, names_exif, names_gps, names_thumb}
use Rattle.px_tree.proofs.assembling.Assembled.{dirs_refuse_tree, tree_true, whole, meaning_is}

module _ (b : List ℕ) (o : Order) where
  -- the claims after a table at n
  abbrev ClaimedAt : List (ℕ × ℕ) → ℕ → Type 0
  ClaimedAt claimed n = Agrees (dir_ranges b o n ++ range 0 8 ∷ []) claimed

  abbrev IsTableAt : Link → Directory → Type 0
  IsTableAt link t = (t.at ≡ link.at) × HasTable b o t.at t.count

  -- what reading the directory at the header's pointer gives
  pub main_judged : (keeps : Bool) (link : Link) → Names b o Main (Some link) → (r : Result Directory Refusal) (claimed : List (ℕ × ℕ))
      → Judges r (dir_checks b o [] (range 0 8 ∷ []) link.place Main link.at)
      (λ t. (keeps ≡ true → t.fields ≡ fields b o Main link.at) × ClaimedAt claimed link.at)
      → IfOk r (IsTableAt link) → IfOk r (AreUsesAt b o)
      → Judges r (main_checks b o) (λ t. IsReadMain b o keeps t × Agrees (main_claimed b o) claimed)
  unfolding named_at
  main_judged keeps link n (Ok t) claimed j there uses =
      let at = main_is b o link n in (
        subst (λ (p : ℕ). first_false (dir_checks b o [] (range 0 8 ∷ []) p Main (main_at b o)) ≡ None) n.place
            (subst (λ (a : ℕ). first_false (dir_checks b o [] (range 0 8 ∷ []) link.place Main a) ≡ None) at j.0),
        (
          record {
            offset_at = there.0 ∙ at;
            table = there.1;
            uses = uses;
            fields_are = λ kept. j.1.0 kept ∙ ap (λ (a : ℕ). fields b o Main a) at;
          },
          subst (ClaimedAt claimed) at j.1.1,
        ),
      )
  main_judged keeps link n (Err e) claimed j there uses =
      subst (λ (p : ℕ). Refuses e (dir_checks b o [] (range 0 8 ∷ []) p Main (main_at b o))) n.place
      (subst (λ (a : ℕ). Refuses e (dir_checks b o [] (range 0 8 ∷ []) link.place Main a)) (main_is b o link n) j)

  -- ---- all directories: the main directory, then the others
  abbrev header : List Range
  header = range 0 8 ∷ []

  abbrev of_others : List Check
  of_others = dirs_checks b o (main_at b o ∷ []) (main_claimed b o) others

  dirs_parts : dirs_checks b o [] header dirs ≡ main_checks b o ++ of_others
  unfolding dir_at named_at
  dirs_parts = refl

  claimed_parts : dirs_claimed b o (main_claimed b o) others ≡ dirs_claimed b o header dirs
  unfolding dir_at
  claimed_parts = refl

  pub main_refuses_tree : (r : Refusal) → Refuses r (main_checks b o) → Refuses r (tree_checks b o)
  main_refuses_tree r h = dirs_refuse_tree b o r (subst (Refuses r) (sym dirs_parts) (Refuses_more r (main_checks b o) of_others h))

  -- ---- a block with the main directory alone
  skipped : (earlier : List ℕ) (claimed : List Range) (d : Dir) (ds : List Dir) → None ≡ dir_at b o d
      → dirs_checks b o earlier claimed (d ∷ ds) ≡ dirs_checks b o earlier claimed ds
  skipped earlier claimed d ds e =
      ap (λ (x : Option ℕ). checks_at b o earlier claimed d x
      ++ dirs_checks b o (option_to_list x ++ earlier) (listed (option_map (dir_ranges b o) x) ++ claimed) ds) (sym e)

  no_interop : None ≡ dir_at b o Exif → None ≡ dir_at b o Interop
  unfolding dir_at
  no_interop e = ap (λ (x : Option ℕ). option_and_then (λ a. pointer o interop_tag (entries_at b o a)) x) e

  module _ (good : first_false (main_checks b o) ≡ None) where
    pub others_refuse_tree : (r : Refusal) → Refuses r of_others → Refuses r (tree_checks b o)
    others_refuse_tree r h =
        dirs_refuse_tree b o r (subst (Refuses r) (sym dirs_parts) (Refuses_after r (main_checks b o) of_others good h))

    all_dirs_true : first_false of_others ≡ None → first_false (dirs_checks b o [] header dirs) ≡ None
    all_dirs_true h = ap first_false dirs_parts ∙ all_true (main_checks b o) of_others good h

    -- what reading all directories gives
    pub whole_dirs : (keeps : Bool) (t : Directories) (claimed : List (ℕ × ℕ))
        → (first_false of_others ≡ None) × (SeenTree b o keeps t × Agrees (dirs_claimed b o (main_claimed b o) others) claimed)
        → (first_false (dirs_checks b o [] header dirs) ≡ None) × (SeenTree b o keeps t × Agrees (dirs_claimed b o header dirs) claimed)
    whole_dirs keeps t claimed j = (all_dirs_true j.0, (j.1.0, subst (λ (rs : List Range). Agrees rs claimed) claimed_parts j.1.1))

    -- no check of another directory is left
    pub alone_dirs : IsAlone b o → first_false (dirs_checks b o [] header dirs) ≡ None
    alone_dirs a =
        let xs = main_at b o ∷ [] in
        let claimed = main_claimed b o in
        let none : of_others ≡ [] =
        skipped xs claimed Exif (Interop ∷ Gps ∷ Thumb ∷ []) a.exif
        ∙ skipped xs claimed Interop (Gps ∷ Thumb ∷ []) (no_interop a.exif)
        ∙ skipped xs claimed Gps (Thumb ∷ []) a.gps
        ∙ skipped xs claimed Thumb [] a.thumb in
        all_dirs_true (ap first_false none)

    pub alone_true : IsAlone b o → first_false (tree_checks b o) ≡ None
    alone_true a = tree_true b o None a.thumb (alone_dirs a) refl

  -- no pointer of the main directory leads to another
  pub main_is_alone : (keeps : Bool) (t : Directory) → IsReadMain b o keeps t → t.uses.exif ≡ None → t.uses.gps ≡ None
      → None ≡ unless_zero (next o (table b o t.at)) → IsAlone b o
  main_is_alone keeps t r exif gps end =
      let link = λ (x : Option Found) (e : x ≡ None). sym (ap (λ (y : Option Found). option_map link_as y) e) in
      record {
        exif = (names_exif b o None t.at r.offset_at t.uses.exif (link t.uses.exif exif) r.uses.exif).leads;
        gps = (names_gps b o None t.at r.offset_at t.uses.gps (link t.uses.gps gps) r.uses.gps).leads;
        thumb = (names_thumb b o None t.at r.offset_at end tt).leads;
      }

  -- then the meaning is that of the main directory
  pub alone_meaning : IsAlone b o → (f : Fields) (i : Option Iim) → f ≡ fields b o Main (main_at b o) → i ≡ record_at b o (main_at b o)
      → whole b o f i None None None ≡ meaning b o
  alone_meaning a f i p q =
      let absent = λ (d : Dir) (e : None ≡ dir_at b o d). ap (λ (x : Option ℕ). option_map (fields b o d) x) e in
      meaning_is b o f i None None None None None None p q refl (absent Exif a.exif) (absent Interop (no_interop a.exif))
      (absent Gps a.gps) refl a.thumb
