-- A meaning, assembled from the parts that were read.
use Rattle.std.proofs.Common.{◌≡◌, ◌++◌, ℕ, List, [], ◌∷◌, Option, Some, None, option_map, map, refl, sym, ap, ap₂, ◌∙◌, subst}
use Rattle.std.specs.Prelude.{IfSome, option_and_then}
use Rattle.std.specs.List.{AllByRecursion}
use Rattle.px_bytes.specs.declared.Order.{Order}
use Rattle.px_bytes.specs.declared.Refusal.{Refusal}
use Rattle.px_bytes.specs.Range.{Range, range}
use Rattle.px_bytes.specs.Checks.{Check, first_false, Refuses}
use Rattle.px_bytes.specs.lemmas.CheckLaws.{Refuses_more, Refuses_after, all_true}
use Rattle.px_tree.specs.declared.tables.Directory.{Directory}
use Rattle.px_meaning.specs.declared.Dir.TheVariants.{Main, Exif, Interop, Gps, Thumb}
use Rattle.px_meaning.specs.Iim.{Iim}
use Rattle.px_meaning.specs.Tree.{Fields, ExifPart, Thumbnail, Meaning}
use Rattle.px_field.specs.Forms.{form_of}
use Rattle.px_meaning.specs.Roles.{record_tag}
use Rattle.px_meaning.specs.Entry.{Entry, raw, record_in, fields, IsEntry, IsDirectory}
use Rattle.px_meaning.specs.Directory.{dirs, dir_at, main_at, fields_at, entries_at, entry_with}
use Rattle.px_meaning.specs.Thumbnail.{bytes_of, jpeg_range, strip_ranges}
use Rattle.px_meaning.specs.Says.{record_at, exif_part, thumbnail, meaning}
use Rattle.px_tree.specs.Checks.{dirs_checks, dirs_claimed, thumb_checks_at, tree_checks}
use Rattle.px_tree.specs.calls.Linked.{IsRead}
use Rattle.px_tree.specs.calls.Parts.{IsReadThumb}
use Rattle.px_tree.proofs.assembling.Judged.{none_false, dirs_facts}

abbrev made : Fields → Option (List ℕ) → Option (List (List ℕ)) → Thumbnail
made f j s = record { fields = f; jpeg = j; strips = s }

pub thumbnail_is : (b : List ℕ) (o : Order) (a : ℕ) (f : Fields) (j : Option (List ℕ)) (s : Option (List (List ℕ)))
    → f ≡ fields b o Thumb a → j ≡ option_map (bytes_of b) (jpeg_range o (entries_at b o a))
    → s ≡ option_map (map (bytes_of b)) (strip_ranges b o (entries_at b o a))
    → made f j s ≡ thumbnail b o a
unfolding thumbnail
thumbnail_is b o a f j s p q r =
    ap (λ (f : Fields). made f j s) p
    ∙ ap₂ (λ (j : Option (List ℕ)) (s : Option (List (List ℕ))). made (fields b o Thumb a) j s) q r

-- ---- the directories that were read

module _ (b : List ℕ) (o : Order) where
  pub thumb_read : (t : Option Directory) → IsRead b o Thumb t → option_map (λ (t : Directory). t.fields) t ≡ fields_at b o Thumb
      → IfSome (dir_at b o Thumb) (IsDirectory b o Thumb) → IfSome t (IsReadThumb b o)
  thumb_read None r f i = tt
  thumb_read (Some t) r f i =
      let d = subst (λ (x : Option ℕ). IfSome x (IsDirectory b o Thumb)) (sym r.offset_at) i in
      let e : Some t.fields ≡ Some (fields b o Thumb t.at) = f ∙ ap (λ (x : Option ℕ). option_map (fields b o Thumb) x) (sym r.offset_at) in
      record { table = r.table; each = d.each; uses = r.uses; fields_are = (let q : t.fields ≡ fields b o Thumb t.at = cc in q) }

  pub main_each : (a : ℕ) → a ≡ main_at b o → IfSome (dir_at b o Main) (IsDirectory b o Main)
      → AllByRecursion (IsEntry b o Main) (entries_at b o a)
  unfolding dir_at
  main_each a e i = subst (λ (x : ℕ). AllByRecursion (IsEntry b o Main) (entries_at b o x)) (sym e) i.each

  -- ---- the checks of the tree
  abbrev header : List Range
  header = range 0 8 ∷ []

  abbrev of_dirs : List Check
  of_dirs = dirs_checks b o [] header dirs

  abbrev of_thumb : Option ℕ → List Check
  of_thumb a = thumb_checks_at b o (dirs_claimed b o header dirs) a

  tree-parts : tree_checks b o ≡ of_dirs ++ of_thumb (dir_at b o Thumb)
  unfolding tree_checks
  tree-parts = refl

  pub dirs_refuse_tree : (r : Refusal) → Refuses r of_dirs → Refuses r (tree_checks b o)
  dirs_refuse_tree r h = subst (Refuses r) (sym tree-parts) (Refuses_more r of_dirs (of_thumb (dir_at b o Thumb)) h)

  module _ (a : Option ℕ) (at : a ≡ dir_at b o Thumb) (good : first_false of_dirs ≡ None) where
    pub thumb_refuses_tree : (r : Refusal) → Refuses r (of_thumb a) → Refuses r (tree_checks b o)
    thumb_refuses_tree r h =
        subst (Refuses r) (sym tree-parts) (Refuses_after r of_dirs (of_thumb (dir_at b o Thumb)) good
        (subst (λ (x : Option ℕ). Refuses r (of_thumb x)) at h))

    pub tree_true : first_false (of_thumb a) ≡ None → first_false (tree_checks b o) ≡ None
    tree_true h =
        ap first_false tree-parts ∙ all_true of_dirs (of_thumb (dir_at b o Thumb)) good
        (subst (λ (x : Option ℕ). first_false (of_thumb x) ≡ None) at h)

  -- each directory is in order
  pub all_in_order : first_false of_dirs ≡ None → AllByRecursion (λ d. IfSome (dir_at b o d) (IsDirectory b o d)) dirs
  all_in_order h = (dirs_facts b o [] header dirs (none_false of_dirs h)).0

  -- ---- the meaning

  abbrev pub whole : Fields → Option Iim → Option ExifPart → Option Fields → Option Thumbnail → Meaning
  whole f i e g t = record { main = f; iptc = i; exif = e; gps = g; thumb = t }

  abbrev with_interop : Option Fields → Fields → ExifPart
  with_interop i f = record { fields = f; interop = i }

  part-is : (a : Option ℕ) → option_map (with_interop (fields_at b o Interop)) (option_map (fields b o Exif) a) ≡ option_map
      (exif_part b o) a
  unfolding exif_part
  part-is None = refl
  part-is (Some a) = refl

  pub meaning_is : (f : Fields) (i : Option Iim) (e : Option ExifPart) (g : Option Fields) (t : Option Thumbnail) (x y : Option Fields)
      (a : Option ℕ)
      → f ≡ fields b o Main (main_at b o) → i ≡ record_at b o (main_at b o)
      → e ≡ option_map (with_interop y) x → x ≡ fields_at b o Exif → y ≡ fields_at b o Interop
      → g ≡ fields_at b o Gps → t ≡ option_map (thumbnail b o) a → a ≡ dir_at b o Thumb
      → whole f i e g t ≡ meaning b o
  unfolding meaning
  meaning_is f i e g t x y a p q r rx ry s u ua =
      ap (λ (f : Fields). whole f i e g t) p
      ∙ ap₂ (λ (i : Option Iim) (e : Option ExifPart). whole (fields b o Main (main_at b o)) i e g t) q (r
      ∙ ap₂ (λ (y x : Option Fields). option_map (with_interop y) x) ry rx ∙ part-is (dir_at b o Exif))
      ∙ ap₂ (λ (g : Option Fields) (t : Option Thumbnail). whole (fields b o Main (main_at b o)) (record_at b o (main_at b o))
      (option_map (exif_part b o) (dir_at b o Exif)) g t) s (u ∙ ap (λ (a : Option ℕ). option_map (thumbnail b o) a) ua)

-- ---- the record

pub record_is : (b : List ℕ) (o : Order) (a : ℕ) (x : Option Entry) → entry_with record_tag (entries_at b o a) ≡ x
    → record_at b o a ≡ option_and_then (λ e. option_and_then (λ f. record_in f (raw b o e)) (form_of e.code)) x
unfolding record_at
record_is b o a x h = ap (λ (y : Option Entry). option_and_then (λ e. option_and_then (λ f. record_in f (raw b o e)) (form_of e.code)) y) h
