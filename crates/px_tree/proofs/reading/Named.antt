-- Directories at the offsets that name them.
use Rattle.std.proofs.Common.{◌≡◌, ℕ, ◌+◌, List, [], ◌∷◌, ◌++◌, Option, Some, None, option_map, option_to_list, refl, sym, ap, ◌∙◌, subst}
use Rattle.std.specs.Prelude.{IfSome, option_and_then, unwrap_or}
use Rattle.px_bytes.specs.declared.Order.{Order}
use Rattle.px_bytes.specs.declared.Refusal.{Refusal}
use Rattle.px_bytes.specs.Range.{Range, Agrees}
use Rattle.px_bytes.specs.Checks.{Check, first_false, Refuses}
use Rattle.px_bytes.specs.lemmas.CheckLaws.{first_false_true, Refuses_more, Refuses_same}
use Rattle.px_meaning.specs.declared.Dir.{Dir}
use Rattle.px_meaning.specs.declared.Dir.TheVariants.{Main, Exif, Interop, Gps, Thumb}
use Rattle.px_tree.specs.declared.links.Link.{Link}
use Rattle.px_tree.specs.declared.links.Found.{Found}
use Rattle.px_tree.specs.declared.tables.Directory.{Directory}
use Rattle.px_tree.specs.declared.tree.MainDirectory.{MainDirectory}
use Rattle.px_meaning.specs.Roles.{exif_tag, gps_tag, interop_tag, record_tag}
use Rattle.px_meaning.specs.Entry.{Entry, fields, next, table, offset}
use Rattle.px_meaning.specs.Directory.{dir_at, main_at, fields_at, is_pointer, pointer, entries_at, unless_zero}
use Rattle.px_meaning.specs.Footprint.{dir_ranges, listed, ranges_at}
use Rattle.px_tree.specs.Checks.{named_at, pointer_place, dir_checks, checks_at, dirs_checks, dirs_claimed}
use Rattle.px_tree.specs.calls.Uses.{Sees, link_as, has_tag}
use Rattle.px_tree.specs.calls.Linked.{AreUsesAt, IsRead, Names, offsets_of, next_place}
use Rattle.px_tree.specs.calls.ReadTree.{others}

module _ (b : List ℕ) (o : Order) (d : Dir) where
  -- one that a link names
  module _ (link : Link) (n : Names b o d (Some link)) where
    pub some_checks : (earlier : List ℕ) (taken : List Range)
        → checks_at b o earlier taken d (dir_at b o d) ≡ dir_checks b o earlier taken link.place d link.at
    some_checks earlier taken =
        ap (λ (x : Option ℕ). checks_at b o earlier taken d x) (sym n.leads)
        ∙ ap (λ (q : ℕ). dir_checks b o earlier taken q d link.at) (sym n.place)

    pub some_ranges : ranges_at b o d ≡ dir_ranges b o link.at
    some_ranges = ap (λ (x : Option ℕ). listed (option_map (dir_ranges b o) x)) (sym n.leads)

    pub some_fields : fields_at b o d ≡ Some (fields b o d link.at)
    some_fields = ap (λ (x : Option ℕ). option_map (fields b o d) x) (sym n.leads)

-- ---- the directories after the main directory, one after another
module _ (b : List ℕ) (o : Order) (taken : List Range) where
  abbrev all_checks : List Check
  all_checks = dirs_checks b o (main_at b o ∷ []) taken others

  -- after the directories of the links, the checks of those left have the first fault of all, and in the end the same ranges are claimed
  pub record DirsSoFar (earlier : List (Option Link)) (ds : List Dir) (claimed : List (ℕ × ℕ)) : Type 0 where
    pub now : List Range
    pub agrees : Agrees now claimed
    pub faults : first_false (dirs_checks b o (offsets_of earlier) now ds) ≡ first_false all_checks
    pub ends : dirs_claimed b o now ds ≡ dirs_claimed b o taken others

  pub dirs_start : (link : Link) → link.at ≡ main_at b o → (claimed : List (ℕ × ℕ)) → Agrees taken claimed
      → DirsSoFar (Some link ∷ []) others claimed
  dirs_start link at claimed a = record {
    now = taken;
    agrees = a;
    faults = ap (λ (n : ℕ). first_false (dirs_checks b o (n ∷ []) taken others)) at;
    ends = refl;
  }

  module _ (earlier : List (Option Link)) (d : Dir) (ds : List Dir) (claimed : List (ℕ × ℕ)) (s : DirsSoFar earlier (d ∷ ds) claimed) where
    after : List ℕ
    after = option_to_list (dir_at b o d) ++ offsets_of earlier

    pub dirs_refuse : (r : Refusal) → Refuses r (checks_at b o (offsets_of earlier) s.now d (dir_at b o d))
        → Refuses r all_checks
    unfolding after
    dirs_refuse r h = Refuses_same r (dirs_checks b o (offsets_of earlier) s.now (d ∷ ds)) all_checks s.faults
        (Refuses_more r (checks_at b o (offsets_of earlier) s.now d (dir_at b o d)) (dirs_checks b o after (ranges_at b o d ++ s.now) ds)
        h)

    pub dirs_step : (link : Option Link) (new : List (ℕ × ℕ)) → Names b o d link
        → first_false (checks_at b o (offsets_of earlier) s.now d (dir_at b o d)) ≡ None → Agrees (ranges_at b o d ++ s.now) new
        → DirsSoFar (link ∷ earlier) ds new
    unfolding after
    dirs_step link new n h a = record {
      now = ranges_at b o d ++ s.now;
      agrees = a;
      faults =
          ap (λ (x : Option ℕ). first_false (dirs_checks b o (option_to_list x ++ offsets_of earlier) (ranges_at b o d ++ s.now) ds))
          n.leads
          ∙ sym (first_false_true (checks_at b o (offsets_of earlier) s.now d (dir_at b o d))
          (dirs_checks b o after (ranges_at b o d ++ s.now) ds) h)
          ∙ s.faults;
      ends = s.ends;
    }

  -- in the end
  pub dirs_clean : (earlier : List (Option Link)) (claimed : List (ℕ × ℕ)) → DirsSoFar earlier [] claimed
      → first_false all_checks ≡ None
  dirs_clean earlier claimed s = sym s.faults

  pub dirs_end : (earlier : List (Option Link)) (claimed : List (ℕ × ℕ)) → DirsSoFar earlier [] claimed → Agrees (dirs_claimed b o taken others) claimed
  dirs_end earlier claimed s = subst (λ (rs : List Range). Agrees rs claimed) s.ends s.agrees

-- ---- the links
module _ (b : List ℕ) (o : Order) where
  pub names_main : (k : Link) → k.at ≡ main_at b o → k.place ≡ 4 → Names b o Main (Some k)
  unfolding dir_at named_at
  names_main k h p = record { leads = ap (λ (x : ℕ). Some x) h; place = p }

  pub main_is : (k : Link) → Names b o Main (Some k) → k.at ≡ main_at b o
  unfolding dir_at
  main_is k n = let e : Some k.at ≡ Some (main_at b o) = n.leads in cc

  -- what is kept of the main directory has the record's entry
  pub main_directory_found : (t : MainDirectory) (m : Directory) → t.at ≡ m.at → t.iptc ≡ m.uses.iptc → AreUsesAt b o m
      → Sees b o (entries_at b o t.at) (t.at + 2) (has_tag record_tag) t.iptc
  main_directory_found t m at is u =
      subst (λ (a : ℕ). Sees b o (entries_at b o a) (a + 2) (has_tag record_tag) t.iptc) (sym at)
      (subst (λ (x : Option Found). Sees b o (entries_at b o m.at) (m.at + 2) (has_tag record_tag) x) (sym is) u.iptc)

  -- where the pointer of tag t in the table at a leads, and its byte offset
  abbrev Follows : ℕ → Option Link → ℕ → Type 0
  Follows t link a = option_map (λ (l : Link). l.at) link ≡ pointer o t (entries_at b o a)

  abbrev Placed : ℕ → Option Link → ℕ → Type 0
  Placed t link a = IfSome link (λ l. l.place ≡ pointer_place b o a t)

  module _ (t a : ℕ) where
    seen_follows : (x : Option Found) → Sees b o (entries_at b o a) (a + 2) (is_pointer t) x → Follows t (option_map link_as x) a
    unfolding pointer
    seen_follows None h = sym (ap (λ (x : Option Entry). option_map (offset o) x) h)
    seen_follows (Some f) h = ap (λ (n : ℕ). Some n) h.shown.offset_is ∙ sym (ap (λ (x : Option Entry). option_map (offset o) x) h.is)

    seen_placed : (x : Option Found) → Sees b o (entries_at b o a) (a + 2) (is_pointer t) x → Placed t (option_map link_as x) a
    seen_placed None h = tt
    seen_placed (Some f) h = h.place

  module _ (link : Option Link) (a : ℕ) (at : a ≡ main_at b o) (x : Option Found) (is : link ≡ option_map link_as x) where
    pub names_exif : Sees b o (entries_at b o a) (a + 2) (is_pointer exif_tag) x → Names b o Exif link
    unfolding dir_at named_at
    names_exif s = record {
      leads = subst (Follows exif_tag link) at (subst (λ (k : Option Link). Follows exif_tag k a) (sym is) (seen_follows exif_tag a x s));
      place = subst (Placed exif_tag link) at (subst (λ (k : Option Link). Placed exif_tag k a) (sym is) (seen_placed exif_tag a x s));
    }

    pub names_gps : Sees b o (entries_at b o a) (a + 2) (is_pointer gps_tag) x → Names b o Gps link
    unfolding dir_at named_at
    names_gps s = record {
      leads = subst (Follows gps_tag link) at (subst (λ (k : Option Link). Follows gps_tag k a) (sym is) (seen_follows gps_tag a x s));
      place = subst (Placed gps_tag link) at (subst (λ (k : Option Link). Placed gps_tag k a) (sym is) (seen_placed gps_tag a x s));
    }

  abbrev FollowsIn : ℕ → Option Link → Option ℕ → Type 0
  FollowsIn t link x = option_map (λ (l : Link). l.at) link ≡ option_and_then (λ a. pointer o t (entries_at b o a)) x

  abbrev PlacedIn : ℕ → Option Link → Option ℕ → Type 0
  PlacedIn t link x = IfSome link (λ l. l.place ≡ pointer_place b o (unwrap_or x 0) t)

  -- the link to the Interoperability directory, by what was kept of the Exif directory
  abbrev interop_of : Option Directory → Option Link
  interop_of exif = option_and_then (λ (t : Directory). option_map link_as t.uses.interop) exif

  abbrev at_of : Option Directory → Option ℕ
  at_of exif = option_map (λ (t : Directory). t.at) exif

  interop_follows : (exif : Option Directory) → IfSome exif (AreUsesAt b o) → FollowsIn interop_tag (interop_of exif) (at_of exif)
  interop_follows None u = refl
  interop_follows (Some t) u = seen_follows interop_tag t.at t.uses.interop u.interop

  interop_placed : (exif : Option Directory) → IfSome exif (AreUsesAt b o) → PlacedIn interop_tag (interop_of exif) (at_of exif)
  interop_placed None u = tt
  interop_placed (Some t) u = seen_placed interop_tag t.at t.uses.interop u.interop

  pub names_interop : (link : Option Link) (exif : Option Directory) → IsRead b o Exif exif → link ≡ interop_of exif
      → Names b o Interop link
  unfolding dir_at named_at
  names_interop link exif r is = record {
    leads = subst (FollowsIn interop_tag link) r.offset_at (subst (λ (k : Option Link). FollowsIn interop_tag k (at_of exif)) (sym is)
        (interop_follows exif r.uses));
    place = subst (PlacedIn interop_tag link) r.offset_at (subst (λ (k : Option Link). PlacedIn interop_tag k (at_of exif)) (sym is)
        (interop_placed exif r.uses));
  }

  pub names_thumb : (link : Option Link) (a : ℕ) → a ≡ main_at b o
      → option_map (λ (l : Link). l.at) link ≡ unless_zero (next o (table b o a))
      → IfSome link (λ l. l.place ≡ next_place b o a) → Names b o Thumb link
  unfolding dir_at named_at
  names_thumb link a e h p = record {
    leads = subst (λ (x : ℕ). option_map (λ (l : Link). l.at) link ≡ unless_zero (next o (table b o x))) e h;
    place = subst (λ (x : ℕ). IfSome link (λ l. l.place ≡ next_place b o x)) e p;
  }
