-- What was kept while a table is judged is what is found in it.
use Rattle.std.proofs.Common.{◌≡◌, ◌<◌, ◌≤◌, ℕ, suc, ◌+◌, ◌==◌, ◌&&◌, Bool, true, false, Option, Some, None, List, length, inl, inr, refl}
use Rattle.std.proofs.Common.{sym, ap, ◌∙◌, subst, arith, eqb-true}
use Rattle.std.specs.Prelude.{find}
use Rattle.std.proofs.lemmas.Bool.{cases_Bool, cond-true, cond-false, and_parts}
use Rattle.px_bytes.specs.declared.Order.{Order}
use Rattle.px_bytes.specs.Parts.{part}
use Rattle.px_tree.specs.declared.entries.Head.{Head}
use Rattle.px_tree.specs.declared.links.Found.{Found}
use Rattle.px_tree.specs.declared.uses.Uses.{Uses}
use Rattle.px_meaning.specs.Roles.{exif_tag, gps_tag, interop_tag, record_tag, jpeg_offset_tag, jpeg_length_tag, strip_offsets_tag}
use Rattle.px_meaning.specs.Roles.{strip_lengths_tag}
use Rattle.px_meaning.specs.Entry.{Entry, entry}
use Rattle.px_meaning.specs.Directory.{is_pointer}
use Rattle.px_tree.specs.Checks.{place_of}
use Rattle.px_tree.specs.calls.Reading.{Shows, Follows, bare, entries_from}
use Rattle.px_tree.specs.calls.Uses.{IsFirst, Sees, AreUses, NoUses, Keeps, kept, has_tag}
use Rattle.px_tree.proofs.reading.Pointers.{find_pass, place_pass, find_here, place_here, find_none, test_same}

-- an entry that passes has the tag
abbrev Tagged : (Entry → Bool) → ℕ → Type 0
Tagged test t = (e : Entry) → test e ≡ true → e.tag ≡ t

pub pointer_tagged : (t : ℕ) → Tagged (is_pointer t) t
pointer_tagged t e h = eqb-true e.tag t (and_parts (e.tag == t) ((e.code == 4) && (e.count == 1)) h).0

pub tag_tagged : (t : ℕ) → Tagged (has_tag t) t
tag_tagged t e h = eqb-true e.tag t h

-- a test goes by what the head shows
abbrev Reads : Order → (Entry → Bool) → Type 0
Reads o test = (h : Head) (e : Entry) → Shows o h e → test (bare h) ≡ test e

pub tag_reads : (o : Order) (t : ℕ) → Reads o (has_tag t)
tag_reads o t h e s = ap (λ (x : ℕ). x == t) s.tag

module _ (b : List ℕ) (o : Order) (start count : ℕ) where
  abbrev all : List Entry
  all = entries_from b o start count

  -- the entry that was kept is the first, and each tag that may follow is above it; or those left have the first of all
  abbrev pub SeesSoFar : (Entry → Bool) → ℕ → Option Found → ℕ → Option ℕ → ℕ → Type 0
  SeesSoFar test t None at before left =
      (find test (entries_from b o at left) ≡ find test all)
      × (place_of test at (entries_from b o at left) ≡ place_of test start all)
  SeesSoFar test t (Some f) at before left = IsFirst b o all start test f × ((s : ℕ) → Follows before s → t < s)

  module _ (test : Entry → Bool) (t : ℕ) where
    sees_start : (x : Option Found) → x ≡ None → SeesSoFar test t x start None count
    sees_start x e = subst (λ (y : Option Found). SeesSoFar test t y start None count) (sym e) (refl, refl)

    sees_end : (x : Option Found) (at : ℕ) (before : Option ℕ) (n : ℕ) → n ≡ 0 → SeesSoFar test t x at before n → Sees b o all start test x
    sees_end None at before n z s = sym s.0 ∙ find_none b o test at n z
    sees_end (Some f) at before n z s = s.0

  module _ (at n m : ℕ) (before : Option ℕ) (more : n ≡ suc m) (inside : at + 12 ≤ length b) (h : Head)
      (shows : Shows o h (entry o (part b at 12))) (follows : Follows before h.tag) where
    abbrev e : Entry
    e = entry o (part b at 12)

    abbrev here : Found
    here = record { head = h; place = at }

    module _ (test : Entry → Bool) (t : ℕ) (tagged : Tagged test t) (reads : Reads o test) where
      -- one that passes comes when none was kept
      taken : (x : Option Found) → SeesSoFar test t x at before n → test e ≡ true → SeesSoFar test t (Some here) (at + 12) (Some h.tag) m
      taken None s p = (
        record {
          is = sym s.0 ∙ find_here b o test at n m more p;
          place = sym (place_here b o test at n m more p) ∙ s.1;
          shown = shows;
          inside = inside;
        },
        (let q : h.tag ≡ t = shows.tag ∙ tagged e p in λ u l. omega arith),
      )
      taken (Some f) s p = let q : h.tag ≡ t = shows.tag ∙ tagged e p in let l = s.1 h.tag follows in absurd (omega arith)

      passed : (x : Option Found) → SeesSoFar test t x at before n → test e ≡ false → SeesSoFar test t x (at + 12) (Some h.tag) m
      passed None s p = (sym (find_pass b o test at n m more p) ∙ s.0, sym (place_pass b o test at n m more p) ∙ s.1)
      passed (Some f) s p = (s.0, (let l = s.1 h.tag follows in λ u k. omega arith))

      sees_step : (x new : Option Found) → SeesSoFar test t x at before n → new ≡ kept test here x
          → SeesSoFar test t new (at + 12) (Some h.tag) m
      sees_step x new s is = elim (cases_Bool (test (bare h))) [
        | inl p ↦ subst (λ (y : Option Found). SeesSoFar test t y (at + 12) (Some h.tag) m)
            (sym (is ∙ cond-true (test (bare h)) (Some here) x p)) (taken x s (sym (reads h e shows) ∙ p))
        | inr p ↦ subst (λ (y : Option Found). SeesSoFar test t y (at + 12) (Some h.tag) m)
            (sym (is ∙ cond-false (test (bare h)) (Some here) x p)) (passed x s (sym (reads h e shows) ∙ p))
      ]

  -- ---- all that are kept
  pub record UsesSoFar (u : Uses) (at : ℕ) (before : Option ℕ) (left : ℕ) : Type 0 where
    pub exif : SeesSoFar (is_pointer exif_tag) exif_tag u.exif at before left
    pub gps : SeesSoFar (is_pointer gps_tag) gps_tag u.gps at before left
    pub interop : SeesSoFar (is_pointer interop_tag) interop_tag u.interop at before left
    pub iptc : SeesSoFar (has_tag record_tag) record_tag u.iptc at before left
    pub jpeg_offset : SeesSoFar (has_tag jpeg_offset_tag) jpeg_offset_tag u.jpeg_offset at before left
    pub jpeg_length : SeesSoFar (has_tag jpeg_length_tag) jpeg_length_tag u.jpeg_length at before left
    pub strip_offsets : SeesSoFar (has_tag strip_offsets_tag) strip_offsets_tag u.strip_offsets at before left
    pub strip_lengths : SeesSoFar (has_tag strip_lengths_tag) strip_lengths_tag u.strip_lengths at before left

  pub uses_start : (u : Uses) → NoUses u → UsesSoFar u start None count
  uses_start u n = record {
    exif = sees_start (is_pointer exif_tag) exif_tag u.exif n.exif;
    gps = sees_start (is_pointer gps_tag) gps_tag u.gps n.gps;
    interop = sees_start (is_pointer interop_tag) interop_tag u.interop n.interop;
    iptc = sees_start (has_tag record_tag) record_tag u.iptc n.iptc;
    jpeg_offset = sees_start (has_tag jpeg_offset_tag) jpeg_offset_tag u.jpeg_offset n.jpeg_offset;
    jpeg_length = sees_start (has_tag jpeg_length_tag) jpeg_length_tag u.jpeg_length n.jpeg_length;
    strip_offsets = sees_start (has_tag strip_offsets_tag) strip_offsets_tag u.strip_offsets n.strip_offsets;
    strip_lengths = sees_start (has_tag strip_lengths_tag) strip_lengths_tag u.strip_lengths n.strip_lengths;
  }

  pub uses_end : (u : Uses) (at : ℕ) (before : Option ℕ) (n : ℕ) → n ≡ 0 → UsesSoFar u at before n → AreUses b o all start u
  uses_end u at before n z s = record {
    exif = sees_end (is_pointer exif_tag) exif_tag u.exif at before n z s.exif;
    gps = sees_end (is_pointer gps_tag) gps_tag u.gps at before n z s.gps;
    interop = sees_end (is_pointer interop_tag) interop_tag u.interop at before n z s.interop;
    iptc = sees_end (has_tag record_tag) record_tag u.iptc at before n z s.iptc;
    jpeg_offset = sees_end (has_tag jpeg_offset_tag) jpeg_offset_tag u.jpeg_offset at before n z s.jpeg_offset;
    jpeg_length = sees_end (has_tag jpeg_length_tag) jpeg_length_tag u.jpeg_length at before n z s.jpeg_length;
    strip_offsets = sees_end (has_tag strip_offsets_tag) strip_offsets_tag u.strip_offsets at before n z s.strip_offsets;
    strip_lengths = sees_end (has_tag strip_lengths_tag) strip_lengths_tag u.strip_lengths at before n z s.strip_lengths;
  }

  module _ (at n m : ℕ) (before : Option ℕ) (more : n ≡ suc m) (inside : at + 12 ≤ length b) (h : Head)
      (shows : Shows o h (entry o (part b at 12))) (follows : Follows before h.tag) (u new : Uses) (s : UsesSoFar u at before n)
      (k : Keeps u new (record { head = h; place = at })) where
    pointer_step : (t : ℕ) (x y : Option Found) → SeesSoFar (is_pointer t) t x at before n
        → y ≡ kept (is_pointer t) (record { head = h; place = at }) x → SeesSoFar (is_pointer t) t y (at + 12) (Some h.tag) m
    pointer_step t = sees_step at n m before more inside h shows follows (is_pointer t) t (pointer_tagged t) (test_same o t)

    tag_step : (t : ℕ) (x y : Option Found) → SeesSoFar (has_tag t) t x at before n
        → y ≡ kept (has_tag t) (record { head = h; place = at }) x → SeesSoFar (has_tag t) t y (at + 12) (Some h.tag) m
    tag_step t = sees_step at n m before more inside h shows follows (has_tag t) t (tag_tagged t) (tag_reads o t)

    pub uses_step : UsesSoFar new (at + 12) (Some h.tag) m
    uses_step = record {
      exif = pointer_step exif_tag u.exif new.exif s.exif k.exif;
      gps = pointer_step gps_tag u.gps new.gps s.gps k.gps;
      interop = pointer_step interop_tag u.interop new.interop s.interop k.interop;
      iptc = tag_step record_tag u.iptc new.iptc s.iptc k.iptc;
      jpeg_offset = tag_step jpeg_offset_tag u.jpeg_offset new.jpeg_offset s.jpeg_offset k.jpeg_offset;
      jpeg_length = tag_step jpeg_length_tag u.jpeg_length new.jpeg_length s.jpeg_length k.jpeg_length;
      strip_offsets = tag_step strip_offsets_tag u.strip_offsets new.strip_offsets s.strip_offsets k.strip_offsets;
      strip_lengths = tag_step strip_lengths_tag u.strip_lengths new.strip_lengths s.strip_lengths k.strip_lengths;
    }
