-- Nothing is kept of a tag that no directory uses.
use Rattle.std.proofs.Common.{◌≡◌, ℕ, Bool, Option, Some, ◌==◌, ◌&&◌, false, sym, ap}
use Rattle.std.proofs.lemmas.Bool.{cond-false, ne_eqb}
use Rattle.px_tree.specs.declared.links.Found.{Found}
use Rattle.px_tree.specs.declared.uses.Uses.{Uses}
use Rattle.px_meaning.specs.Directory.{is_pointer}
use Rattle.px_meaning.specs.calls.Used.{HasNoUse}
use Rattle.px_tree.specs.calls.Uses.{Keeps, kept, has_tag}

tag_differs : (t u : ℕ) → (u ≡ t → ⊥) → (t == u) ≡ false
tag_differs t u h = ne_eqb t u (λ e. h (sym e))

not_kept : (f : Found) (x : Option Found) (u : ℕ) → (u ≡ f.head.tag → ⊥) → x ≡ kept (has_tag u) f x
not_kept f x u h = sym (cond-false (f.head.tag == u) (Some f) x (tag_differs f.head.tag u h))

not_pointed : (f : Found) (x : Option Found) (u : ℕ) → (u ≡ f.head.tag → ⊥) → x ≡ kept (is_pointer u) f x
not_pointed f x u h =
    let one = (f.head.code == 4) && (f.head.count == 1) in
    sym (cond-false ((f.head.tag == u) && one) (Some f) x (ap (λ (b : Bool). b && one) (tag_differs f.head.tag u h)))

pub keeps_none : (u : Uses) (f : Found) → HasNoUse f.head.tag → Keeps u u f
keeps_none u f h = record {
  exif = not_pointed f u.exif _ h.exif;
  gps = not_pointed f u.gps _ h.gps;
  interop = not_pointed f u.interop _ h.interop;
  iptc = not_kept f u.iptc _ h.iptc;
  jpeg_offset = not_kept f u.jpeg_offset _ h.jpeg_offset;
  jpeg_length = not_kept f u.jpeg_length _ h.jpeg_length;
  strip_offsets = not_kept f u.strip_offsets _ h.strip_offsets;
  strip_lengths = not_kept f u.strip_lengths _ h.strip_lengths;
}
