-- Tags that no directory has a use for: they lie between those that have one.
use Rattle.std.proofs.Common.{◌≡◌, ◌<◌, ℕ, Option, Some, None, List, [], ◌∷◌, ◌==◌, refl, ap, ◌∙◌, arith}
use Rattle.std.specs.List.{AllByRecursion}
use Rattle.std.proofs.lemmas.Bool.{cond-false, ne_eqb}
use Rattle.px_meaning.specs.declared.roles.Dir.{Dir}
use Rattle.px_meaning.specs.declared.roles.Dir.TheVariants.{Main, Exif, Interop, Gps, Thumb}
use Rattle.px_meaning.specs.declared.roles.Role.{Role}
use Rattle.px_meaning.specs.declared.roles.Role.TheVariants.{Plain}
use Rattle.px_meaning.specs.Roles.{at_tag, special, offset_tags, role, role_or}
use Rattle.px_meaning.specs.calls.Used.{HasNoUse}

-- ---- their offsets

pub between_tables : (t : ℕ) → 0x0209 < t → t < 0x83BB → HasNoUse t
between_tables t a b = record {
  exif = λ e. omega arith;
  gps = λ e. omega arith;
  interop = λ e. omega arith;
  iptc = λ e. omega arith;
  jpeg_offset = λ e. omega arith;
  jpeg_length = λ e. omega arith;
  strip_offsets = λ e. omega arith;
  strip_lengths = λ e. omega arith;
  width = λ e. omega arith;
  length = λ e. omega arith;
  rows = λ e. omega arith;
  pixel_x = λ e. omega arith;
  pixel_y = λ e. omega arith;
  free_offsets = λ e. omega arith;
  tile_offsets = λ e. omega arith;
  sub_dirs = λ e. omega arith;
  jpeg_q = λ e. omega arith;
  jpeg_dc = λ e. omega arith;
  jpeg_ac = λ e. omega arith;
}

-- ---- what they are

at_none : (t : ℕ) (xs : List (ℕ × Role)) → AllByRecursion (λ x. x.0 ≡ t → ⊥) xs → at_tag t xs ≡ None
at_none t [] h = refl
at_none t (x ∷ xs) h = cond-false (x.0 == t) (Some x.1) (at_tag t xs) (ne_eqb x.0 t h.0) ∙ at_none t xs h.1

no_special : (d : Dir) (t : ℕ) → HasNoUse t → at_tag t (special d) ≡ None
no_special Main t h =
    at_none t (special Main) (h.exif, (h.gps, (h.iptc, (h.width, (h.length, (h.rows, tt))))))
no_special Exif t h = at_none t (special Exif) (h.interop, (h.pixel_x, (h.pixel_y, tt)))
no_special Interop t h = refl
no_special Gps t h = refl
no_special Thumb t h =
    at_none t (special Thumb)
    (h.jpeg_offset, (h.jpeg_length, (h.strip_offsets, (h.strip_lengths, (h.width, (h.length, (h.rows, tt)))))))

pub no_use_plain : (d : Dir) (t : ℕ) → HasNoUse t → role d t ≡ Plain
unfolding role
no_use_plain d t h =
    ap (λ (r : Option Role). role_or r (role_or (at_tag t offset_tags) Plain)) (no_special d t h)
    ∙ ap (λ (r : Option Role). role_or r Plain) (at_none t offset_tags (
      h.strip_offsets,
      (
        h.strip_lengths,
        (
          h.free_offsets,
          (
            h.tile_offsets,
            (
              h.sub_dirs,
              (
                h.jpeg_offset,
                (
                  h.jpeg_length,
                  (
                    h.jpeg_q,
                    (h.jpeg_dc, (h.jpeg_ac, (h.exif, (h.gps, (h.interop, tt))))),
                  ),
                ),
              ),
            ),
          ),
        ),
      ),
    ))
