-- The tags that no directory uses, as the reader computes them.
use Rattle.std.specs.Prelude.{◌≡◌, ℕ}
use Rattle.px_meaning.specs.Roles.{exif_tag, gps_tag, interop_tag, record_tag, jpeg_offset_tag, jpeg_length_tag, strip_offsets_tag}
use Rattle.px_meaning.specs.Roles.{strip_lengths_tag, width_tag, length_tag, rows_tag, pixel_x_tag, pixel_y_tag, free_offsets_tag}
use Rattle.px_meaning.specs.Roles.{tile_offsets_tag, sub_dirs_tag, jpeg_q_tag, jpeg_dc_tag, jpeg_ac_tag}

-- no directory has a special use for t or refuses it
pub record HasNoUse (t : ℕ) : Type 0 where
  pub exif : exif_tag ≡ t → ⊥
  pub gps : gps_tag ≡ t → ⊥
  pub interop : interop_tag ≡ t → ⊥
  pub iptc : record_tag ≡ t → ⊥
  pub jpeg_offset : jpeg_offset_tag ≡ t → ⊥
  pub jpeg_length : jpeg_length_tag ≡ t → ⊥
  pub strip_offsets : strip_offsets_tag ≡ t → ⊥
  pub strip_lengths : strip_lengths_tag ≡ t → ⊥
  pub width : width_tag ≡ t → ⊥
  pub length : length_tag ≡ t → ⊥
  pub rows : rows_tag ≡ t → ⊥
  pub pixel_x : pixel_x_tag ≡ t → ⊥
  pub pixel_y : pixel_y_tag ≡ t → ⊥
  pub free_offsets : free_offsets_tag ≡ t → ⊥
  pub tile_offsets : tile_offsets_tag ≡ t → ⊥
  pub sub_dirs : sub_dirs_tag ≡ t → ⊥
  pub jpeg_q : jpeg_q_tag ≡ t → ⊥
  pub jpeg_dc : jpeg_dc_tag ≡ t → ⊥
  pub jpeg_ac : jpeg_ac_tag ≡ t → ⊥
