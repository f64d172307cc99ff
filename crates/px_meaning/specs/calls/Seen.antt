-- The meaning that contracts see of the program's: the view doesn't follow a reference in a field by itself.
use Rattle.std.specs.Prelude.{option_map}
use Rattle.px_meaning.specs.Tree as meaning
use Rattle.px_meaning.specs.declared.meanings.Meaning.{Meaning}
use Rattle.px_meaning.specs.declared.meanings.ExifPart.{ExifPart}
use Rattle.px_meaning.specs.declared.meanings.Thumb.{Thumb}

-- the Exif directory
abbrev pub exif_of : ExifPart → meaning.ExifPart
exif_of e = record { fields = e.fields; interop = e.interop }

-- the thumbnail: its JPEG is a reference in the program, and its bytes here
abbrev pub thumb_of : Thumb → meaning.Thumbnail
thumb_of t = record {
  fields = t.fields;
  jpeg = option_map (λ x. x.now) t.jpeg;
  strips = t.strips;
}

-- the whole meaning
abbrev pub meaning_of : Meaning → meaning.Meaning
meaning_of m = record {
  main = m.main;
  iptc = m.iptc;
  exif = option_map exif_of m.exif;
  gps = m.gps;
  thumb = option_map thumb_of m.thumb;
}
