use Rattle.std.proofs.Common.{option_map, is_some, ◌∙◌, sym, ap}
use Rattle.px_meaning.specs.Writable.{exif_items, thumb_items, field_items}
use Rattle.px_meaning.specs.calls.Seen.{exif_of, thumb_of, meaning_of}
use Rattle.px_layout.proofs.plans.EntryLists.{items_are, option_map_is_some}
use Rattle.px_layout.proofs.entries.is_there.Goals as goal

pub returns-in-Exif : goal.returns-in-Exif
returns-in-Exif c =
    rw c.in-Exif.is (c.is_some.ensures ∙ sym (option_map_is_some exif_of c.args.m.now.exif)
    ∙ sym (option_map_is_some exif_items (option_map exif_of c.args.m.now.exif))
    ∙ sym (ap is_some (items_are (meaning_of c.args.m.now)).1))

pub returns-in-Interop : goal.returns-in-Interop
returns-in-Interop c = rw c.in-Interop.is (c.has_interop.ensures ∙ sym (ap is_some (items_are (meaning_of c.args.m.now)).2))

pub returns-in-Gps : goal.returns-in-Gps
returns-in-Gps c =
    rw c.in-Gps.is (c.is_some-in-Gps.ensures ∙ sym (option_map_is_some field_items c.args.m.now.gps)
    ∙ sym (ap is_some (items_are (meaning_of c.args.m.now)).3))

pub returns-in-Thumb : goal.returns-in-Thumb
returns-in-Thumb c =
    rw c.in-Thumb.is (c.is_some-in-Thumb.ensures ∙ sym (option_map_is_some thumb_of c.args.m.now.thumb)
    ∙ sym (option_map_is_some thumb_items (option_map thumb_of c.args.m.now.thumb))
    ∙ sym (ap is_some (items_are (meaning_of c.args.m.now)).4))
