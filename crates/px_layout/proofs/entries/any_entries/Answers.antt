use Rattle.std.proofs.Common.{option_map}
use Rattle.px_meaning.specs.declared.Dir.TheVariants.{Main, Gps}
use Rattle.px_meaning.specs.calls.Seen.{exif_of, thumb_of}
use Rattle.px_layout.proofs.plans.EntryLists.{few_fields, few_exif, few_interop, few_optional, few_thumb}
use Rattle.px_layout.proofs.entries.any_entries.Goals as goal

pub main_entries-requires-clause-few : goal.main_entries-requires-clause-few
main_entries-requires-clause-few c = few_fields Main c.args.m.now.main c.requires.main

pub exif_entries-requires : goal.exif_entries-requires
exif_entries-requires c = few_exif (option_map exif_of c.args.m.now.exif) c.requires.exif

pub interop_entries-requires : goal.interop_entries-requires
interop_entries-requires c = few_interop (option_map exif_of c.args.m.now.exif) c.requires.exif

pub field_entries-requires : goal.field_entries-requires
field_entries-requires c = few_optional Gps c.args.m.now.gps c.requires.gps

pub thumb_entries-requires-clause-few : goal.thumb_entries-requires-clause-few
thumb_entries-requires-clause-few c = few_thumb (option_map thumb_of c.args.m.now.thumb) c.requires.thumb
