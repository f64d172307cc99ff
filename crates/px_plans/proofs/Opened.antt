-- All definitions unfolded at once, for proofs by computation.
use Rattle.std.proofs.Common.{ℕ}
use Rattle.px_field.specs.Forms.{form_of}
use Rattle.px_field.specs.Values.{elements, encoded}
use Rattle.px_iim.specs.Group.{named, put, gather}
use Rattle.px_iim.specs.Record.{is_dataset, dataset, sequence_of, iim_of, normal_count, normal_dataset}
use Rattle.px_meaning.specs.Roles.{role}
use Rattle.px_meaning.specs.Entry.{entry, has_table, table, entries, next, raw_size, raw, has_raw, entry_elements, field, fields}
use Rattle.px_meaning.specs.Directory.{pointer, dir_at}
use Rattle.px_meaning.specs.Thumbnail.{numbers, jpeg_range, strip_ranges}
use Rattle.px_meaning.specs.Says.{record_at, exif_part, thumbnail, meaning}
use Rattle.px_meaning.specs.Writable.{item_size, items}
use Rattle.px_layout.specs.Chunks.{placed_chunk, thumb_chunks, chunks}
use Rattle.px_layout.specs.Laid.{item_bytes, last_bytes, entry_bytes, table_bytes, placed_content, thumb_contents, contents, header}
use Rattle.px_layout.specs.Laid.{laid_pieces, laid}
use Rattle.px_layout.specs.Normal.{normal_plan, normal_exif}

unfoldable pub opened : ℕ
unfolding form_of elements encoded named put gather is_dataset dataset sequence_of iim_of normal_count normal_dataset role entry has_table
    table entries next raw_size raw has_raw entry_elements field fields pointer dir_at numbers jpeg_range strip_ranges record_at exif_part
    thumbnail meaning item_size items placed_chunk thumb_chunks chunks item_bytes last_bytes entry_bytes table_bytes placed_content
    thumb_contents contents header laid_pieces laid normal_plan normal_exif
opened = 0
