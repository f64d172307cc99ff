-- The program's representation of a plan's offsets, and its meaning.
use Rattle.std.specs.Prelude.{ℕ, ◌+◌, ◌-◌, ◌*◌, if◌then◌else◌, Option, is_some, vec_len, vec_capacity}
use Rattle.px_meaning.specs.declared.Dir.{Dir}
use Rattle.px_meaning.specs.declared.Dir.TheVariants.{Main, Exif, Interop, Gps, Thumb}
use Rattle.px_layout.specs.declared.chunks.Chunk.{Chunk}
use Rattle.px_layout.specs.declared.chunks.Chunk.TheVariants.{Table, Placed, Jpeg, Strip}
use Rattle.px_plans.specs.declared.keyed.KeyedOffsets.{KeyedOffsets}
use Rattle.px_plans.specs.declared.offsets.DirOffsets.{DirOffsets}
use Rattle.px_plans.specs.declared.offsets.Offsets.{Offsets}
use Rattle.px_plans.specs.calls.Keyed.{offset_at}

-- the offset at a key: a tag, or the index of a strip
abbrev pub key_in : KeyedOffsets → ℕ → Option ℕ
key_in o key = offset_at key o.list.items

-- the offsets of one directory
abbrev pub dir_in : Offsets → Dir → DirOffsets
dir_in o Main = o.main
dir_in o Exif = o.exif
dir_in o Interop = o.interop
dir_in o Gps = o.gps
dir_in o Thumb = o.thumb

-- the offset of a chunk, if it has one
abbrev pub offset_in : Offsets → Chunk → Option ℕ
offset_in o (Table d) = (dir_in o d).table
offset_in o (Placed d t) = key_in (dir_in o d).values t
offset_in o Jpeg = o.jpeg
offset_in o (Strip i) = key_in o.strips i

-- ---- how many chunks have an offset

-- the number of offsets in a list by key
abbrev pub keyed_size : KeyedOffsets → ℕ
keyed_size o = vec_len o.list

-- the number of chunks of a directory that have an offset: its table, and its values
abbrev pub dir_size : DirOffsets → ℕ
dir_size d = (if is_some d.table then 1 else 0) + keyed_size d.values

-- the number of all chunks that have an offset: those of directories, the JPEG and the strips
abbrev pub size_in : Offsets → ℕ
size_in o =
    dir_size o.main + dir_size o.exif + dir_size o.interop + dir_size o.gps + dir_size
    o.thumb + (if is_some o.jpeg then 1 else 0) + keyed_size o.strips

-- ---- the bytes that they have paid for, and that the allocator wasn't asked for yet: of a list that doubles, as in `AskedAndPaid`

-- of one list, whose pairs of key and offset have 8 bytes each
abbrev pub keyed_paid : KeyedOffsets → ℕ
keyed_paid o = 8 * (4 * vec_len o.list - 2 * vec_capacity o.list)

-- of all lists
abbrev pub paid_in : Offsets → ℕ
paid_in o =
    keyed_paid o.main.values + keyed_paid o.exif.values + keyed_paid o.interop.values + keyed_paid o.gps.values
    + keyed_paid o.thumb.values + keyed_paid o.strips
