use Rattle.std.proofs.Common.{ap}
use Rattle.px_jpeg.specs.declared.SegmentKind.{SegmentKind}
use Rattle.px_pictures.specs.calls.Runs.{records_in}
use Rattle.px_pictures.proofs.Records.{none_in}
use Rattle.px_pictures.proofs.blocks.resources_in.Goals as goal

pub returns-in-Exif : goal.returns-in-Exif
returns-in-Exif c =
    none_in c.args.run.now.kind _ _ c.split_at.ensures.front
    (λ y. ap (λ (k : SegmentKind). records_in (record { kind = k; octets = y })) c.in-Exif.is)

pub returns-in-Xmp : goal.returns-in-Xmp
returns-in-Xmp c =
    none_in c.args.run.now.kind _ _ c.split_at-in-Xmp.ensures.front
    (λ y. ap (λ (k : SegmentKind). records_in (record { kind = k; octets = y })) c.in-Xmp.is)

pub returns-in-ExtendedXmp : goal.returns-in-ExtendedXmp
returns-in-ExtendedXmp c =
    none_in c.args.run.now.kind _ _ c.split_at-in-ExtendedXmp.ensures.front
    (λ y. ap (λ (k : SegmentKind). records_in (record { kind = k; octets = y })) c.in-ExtendedXmp.is)
