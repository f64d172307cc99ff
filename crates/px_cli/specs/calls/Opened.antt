-- Which open files are one.
use Rattle.std.specs.Prelude.{◌≡◌, Option, Some, None}
use Rattle.px_cli.specs.declared.files.FileId.{FileId}

-- the same file of the same device
abbrev pub IsOneFile : FileId → FileId → Type 0
IsOneFile file out = (file.device ≡ out.device) × (file.inode ≡ out.inode)

-- both are regular files, and one
abbrev pub AreOne : Option FileId → Option FileId → Type 0
AreOne (Some file) (Some out) = IsOneFile file out
AreOne file out = ⊥
