-- The IPTC blocks of a head.
use Rattle.std.proofs.Common.{◌≡◌, ℕ, List, [], ◌∷◌, ◌++◌, refl, sym, ap, ◌∙◌}
use Rattle.std.specs.Prelude.{filter, flat_map}
use Rattle.std.proofs.lemmas.List.Elements.{filter-append}
use Rattle.px_jpeg.specs.declared.SegmentKind.{SegmentKind}
use Rattle.px_jpeg.specs.Blocks.{JoinedBlock, iptc_in}
use Rattle.px_jpeg.specs.ResourceReading.{resources_of, resources_from}
use Rattle.px_pictures.specs.Metadata.{has_octets}
use Rattle.px_pictures.specs.calls.Runs.{records, records_in}

pub no_records : (x : List ℕ) → x ≡ [] → records x (resources_of 0 x) ≡ []
unfolding resources_of resources_from
no_records x e = ap (λ (y : List ℕ). records y (resources_of 0 y)) e

-- a block that is not Photoshop's has none
abbrev Skips : SegmentKind → Type 0
Skips k = (y : List ℕ) → records_in (record { kind = k; octets = y }) ≡ []

pub none_in : (k : SegmentKind) (x y : List ℕ) → x ≡ [] → Skips k → records x (resources_of 0 x) ≡ records_in (record { kind = k; octets = y })
none_in k x y e h = no_records x e ∙ sym (h y)

pub records_all : (ks : List JoinedBlock) → flat_map records_in ks ≡ filter has_octets (flat_map iptc_in ks)
records_all [] = refl
records_all (k ∷ ks) =
    ap (λ (xs : List (List ℕ)). records_in k ++ xs) (records_all ks) ∙ sym (filter-append has_octets (iptc_in k) (flat_map iptc_in ks))
