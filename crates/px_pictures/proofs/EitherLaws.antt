-- Two pictures have meanings of all their blocks, or a first fault.
use Rattle.std.proofs.Common.{◌≡◌, ◌≢◌, ◌⊎◌, ◌≤◌, ℕ, suc, nat_le, inl, inr, List, [], ◌∷◌, ◌++◌, length, refl, ap, arith, leb-true, leb-false}
use Rattle.std.proofs.lemmas.Bool.{cases_Bool}
use Rattle.px_bytes.specs.declared.Cause.{Cause}
use Rattle.px_iim.specs.Group.{Record}
use Rattle.px_iim.specs.Record.{SaysIim}
use Rattle.px_iim.specs.lemmas.FaultLaws as iptc
use Rattle.px_jpeg.specs.Laws.{IsHeadOrFault}
use Rattle.px_meaning.specs.Says.{SaysExif}
use Rattle.px_meaning.specs.Tree.{Meaning}
use Rattle.px_tree.specs.FaultLaws.{FaultsDecide, FaultsBounded}
use Rattle.px_tree.specs.Refused.{IsFaultyExif}
use Rattle.px_pictures.specs.declared.faults.MetadataKind.TheVariants as kind
use Rattle.px_pictures.specs.declared.faults.MetadataFault.{MetadataFault}
use Rattle.px_pictures.specs.declared.faults.MetadataFault.TheVariants.{Head, TooLong, Block, OutOfMemory}
use Rattle.px_pictures.specs.declared.faults.PictureSide.TheVariants.{First, Second}
use Rattle.px_pictures.specs.Faults.{AllExif, AllIptc, AllRead, FaultAt, IsFaultyIptc, IsHeadFault, IsBlockFault}
use Rattle.px_pictures.specs.Laws.{IsMetadataOrFault}
use Rattle.px_pictures.specs.Metadata.{Blocks, HasBlocks, MeanAll, blocks_in, joined_size, most_joined}

-- a fault that doesn't rest on an allocation
abbrev Faulty : (MetadataFault → Type 0) → Type 0
Faulty IsFault = (e : MetadataFault) × (e ≢ OutOfMemory) × IsFault e

-- ---- the first faulty block of some blocks

module _ (M : Type 0) (Says : List ℕ → M → Type 0) (IsBad : List ℕ → Cause → ℕ → Type 0)
    (judged : (b : List ℕ) → ((m : M) × Says b m) ⊎ ((c : Cause) × (p : ℕ) × IsBad b c p)) where
  abbrev AllHaveMeaning : List (List ℕ) → Type 0
  AllHaveMeaning bs = (ms : List M) × MeanAll Says bs ms

  abbrev OneFaulty : List (List ℕ) → Type 0
  OneFaulty bs = (n : ℕ) × (c : Cause) × (p : ℕ) × FaultAt AllHaveMeaning IsBad bs n c p

  all_or_one : (bs : List (List ℕ)) → AllHaveMeaning bs ⊎ OneFaulty bs
  all_or_one [] = inl ([], tt)
  all_or_one (b ∷ bs) = first (judged b) (all_or_one bs)
    where
      first : ((m : M) × Says b m) ⊎ ((c : Cause) × (p : ℕ) × IsBad b c p) → AllHaveMeaning bs ⊎ OneFaulty bs
          → AllHaveMeaning (b ∷ bs) ⊎ OneFaulty (b ∷ bs)
      first (inr (c, p, h)) others = inr (
        0,
        c,
        p,
        record {
          before = [];
          block = b;
          after = bs;
          whole = refl;
          number = refl;
          meaning = ([], tt);
          faulty = h;
        },
      )
      first (inl (m, s)) (inl (ms, t)) = inl (m ∷ ms, (s, t))
      first (inl (m, s)) (inr (n, c, p, k)) = inr (
        suc n,
        c,
        p,
        record {
          before = b ∷ k.before;
          block = k.block;
          after = k.after;
          whole = ap (λ (xs : List (List ℕ)). b ∷ xs) k.whole;
          number = ap suc k.number;
          meaning = (m ∷ k.meaning.0, (s, k.meaning.1));
          faulty = k.faulty;
        },
      )

exif_judged : FaultsDecide → FaultsBounded → (b : List ℕ) → ((m : Meaning) × SaysExif b m) ⊎ ((c : Cause) × (p : ℕ) × IsFaultyExif b c p)
exif_judged law bounded b = elim (law.2 b) [
  | inl s ↦ inl s
  | inr f ↦
      let is_fault = law.0 b f.0 f.1 f.2 in
      inr (
        f.0,
        f.1,
        record {
          first = f.2;
          is_fault = is_fault;
          bounded = bounded b f.0 f.1 f.2;
          no_meaning = λ m s. law.1 b f.0 f.1 m is_fault s;
        },
      )
]

iptc_judged : (b : List ℕ) → ((i : Record) × SaysIim b i) ⊎ ((c : Cause) × (p : ℕ) × IsFaultyIptc b c p)
iptc_judged b = elim (iptc.meaning_or_fault b) [
  | inl s ↦ inl s
  | inr f ↦
      let is_fault = iptc.first_is_fault b f.0 f.1 f.2 in
      inr (
        f.0,
        f.1,
        record {
          first = f.2;
          is_fault = is_fault;
          bounded = iptc.faults_bounded b f.0 f.1 f.2;
          no_meaning = λ i s. iptc.fault_excludes_meaning b f.0 f.1 i is_fault s;
        },
      )
]

-- ---- one picture

blocks_or_fault : (b : List ℕ) → IsHeadOrFault b → ((x : Blocks) × HasBlocks b x) ⊎ Faulty (IsHeadFault b 0)
blocks_or_fault b (inl (parts, h)) = elim (cases_Bool (nat_le (joined_size b parts) most_joined)) [
  | inl t ↦ inl (
    blocks_in b parts,
    record {
      parts = parts;
      head = h;
      fits = leb-true (joined_size b parts) most_joined t;
      blocks = refl;
    },
  )
  | inr f ↦ inr (TooLong, (λ e. cc), (parts, h, leb-false (joined_size b parts) most_joined f))
]
blocks_or_fault b (inr (c, p, h)) = inr (Head (record { cause = c; place = p }), (λ e. cc), h)

module _ (law : FaultsDecide) (bounded : FaultsBounded) where
  read_or_fault : (x : Blocks) → AllRead x ⊎ Faulty (IsBlockFault x 0)
  read_or_fault x =
      go (all_or_one Meaning SaysExif IsFaultyExif (exif_judged law bounded) x.exif) (all_or_one Record SaysIim IsFaultyIptc iptc_judged x.iptc)
    where
      go : AllExif x.exif ⊎ ((n : ℕ) × (c : Cause) × (p : ℕ) × FaultAt AllExif IsFaultyExif x.exif n c p)
          → AllIptc x.iptc ⊎ ((n : ℕ) × (c : Cause) × (p : ℕ) × FaultAt AllIptc IsFaultyIptc x.iptc n c p)
          → AllRead x ⊎ Faulty (IsBlockFault x 0)
      go (inr (n, c, p, h)) others = inr (Block kind.Exif n c p, (λ e. cc), h)
      go (inl s) (inl t) = inl (s, t)
      go (inl s) (inr (n, c, p, h)) = inr (Block kind.Iptc n c p, (λ e. cc), (s, h))

  -- ---- two pictures

  module _ (f g : List ℕ) where
    both_read : (x y : Blocks) → HasBlocks f x → HasBlocks g y → AllRead x ⊎ Faulty (IsBlockFault x 0)
        → AllRead y ⊎ Faulty (IsBlockFault y 0) → IsMetadataOrFault f g
    both_read x y h k (inr (e, n, fault)) second = inr (record { side = First; fault = e }, n, inr (x, y, h, k, fault))
    both_read x y h k (inl read) (inr (e, n, fault)) = inr (record { side = Second; fault = e }, n, inr (x, y, h, k, read, fault))
    both_read x y h k (inl ((ms, s), (is, t))) (inl ((ns, u), (js, v))) =
        inl (
          ms,
          ns,
          is,
          js,
          record { blocks = x; has = h; exif_means = s; iptc_means = t },
          record { blocks = y; has = k; exif_means = u; iptc_means = v },
        )

    both_found : ((x : Blocks) × HasBlocks f x) ⊎ Faulty (IsHeadFault f 0) → ((y : Blocks) × HasBlocks g y) ⊎ Faulty (IsHeadFault g 0)
        → IsMetadataOrFault f g
    both_found (inr (e, n, fault)) second = inr (record { side = First; fault = e }, n, inl fault)
    both_found (inl (x, h)) (inr (e, n, fault)) = inr (record { side = Second; fault = e }, n, inl (x, h, fault))
    both_found (inl (x, h)) (inl (y, k)) = both_read x y h k (read_or_fault x) (read_or_fault y)

  pub metadata_or_fault : (f g : List ℕ) → IsHeadOrFault f → IsHeadOrFault g → IsMetadataOrFault f g
  metadata_or_fault f g h k = both_found f g (blocks_or_fault f h) (blocks_or_fault g k)
