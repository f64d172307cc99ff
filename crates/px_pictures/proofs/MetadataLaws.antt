-- The blocks of a picture are one list, with one meaning each, and none of them is faulty.
use Rattle.std.proofs.Common.{◌≡◌, ◌≢◌, inl, inr, ℕ, List, [], ◌∷◌, ◌++◌, refl, sym, ap, ◌∙◌, subst, arith}
use Rattle.px_bytes.specs.declared.Cause.{Cause}
use Rattle.px_iim.specs.Group.{Record}
use Rattle.px_iim.specs.Record.{SaysIim}
use Rattle.px_iim.specs.lemmas.RecordLaws.{one_record}
use Rattle.px_jpeg.specs.Laws.{OneHead, FaultsDecide as HeadFaultsDecide}
use Rattle.px_meaning.specs.Laws.{OneMeaning}
use Rattle.px_meaning.specs.Says.{SaysExif}
use Rattle.px_meaning.specs.Tree.{Meaning}
use Rattle.px_tree.specs.Refused.{IsFaultyExif}
use Rattle.px_pictures.specs.declared.faults.MetadataKind.TheVariants as kind
use Rattle.px_pictures.specs.declared.faults.MetadataFault.{MetadataFault}
use Rattle.px_pictures.specs.declared.faults.MetadataFault.TheVariants.{Head, TooLong, Block, OutOfMemory}
use Rattle.px_pictures.specs.declared.faults.PictureSide.{PictureSide}
use Rattle.px_pictures.specs.declared.faults.PictureSide.TheVariants.{First, Second}
use Rattle.px_pictures.specs.Faults.{AllExif, AllIptc, FaultAt, IsFaultyIptc, IsHeadFault, IsBlockFault, IsFaultOf}
use Rattle.px_pictures.specs.Laws.{OneMetadata, FaultsDecide}
use Rattle.px_pictures.specs.Metadata.{Blocks, HasBlocks, MeanAll, HasMetadata, blocks_in, joined_size}
use Rattle.px_pictures.proofs.PairLaws.{mean_one}

pub one_blocks : OneHead → (b : List ℕ) (x y : Blocks) → HasBlocks b x → HasBlocks b y → x ≡ y
one_blocks one b x y h k = h.blocks ∙ ap (blocks_in b) (one b h.parts k.parts h.head k.head) ∙ sym k.blocks

pub one_metadata : OneHead → OneMeaning → OneMetadata
one_metadata head one b exif others iptc records s t =
    let e : t.blocks ≡ s.blocks = one_blocks head b t.blocks s.blocks t.has s.has in (
      mean_one Meaning SaysExif one s.blocks.exif exif others s.exif_means
          (subst (λ (x : Blocks). MeanAll SaysExif x.exif others) e t.exif_means),
      mean_one Record SaysIim one_record s.blocks.iptc iptc records s.iptc_means
          (subst (λ (x : Blocks). MeanAll SaysIim x.iptc records) e t.iptc_means),
    )

-- ---- faults

module _ (M : Type 0) (Says : List ℕ → M → Type 0) where
  middle_has_meaning : (before : List (List ℕ)) (block : List ℕ) (after : List (List ℕ)) (ms : List M)
      → MeanAll Says (before ++ block ∷ after) ms → (m : M) × Says block m
  middle_has_meaning [] block after [] s = absurd s
  middle_has_meaning [] block after (m ∷ ms) s = (m, s.0)
  middle_has_meaning (b ∷ before) block after [] s = absurd s
  middle_has_meaning (b ∷ before) block after (m ∷ ms) s = middle_has_meaning before block after ms s.1

  pub fault_no_meaning : (AllHaveMeaning : List (List ℕ) → Type 0) (IsBad : List ℕ → Cause → ℕ → Type 0)
      → ((b : List ℕ) (c : Cause) (p : ℕ) (m : M) → IsBad b c p → Says b m → ⊥) → (bs : List (List ℕ)) (n : ℕ) (c : Cause) (p : ℕ)
      → (ms : List M) → FaultAt AllHaveMeaning IsBad bs n c p → MeanAll Says bs ms → ⊥
  fault_no_meaning AllHaveMeaning IsBad no_meaning bs n c p ms h s =
      let meaning = middle_has_meaning h.before h.block h.after ms (subst (λ (xs : List (List ℕ)). MeanAll Says xs ms) h.whole s) in
      no_meaning h.block c p meaning.0 h.faulty meaning.1

pub head_no_meaning : OneHead → HeadFaultsDecide → (b : List ℕ) (refused : ℕ) (e : MetadataFault) (x : Blocks) → e ≢ OutOfMemory → IsHeadFault b refused e
    → HasBlocks b x → ⊥
head_no_meaning one law b refused (Head e) x differ h k = law.0 b e.cause e.place k.parts h k.head
head_no_meaning one law b refused TooLong x differ (parts, head, long) k =
    let same = ap (joined_size b) (one b parts k.parts head k.head) in
    omega (arith, same, long, k.fits)
head_no_meaning one law b refused OutOfMemory x differ h k = differ refl
head_no_meaning one law b refused (Block n m c p) x differ h k = h

pub block_no_meaning : (x : Blocks) (refused : ℕ) (e : MetadataFault) (exif : List Meaning) (iptc : List Record) → e ≢ OutOfMemory
    → IsBlockFault x refused e → MeanAll SaysExif x.exif exif → MeanAll SaysIim x.iptc iptc → ⊥
block_no_meaning x refused (Block kind.Exif n c p) exif iptc differ h s t =
    fault_no_meaning Meaning SaysExif AllExif IsFaultyExif (λ b d q m f u. f.no_meaning m u) x.exif n c p exif h s
block_no_meaning x refused (Block kind.Iptc n c p) exif iptc differ h s t =
    fault_no_meaning Record SaysIim AllIptc IsFaultyIptc (λ b d q i f u. f.no_meaning i u) x.iptc n c p iptc h.1 t
block_no_meaning x refused OutOfMemory exif iptc differ h s t = differ refl
block_no_meaning x refused (Head e) exif iptc differ h s t = h
block_no_meaning x refused TooLong exif iptc differ h s t = h

meaning_unfaulty : OneHead → (b : List ℕ) (x : Blocks) (refused : ℕ) (e : MetadataFault) (exif : List Meaning) (iptc : List Record) → e ≢ OutOfMemory
    → HasBlocks b x → IsBlockFault x refused e → HasMetadata b exif iptc → ⊥
meaning_unfaulty one b x refused e exif iptc differ h f s =
    block_no_meaning s.blocks refused e exif iptc differ
    (subst (λ (y : Blocks). IsBlockFault y refused e) (one_blocks one b x s.blocks h s.has) f) s.exif_means s.iptc_means

side_no_meaning : OneHead → HeadFaultsDecide → (side : PictureSide) (f g : List ℕ) (refused : ℕ) (e : MetadataFault) (exif others : List Meaning)
    (iptc records : List Record) → e ≢ OutOfMemory → IsFaultOf side f g refused e → HasMetadata f exif iptc
    → HasMetadata g others records → ⊥
side_no_meaning one law First f g refused e exif others iptc records differ (inl h) s t =
    head_no_meaning one law f refused e s.blocks differ h s.has
side_no_meaning one law First f g refused e exif others iptc records differ (inr (x, y, h, k, fault)) s t =
    meaning_unfaulty one f x refused e exif iptc differ h fault s
side_no_meaning one law Second f g refused e exif others iptc records differ (inl (x, h, fault)) s t =
    head_no_meaning one law g refused e t.blocks differ fault t.has
side_no_meaning one law Second f g refused e exif others iptc records differ (inr (x, y, h, k, read, fault)) s t =
    meaning_unfaulty one g y refused e others records differ k fault t

pub faults_decide : OneHead → HeadFaultsDecide → FaultsDecide
faults_decide one law f g refused e exif others iptc records = side_no_meaning one law e.side f g refused e.fault exif others iptc records
