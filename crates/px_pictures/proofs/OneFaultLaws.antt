-- Two pictures have at most one first fault.
use Rattle.std.proofs.Common.{◌≡◌, ◌≢◌, inl, inr, ℕ, suc, List, [], ◌∷◌, ◌++◌, length, Some, Option, refl, sym, ap, ◌∙◌, subst}
use Rattle.px_bytes.specs.declared.Cause.{Cause}
use Rattle.px_iim.specs.Group.{Record}
use Rattle.px_iim.specs.Record.{SaysIim}
use Rattle.px_jpeg.specs.Laws.{OneHead, FaultsDecide as HeadFaultsDecide}
use Rattle.px_meaning.specs.Says.{SaysExif}
use Rattle.px_meaning.specs.Tree.{Meaning}
use Rattle.px_tree.specs.Refused.{IsFaultyExif}
use Rattle.px_pictures.specs.declared.faults.MetadataKind.TheVariants as kind
use Rattle.px_pictures.specs.declared.faults.MetadataFault.{MetadataFault}
use Rattle.px_pictures.specs.declared.faults.MetadataFault.TheVariants.{Head, TooLong, Block, OutOfMemory}
use Rattle.px_pictures.specs.declared.faults.PictureFault.{PictureFault}
use Rattle.px_pictures.specs.declared.faults.PictureSide.{PictureSide}
use Rattle.px_pictures.specs.declared.faults.PictureSide.TheVariants.{First, Second}
use Rattle.px_pictures.specs.Faults.{AllExif, AllRead, FaultAt, IsFaultyIptc, IsHeadFault, IsBlockFault, IsFaultOf}
use Rattle.px_pictures.specs.Laws.{OneFault}
use Rattle.px_pictures.specs.Metadata.{Blocks, HasBlocks, MeanAll}
use Rattle.px_pictures.proofs.MetadataLaws.{one_blocks, fault_no_meaning, head_no_meaning, block_no_meaning}

-- ---- the first faulty block of some blocks

module _ (M : Type 0) (Says : List ℕ → M → Type 0) (IsBad : List ℕ → Cause → ℕ → Type 0)
    (no_meaning : (b : List ℕ) (c : Cause) (p : ℕ) (m : M) → IsBad b c p → Says b m → ⊥)
    (one : (b : List ℕ) (c d : Cause) (p q : ℕ) → IsBad b c p → IsBad b d q → (c ≡ d) × (p ≡ q)) where
  same_block : (xs ys vs ws : List (List ℕ)) (x y : List ℕ) (ms ns : List M) (c d : Cause) (p q : ℕ) → xs ++ x ∷ vs ≡ ys ++ y ∷ ws
      → MeanAll Says xs ms → MeanAll Says ys ns → IsBad x c p → IsBad y d q → (length xs ≡ length ys) × (c ≡ d) × (p ≡ q)
  same_block [] [] vs ws x y ms ns c d p q e s t h k =
      let same : x ≡ y = cc in
      let (f, g) = one y c d p q (subst (λ (z : List ℕ). IsBad z c p) same h) k in (refl, f, g)
  same_block [] (z ∷ ys) vs ws x y ms [] c d p q e s t h k = absurd t
  same_block [] (z ∷ ys) vs ws x y ms (n ∷ ns) c d p q e s t h k =
      let same : z ≡ x = cc in absurd (no_meaning x c p n h (subst (λ (o : List ℕ). Says o n) same t.0))
  same_block (z ∷ xs) [] vs ws x y [] ns c d p q e s t h k = absurd s
  same_block (z ∷ xs) [] vs ws x y (m ∷ ms) ns c d p q e s t h k =
      let same : z ≡ y = cc in absurd (no_meaning y d q m k (subst (λ (o : List ℕ). Says o m) same s.0))
  same_block (z ∷ xs) (o ∷ ys) vs ws x y [] ns c d p q e s t h k = absurd s
  same_block (z ∷ xs) (o ∷ ys) vs ws x y (m ∷ ms) [] c d p q e s t h k = absurd t
  same_block (z ∷ xs) (o ∷ ys) vs ws x y (m ∷ ms) (n ∷ ns) c d p q e s t h k =
      let rest : xs ++ x ∷ vs ≡ ys ++ y ∷ ws = cc in
      let (l, f, g) = same_block xs ys vs ws x y ms ns c d p q rest s.1 t.1 h k in (ap suc l, f, g)

  same_fault : (bs : List (List ℕ)) (n m : ℕ) (c d : Cause) (p q : ℕ)
      → FaultAt (λ (xs : List (List ℕ)). (ms : List M) × MeanAll Says xs ms) IsBad bs n c p
      → FaultAt (λ (xs : List (List ℕ)). (ms : List M) × MeanAll Says xs ms) IsBad bs m d q → (n ≡ m) × (c ≡ d) × (p ≡ q)
  same_fault bs n m c d p q h k =
      let (ms, s) = h.meaning in
      let (ns, t) = k.meaning in
      let (l, f, g) = same_block h.before k.before h.after k.after h.block k.block ms ns c d p q (sym h.whole ∙ k.whole) s t h.faulty
      k.faulty in
      (h.number ∙ l ∙ sym k.number, f, g)

exif_one : (b : List ℕ) (c d : Cause) (p q : ℕ) → IsFaultyExif b c p → IsFaultyExif b d q → (c ≡ d) × (p ≡ q)
exif_one b c d p q h k =
    let e : ◌≡◌ {A = Option (Cause × ℕ)} (Some (c, p)) (Some (d, q)) = sym h.first ∙ k.first in
    let pair : ◌≡◌ {A = Cause × ℕ} (c, p) (d, q) = cc in
    (ap (λ (z : Cause × ℕ). z.0) pair, ap (λ (z : Cause × ℕ). z.1) pair)

iptc_one : (b : List ℕ) (c d : Cause) (p q : ℕ) → IsFaultyIptc b c p → IsFaultyIptc b d q → (c ≡ d) × (p ≡ q)
iptc_one b c d p q h k =
    let e : ◌≡◌ {A = Option (Cause × ℕ)} (Some (c, p)) (Some (d, q)) = sym h.first ∙ k.first in
    let pair : ◌≡◌ {A = Cause × ℕ} (c, p) (d, q) = cc in
    (ap (λ (z : Cause × ℕ). z.0) pair, ap (λ (z : Cause × ℕ). z.1) pair)

-- ---- the faults of one picture

exif_no_meaning : (x : Blocks) (n : ℕ) (c : Cause) (p : ℕ) (ms : List Meaning) → FaultAt AllExif IsFaultyExif x.exif n c p → MeanAll SaysExif x.exif ms
    → ⊥
exif_no_meaning x n c p ms h s =
    fault_no_meaning Meaning SaysExif AllExif IsFaultyExif (λ b a o m f u. f.no_meaning m u) x.exif n c p ms h s

one_block : (x : Blocks) (r s : ℕ) (d e : MetadataFault) → d ≢ OutOfMemory → e ≢ OutOfMemory → IsBlockFault x r d → IsBlockFault x s e → d ≡ e
one_block x r s (Block kind.Exif n c p) (Block kind.Exif m d q) f g h k =
    let (i, j, l) = same_fault Meaning SaysExif IsFaultyExif (λ b a o w v u. v.no_meaning w u) exif_one x.exif n m c d p q h k in
    λ t. Block kind.Exif (i t) (j t) (l t)
one_block x r s (Block kind.Iptc n c p) (Block kind.Iptc m d q) f g h k =
    let (i, j, l) = same_fault Record SaysIim IsFaultyIptc (λ b a o w v u. v.no_meaning w u) iptc_one x.iptc n m c d p q h.1 k.1 in
    λ t. Block kind.Iptc (i t) (j t) (l t)
one_block x r s (Block kind.Exif n c p) (Block kind.Iptc m d q) f g h ((ms, meaning), k) =
    absurd (exif_no_meaning x n c p ms h meaning)
one_block x r s (Block kind.Iptc n c p) (Block kind.Exif m d q) f g ((ms, meaning), h) k =
    absurd (exif_no_meaning x m d q ms k meaning)
one_block x r s OutOfMemory e f g h k = absurd (f refl)
one_block x r s (Head i) e f g h k = absurd h
one_block x r s TooLong e f g h k = absurd h
one_block x r s (Block kind.Exif n c p) OutOfMemory f g h k = absurd (g refl)
one_block x r s (Block kind.Exif n c p) (Head i) f g h k = absurd k
one_block x r s (Block kind.Exif n c p) TooLong f g h k = absurd k
one_block x r s (Block kind.Iptc n c p) OutOfMemory f g h k = absurd (g refl)
one_block x r s (Block kind.Iptc n c p) (Head i) f g h k = absurd k
one_block x r s (Block kind.Iptc n c p) TooLong f g h k = absurd k

one_head_fault : HeadFaultsDecide → (b : List ℕ) (r s : ℕ) (d e : MetadataFault) → d ≢ OutOfMemory → e ≢ OutOfMemory → IsHeadFault b r d
    → IsHeadFault b s e → d ≡ e
one_head_fault law b r s (Head i) (Head j) f g h k =
    let (c, p) = law.1 b i.cause j.cause i.place j.place h k in λ t. Head (record { cause = c t; place = p t })
one_head_fault law b r s (Head i) TooLong f g h (parts, k, l) = absurd (law.0 b i.cause i.place parts h k)
one_head_fault law b r s TooLong (Head j) f g (parts, h, l) k = absurd (law.0 b j.cause j.place parts k h)
one_head_fault law b r s TooLong TooLong f g h k = refl
one_head_fault law b r s OutOfMemory e f g h k = absurd (f refl)
one_head_fault law b r s (Block i n c p) e f g h k = absurd h
one_head_fault law b r s (Head i) OutOfMemory f g h k = absurd (g refl)
one_head_fault law b r s (Head i) (Block j n c p) f g h k = absurd k
one_head_fault law b r s TooLong OutOfMemory f g h k = absurd (g refl)
one_head_fault law b r s TooLong (Block j n c p) f g h k = absurd k

-- ---- the faults of two

read_unfaulty : OneHead → (b : List ℕ) (x y : Blocks) (r : ℕ) (e : MetadataFault) → e ≢ OutOfMemory → HasBlocks b x → HasBlocks b y → AllRead x
    → IsBlockFault y r e → ⊥
read_unfaulty one b x y r e n h k ((ms, s), (is, t)) f =
    block_no_meaning x r e ms is n (subst (λ (z : Blocks). IsBlockFault z r e) (one_blocks one b y x k h) f) s t

module _ (one : OneHead) (law : HeadFaultsDecide) (f g : List ℕ) (r s : ℕ) (d e : MetadataFault) (m : d ≢ OutOfMemory) (n : e ≢ OutOfMemory) where
  first_first : IsFaultOf First f g r d → IsFaultOf First f g s e → d ≡ e
  first_first (inl h) (inl k) = one_head_fault law f r s d e m n h k
  first_first (inl h) (inr (x, y, i, j, k)) = absurd (head_no_meaning one law f r d x m h i)
  first_first (inr (x, y, i, j, h)) (inl k) = absurd (head_no_meaning one law f s e x n k i)
  first_first (inr (x, y, i, j, h)) (inr (v, w, o, q, k)) =
      one_block x r s d e m n h (subst (λ (z : Blocks). IsBlockFault z s e) (one_blocks one f v x o i) k)

  second_second : IsFaultOf Second f g r d → IsFaultOf Second f g s e → d ≡ e
  second_second (inl (x, i, h)) (inl (y, j, k)) = one_head_fault law g r s d e m n h k
  second_second (inl (x, i, h)) (inr (v, w, o, q, a, k)) = absurd (head_no_meaning one law g r d w m h q)
  second_second (inr (x, y, i, j, a, h)) (inl (v, o, k)) = absurd (head_no_meaning one law g s e y n k j)
  second_second (inr (x, y, i, j, a, h)) (inr (v, w, o, q, b, k)) =
      one_block y r s d e m n h (subst (λ (z : Blocks). IsBlockFault z s e) (one_blocks one g w y q j) k)

  first_second : IsFaultOf First f g r d → IsFaultOf Second f g s e → ⊥
  first_second (inl h) (inl (x, i, k)) = head_no_meaning one law f r d x m h i
  first_second (inl h) (inr (x, y, i, j, a, k)) = head_no_meaning one law f r d x m h i
  first_second (inr (x, y, i, j, h)) (inl (v, o, k)) = head_no_meaning one law g s e y n k j
  first_second (inr (x, y, i, j, h)) (inr (v, w, o, q, a, k)) = read_unfaulty one f v x r d m o i a h

same_side : OneHead → HeadFaultsDecide → (f g : List ℕ) (r s : ℕ) (a b : PictureSide) (d e : MetadataFault) → d ≢ OutOfMemory → e ≢ OutOfMemory
    → IsFaultOf a f g r d → IsFaultOf b f g s e
    → ◌≡◌ {A = PictureFault} (record { side = a; fault = d }) (record { side = b; fault = e })
same_side one law f g r s First First d e m n h k =
    let q = first_first one law f g r s d e m n h k in λ t. record { side = First; fault = q t }
same_side one law f g r s Second Second d e m n h k =
    let q = second_second one law f g r s d e m n h k in λ t. record { side = Second; fault = q t }
same_side one law f g r s First Second d e m n h k = absurd (first_second one law f g r s d e m n h k)
same_side one law f g r s Second First d e m n h k = absurd (first_second one law f g s r e d n m k h)

pub one_fault : OneHead → HeadFaultsDecide → OneFault
one_fault one law f g r s d e m n h k = same_side one law f g r s d.side e.side d.fault e.fault m n h k
