-- The meaning of a file is one, has one normal form, and can be written; or the file has a fault. The laws of trees, which
-- are functions of the crate of trees, are premises.
use Rattle.std.proofs.Common.{◌≡◌, ◌≤◌, ◌<◌, ◌+◌, ◌*◌, ◌⊎◌, inl, inr, ℕ, nat_eq, nat_le, if◌then◌else◌, Option, Some, List, [], ◌∷◌, ◌++◌}
use Rattle.std.proofs.Common.{length, take, drop, refl, sym, ◌∙◌, ap, subst, ap₂, arith, leb-true, leb-false, length-drop}
use Rattle.std.proofs.lemmas.Bool.{cond-true, cond-false, cases_Bool, lt-leb}
use Rattle.std.proofs.lemmas.List.{take-take, take_all, length-take-le}
use Rattle.std.specs.List.{starts_with, flat_map}
use Rattle.std.specs.Cmp.Lexicographic.{pointwise}
use Rattle.px_bytes.specs.declared.Cause.{Cause}
use Rattle.px_bytes.specs.declared.Cause.TheVariants.{TooLong}
use Rattle.px_bytes.specs.Numbers.{AreBytes}
use Rattle.px_bytes.specs.Parts.{limit}
use Rattle.px_bytes.specs.Checks.{first_false}
use Rattle.px_field.specs.lemmas.PieceLaws.{bytes_drop}
use Rattle.px_iim.specs.Group.{Record, IsRecord}
use Rattle.px_iim.specs.Record.{normal_dataset, normal_group, normal_iim}
use Rattle.px_iim.specs.Check.{iim_checks}
use Rattle.px_iim.specs.lemmas.RecordLaws.{one_record, meaning_is_record}
use Rattle.px_iim.specs.lemmas.NormalLaws as iim_normal
use Rattle.px_iim.specs.lemmas.BoundLaws as iim_bound
use Rattle.px_iim.specs.lemmas.FaultLaws as iim_faults
use Rattle.px_meaning.specs.Tree.{Meaning}
use Rattle.px_tree.specs.Checks.{checks}
use Rattle.px_meaning.specs.Laws as tree
use Rattle.px_tree.specs.FaultLaws as tree_faults
use Rattle.px_layout.specs.Laid.{header}
use Rattle.px_layout.specs.Normal.{normal_exif}
use Rattle.px_layout.specs.lemmas.NormalLaws as exif_normal
use Rattle.px_layout.specs.lemmas.BoundLaws as exif_bound
use Rattle.px_engine.specs.declared.kind.BlockKind.{BlockKind}
use Rattle.px_engine.specs.declared.kind.BlockKind.TheVariants as kind
use Rattle.px_engine.specs.Files.{Said, Exif, Iim, prefix, is_prefixed, is_marked, kind_of, block_of, MeansAs, Says, CanBeWritten, normal}
use Rattle.px_engine.specs.Files.{FirstIn, FirstFaultOf, IsFaultIn, FaultOf}
use Rattle.px_engine.specs.Input.{most_read}
use Rattle.px_engine.specs.Laws.{OneMeaningOfFile, MeaningCanBeWritten, FormHasMeaning, FormDecides, NormalIsItsOwn, NormalBound}
use Rattle.px_engine.specs.Laws.{FaultsDecide, taken}
use Rattle.px_engine.specs.Laws.{TakenDecides}

-- ---- a block of a kind

same_fault : (c d : Cause) (p q : ℕ) (z : Option (Cause × ℕ)) → z ≡ Some (c, p) → z ≡ Some (d, q) → (c ≡ d) × (p ≡ q)
same_fault c d p q z x y =
    let e : ◌≡◌ {A = Option (Cause × ℕ)} (Some (c, p)) (Some (d, q)) = sym x ∙ y in
    let f : ◌≡◌ {A = Cause × ℕ} (c, p) (d, q) = cc in
    (ap (λ (z : Cause × ℕ). z.0) f, ap (λ (z : Cause × ℕ). z.1) f)

module _ (b : List ℕ) where
  one_in : tree.OneMeaning → (k : BlockKind) (s t : Said) → MeansAs k b s → MeansAs k b t → s ≡ t
  one_in one kind.Exif (Exif m) (Exif n) x y = ap (λ z. Exif z) (one b m n x y)
  one_in one kind.Exif (Exif m) (Iim j) x y = absurd y
  one_in one kind.Exif (Iim i) t x y = absurd x
  one_in one kind.Iim (Iim i) (Iim j) x y = ap (λ z. Iim z) (one_record b i j x y)
  one_in one kind.Iim (Iim i) (Exif n) x y = absurd y
  one_in one kind.Iim (Exif m) t x y = absurd x

  written_in : tree.MeaningIsWritable → (k : BlockKind) (s : Said) → AreBytes b → MeansAs k b s → CanBeWritten s
  written_in fits kind.Exif (Exif m) h x = fits b m h x
  written_in fits kind.Iim (Iim i) h x = meaning_is_record b i h x
  written_in fits kind.Exif (Iim i) h x = absurd x
  written_in fits kind.Iim (Exif m) h x = absurd x

  bound_in : tree.MeaningIsWritable → (k : BlockKind) (s : Said) → AreBytes b → MeansAs k b s → length (normal s) ≤ 2 * length b
  bound_in fits kind.Exif (Exif m) h x = exif_bound.normal_bound fits b m h x
  bound_in fits kind.Iim (Iim i) h x = iim_bound.normal_bound b i x
  bound_in fits kind.Exif (Iim i) h x = absurd x
  bound_in fits kind.Iim (Exif m) h x = absurd x

  pub short_in : (k : BlockKind) (s : Said) → MeansAs k b s → length b ≤ limit
  short_in kind.Exif (Exif m) x = x.is_block.most
  short_in kind.Iim (Iim i) x = x.bounded
  short_in kind.Exif (Iim i) x = absurd x
  short_in kind.Iim (Exif m) x = absurd x

  fault_in : tree_faults.FaultsDecide → (k : BlockKind) (c : Cause) (p : ℕ) → FirstIn k b c p → IsFaultIn k b c p
  fault_in law kind.Exif c p h = law.0 b c p h
  fault_in law kind.Iim c p h = iim_faults.first_is_fault b c p h

  no_meaning_in : tree_faults.FaultsDecide → (k : BlockKind) (c : Cause) (p : ℕ) (s : Said) → IsFaultIn k b c p → MeansAs k b s → ⊥
  no_meaning_in law kind.Exif c p (Exif m) h x = law.1 b c p m h x
  no_meaning_in law kind.Iim c p (Iim i) h x = iim_faults.fault_excludes_meaning b c p i h x
  no_meaning_in law kind.Exif c p (Iim i) h x = absurd x
  no_meaning_in law kind.Iim c p (Exif m) h x = absurd x

  meaning_or_fault_in : tree_faults.FaultsDecide → (k : BlockKind)
      → ((s : Said) × MeansAs k b s) ⊎ ((c : Cause) × (p : ℕ) × FirstIn k b c p)
  meaning_or_fault_in law kind.Exif = elim (law.2 b) [
    | inl (m, x) ↦ inl (Exif m, x)
    | inr h ↦ inr h
  ]
  meaning_or_fault_in law kind.Iim = elim (iim_faults.meaning_or_fault b) [
    | inl (i, x) ↦ inl (Iim i, x)
    | inr h ↦ inr h
  ]

  -- a block that is too long has that fault first
  pub long_in : (k : BlockKind) → limit < length b → FirstIn k b TooLong limit
  unfolding checks iim_checks
  long_in kind.Exif l = cond-false (nat_le (length b) limit) _ _ (lt-leb (length b) limit l)
  long_in kind.Iim l = cond-false (nat_le (length b) limit) _ _ (lt-leb (length b) limit l)

  one_first_in : (k : BlockKind) (c d : Cause) (p q : ℕ) → FirstIn k b c p → FirstIn k b d q → (c ≡ d) × (p ≡ q)
  one_first_in kind.Exif c d p q x y = same_fault c d p q (first_false (checks b)) x y
  one_first_in kind.Iim c d p q x y = same_fault c d p q (first_false (iim_checks b)) x y

-- ---- a file

pub one_meaning_of_file : tree.OneMeaning → OneMeaningOfFile
one_meaning_of_file one f s t x y = one_in (block_of f) one (kind_of f) s t x y

bytes_of_block : (f : List ℕ) → AreBytes f → AreBytes (block_of f)
unfolding block_of
bytes_of_block f h = elim (cases_Bool (is_prefixed f)) [
  | inl t ↦ subst (λ z. AreBytes z) (sym (cond-true (is_prefixed f) (drop 6 f) f t)) (bytes_drop 6 f h)
  | inr t ↦ subst (λ z. AreBytes z) (sym (cond-false (is_prefixed f) (drop 6 f) f t)) h
]

pub meaning_can_be_written : tree.MeaningIsWritable → MeaningCanBeWritten
meaning_can_be_written fits f s h x = written_in (block_of f) fits (kind_of f) s (bytes_of_block f h) x

pub normal_bound : tree.MeaningIsWritable → NormalBound
normal_bound fits f s h x = bound_in (block_of f) fits (kind_of f) s (bytes_of_block f h) x

pub faults_decide : tree_faults.FaultsDecide → FaultsDecide
faults_decide law = (
  λ f c p h. fault_in (block_of f) law (kind_of f) c p h,
  λ f c p s h x. no_meaning_in (block_of f) law (kind_of f) c p s h x,
  λ f. meaning_or_fault_in (block_of f) law (kind_of f),
  λ f c d p q h k. one_first_in (block_of f) (kind_of f) c d p q h k,
)

-- ---- normal forms

-- a block of that kind, with nothing before it
record Is (k : BlockKind) (f : List ℕ) : Type 0 where
  kind_is : kind_of f ≡ k
  block_is : block_of f ≡ f

exif_kind : (m : Meaning) → Is kind.Exif (normal_exif m)
unfolding kind_of block_of normal_exif header
exif_kind m = record { kind_is = refl; block_is = refl }

marked_kind : (rec : ℕ) (items : List (ℕ × List ℕ)) (rest : List ℕ) → 1 ≤ length items
    → Is kind.Iim (flat_map (normal_dataset rec) items ++ rest)
unfolding kind_of block_of normal_dataset
marked_kind rec [] rest h = absurd (omega arith)
marked_kind rec (x ∷ items) rest h = record { kind_is = refl; block_is = refl }

iim_kind : (i : Record) → IsRecord i → Is kind.Iim (normal_iim i)
iim_kind [] h = let l = h.some in absurd (omega arith)
iim_kind (g ∷ gs) h = marked_kind g.rec g.items (flat_map normal_group gs) h.whole.groups.0.some

means_itself : (k : BlockKind) (f : List ℕ) (s : Said) → Is k f → MeansAs k f s → Says f s
means_itself k f s is x = subst (λ z. MeansAs (kind_of f) z s) (sym is.block_is) (subst (λ z. MeansAs z f s) (sym is.kind_is) x)

pub form_has_meaning : FormHasMeaning
form_has_meaning (Exif m) h l = means_itself kind.Exif (normal_exif m) (Exif m) (exif_kind m) (exif_normal.form_has_meaning m h l)
form_has_meaning (Iim i) h l = means_itself kind.Iim (normal_iim i) (Iim i) (iim_kind i h) ((iim_normal.form_has_meaning i h).2 l)

pub form_decides : tree.OneMeaning → FormDecides
form_decides one s t h k l m = (
  λ e. one_meaning_of_file one (normal t) s t (subst (λ z. Says z s) e (form_has_meaning s h l)) (form_has_meaning t k m),
  λ e. ap normal e,
)

pub normal_is_its_own : tree.OneMeaning → NormalIsItsOwn
normal_is_its_own one s t h l x = ap normal (one_meaning_of_file one (normal s) t s x (form_has_meaning s h l))

-- ---- the bytes that are read

same_front : (n : ℕ) (f needle : List ℕ) → length needle ≤ n → starts_with nat_eq (take n f) needle ≡ starts_with nat_eq f needle
same_front n f needle l = ap (pointwise nat_eq needle) (take-take (length needle) n f l)

taken_prefixed : (f : List ℕ) → is_prefixed (taken f) ≡ is_prefixed f
taken_prefixed f = same_front most_read f prefix (omega arith)

taken_marked : (f : List ℕ) → is_marked (taken f) ≡ is_marked f
taken_marked f = same_front most_read f (0x1C ∷ []) (omega arith)

taken_kind : (f : List ℕ) → kind_of (taken f) ≡ kind_of f
unfolding kind_of
taken_kind f = ap₂ (λ a b. if a then kind.Exif else if b then kind.Iim else kind.Exif) (taken_prefixed f) (taken_marked f)

length_block : (f : List ℕ) → length f ≤ length (block_of f) + 6
unfolding block_of
length_block f = elim (cases_Bool (is_prefixed f)) [
  | inl t ↦ subst (λ z. length f ≤ length z + 6) (sym (cond-true (is_prefixed f) (drop 6 f) f t)) (let l = length-drop 6 f in omega arith)
  | inr t ↦ subst (λ z. length f ≤ length z + 6) (sym (cond-false (is_prefixed f) (drop 6 f) f t)) (omega arith)
]

-- a file that is read whole, or one whose block is too long, as is the block of the bytes that are read
whole_or_long : (f : List ℕ) → (taken f ≡ f) ⊎ ((limit < length (block_of f)) × (limit < length (block_of (taken f))))
whole_or_long f = elim (cases_Bool (nat_le (length f) most_read)) [
  | inl t ↦ inl (take_all most_read f (leb-true (length f) most_read t))
  | inr t ↦ inr (
      let l = leb-false (length f) most_read t in
      let a = length_block f in
      let b = length_block (taken f) in
      let n : length (taken f) ≡ most_read = length-take-le most_read f (omega arith) in
      ((omega arith), (omega arith)))
]

-- the meaning of the bytes that are read is that of the whole file, which they are
pub meaning_whole : (f : List ℕ) (s : Said) → Says (taken f) s → taken f ≡ f
meaning_whole f s x = elim (whole_or_long f) [
  | inl e ↦ e
  | inr l ↦ let m = short_in (block_of (taken f)) (kind_of (taken f)) s x in let n = l.1 in absurd (omega arith)
]

whole_has_meaning : (f : List ℕ) (s : Said) → Says f s → taken f ≡ f
whole_has_meaning f s x = elim (whole_or_long f) [
  | inl e ↦ e
  | inr l ↦ let m = short_in (block_of f) (kind_of f) s x in let n = l.0 in absurd (omega arith)
]

first_long : (f : List ℕ) → limit < length (block_of f) → FirstFaultOf f TooLong limit
first_long f l = long_in (block_of f) (kind_of f) l

-- two files that are both too long have the same first fault
first_fault_too_long : (f g : List ℕ) (c : Cause) (p : ℕ) → FirstFaultOf f TooLong limit → FirstFaultOf g TooLong limit → FirstFaultOf f c p
    → FirstFaultOf g c p
first_fault_too_long f g c p x y h =
    let e = one_first_in (block_of f) (kind_of f) TooLong c limit p x h in
    subst (λ z. FirstFaultOf g z p) e.0 (subst (λ z. FirstFaultOf g TooLong z) e.1 y)

pub taken_decides : TakenDecides
taken_decides = (
  λ f s. (λ x. subst (λ z. Says z s) (meaning_whole f s x) x, λ x. subst (λ z. Says z s) (sym (whole_has_meaning f s x)) x),
  λ f c p. elim (whole_or_long f) [
    | inl e ↦ (λ h. subst (λ z. FirstFaultOf z c p) e h, λ h. subst (λ z. FirstFaultOf z c p) (sym e) h)
    | inr l ↦ (
      λ h. first_fault_too_long (taken f) f c p (first_long (taken f) l.1) (first_long f l.0) h,
      λ h. first_fault_too_long f (taken f) c p (first_long f l.0)
          (first_long (taken f) l.1) h,
    )
  ],
)

too_long_is_fault : (k : BlockKind) (b : List ℕ) → limit < length b → IsFaultIn k b TooLong limit
too_long_is_fault kind.Exif b l = (refl, l)
too_long_is_fault kind.Iim b l = (refl, l)

-- the first fault of the bytes that are read is a fault of the whole file
pub fault_whole : (f : List ℕ) (c : Cause) (p : ℕ) → FirstFaultOf (taken f) c p → FaultOf (taken f) c p → FaultOf f c p
fault_whole f c p h s = elim (whole_or_long f) [
  | inl e ↦ subst (λ z. FaultOf z c p) e s
  | inr l ↦
      let e = one_first_in (block_of (taken f)) (kind_of (taken f)) TooLong c limit p (first_long (taken f) l.1) h in
      subst (λ z. FaultOf f z p) e.0 (subst (λ z. FaultOf f TooLong z) e.1 (too_long_is_fault (kind_of f) (block_of f) l.0))
]

-- nothing is before the block in a normal form
pub own_block : (s : Said) → CanBeWritten s → block_of (normal s) ≡ normal s
own_block (Exif m) h = (exif_kind m).block_is
own_block (Iim i) h = (iim_kind i h).block_is
