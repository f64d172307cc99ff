-- Whether two pictures are the same, from their blocks.
use Rattle.std.proofs.Common.{◌≡◌, ℕ, Bool, true, false, None, Some, List, Result, Ok, Err, IfOk, inl, inr, subst}
use Rattle.px_iim.specs.Group.{Record}
use Rattle.px_iim.specs.Record.{SaysIim}
use Rattle.px_iim.specs.lemmas.RecordLaws.{one_record}
use Rattle.px_jpeg.specs.Head.{Picture}
use Rattle.px_meaning.specs.Laws.{OneMeaning}
use Rattle.px_meaning.specs.Says.{SaysExif}
use Rattle.px_meaning.specs.Tree.{Meaning}
use Rattle.px_pictures.specs.declared.faults.Comparison.{Comparison}
use Rattle.px_pictures.specs.declared.faults.Comparison.TheVariants.{Same, Different, NotRead}
use Rattle.px_pictures.specs.declared.faults.PictureFault.{PictureFault}
use Rattle.px_pictures.specs.declared.faults.PictureSide.TheVariants.{First, Second}
use Rattle.px_pictures.specs.Metadata.{Blocks, blocks_of, HasBlocks}
use Rattle.px_pictures.specs.Same.{IsSameMetadata, IsAlike, IsComparison}
use Rattle.px_pictures.specs.Unread.{IsUnread}
use Rattle.px_pictures.specs.calls.Judging.{AreSameBlocks, AreAlikeBlocks, AreSameAsFirst, AreCompared, IsComparedWith}
use Rattle.px_pictures.proofs.PairLaws.{same_lists, pair_lists}

meaning_same : (same : Bool) (f g : List ℕ) (x y : Blocks) → OneMeaning → HasBlocks f x → HasBlocks g y → AreSameBlocks x y same
    → IsSameMetadata f g same
meaning_same same f g x y one h k (((ms, s), (is, t)), ((ns, u), (js, v)), e) =
    let exif = same_lists Meaning SaysExif one x.exif y.exif ms ns s u in
    let iptc = same_lists Record SaysIim one_record x.iptc y.iptc is js t v in (
      ms,
      is,
      ns,
      js,
      record { blocks = x; has = h; exif_means = s; iptc_means = t },
      record { blocks = y; has = k; exif_means = u; iptc_means = v },
      (λ z. (exif.0 (e.0 z).0, iptc.0 (e.0 z).1), λ z. e.1 (exif.1 z.0, iptc.1 z.1)),
    )

meaning_alike : (alike : Bool) (f g : List ℕ) (x y : Blocks) → OneMeaning → HasBlocks f x → HasBlocks g y → AreAlikeBlocks x y alike
    → IsAlike f g alike
meaning_alike alike f g x y one h k (((ms, s), (is, t)), ((ns, u), (js, v)), e) =
    let exif = pair_lists Meaning SaysExif one x.exif y.exif ms ns s u in
    let iptc = pair_lists Record SaysIim one_record x.iptc y.iptc is js t v in (
      ms,
      is,
      ns,
      js,
      record { blocks = x; has = h; exif_means = s; iptc_means = t },
      record { blocks = y; has = k; exif_means = u; iptc_means = v },
      (λ z. (exif.0 (e.0 z).0, iptc.0 (e.0 z).1), λ z. e.1 (exif.1 z.0, iptc.1 z.1)),
    )

pub means_same : (r : Result Bool PictureFault) (f g : List ℕ) (x : Blocks) → OneMeaning → HasBlocks f x → IfOk r (AreSameAsFirst x g)
    → IfOk r (IsSameMetadata f g)
means_same (Ok same) f g x one h (y, k, s) = meaning_same same f g x y one h k s
means_same (Err e) f g x one h k = tt

outcome : (c : Comparison) (f g : List ℕ) (p q : Picture) → OneMeaning → p.octets ≡ f → HasBlocks f (blocks_of p) → q.octets ≡ g
    → HasBlocks g (blocks_of q) → AreCompared p q c → IsComparison f g c
outcome Different f g p q one e h d k (inl a) = inl (meaning_alike false f g (blocks_of p) (blocks_of q) one h k a)
outcome Different f g p q one e h d k (inr (s, u, v)) = inr (
  meaning_same false f g (blocks_of p) (blocks_of q) one h k s,
  subst (λ (b : List ℕ). IsUnread b None) e u,
  subst (λ (b : List ℕ). IsUnread b None) d v,
)
outcome Same f g p q one e h d k (s, u, v) = (
  meaning_same true f g (blocks_of p) (blocks_of q) one h k s,
  subst (λ (b : List ℕ). IsUnread b None) e u,
  subst (λ (b : List ℕ). IsUnread b None) d v,
)
outcome (NotRead First n) f g p q one e h d k (s, u) =
    (meaning_alike true f g (blocks_of p) (blocks_of q) one h k s, subst (λ (b : List ℕ). IsUnread b (Some n)) e u)
outcome (NotRead Second n) f g p q one e h d k (s, u, v) = (
  meaning_alike true f g (blocks_of p) (blocks_of q) one h k s,
  subst (λ (b : List ℕ). IsUnread b None) e u,
  subst (λ (b : List ℕ). IsUnread b (Some n)) d v,
)

pub result_answers : (r : Result Comparison PictureFault) (f g : List ℕ) (p : Picture) → OneMeaning → p.octets ≡ f → HasBlocks f (blocks_of p)
    → IfOk r (IsComparedWith p g) → IfOk r (IsComparison f g)
result_answers (Ok c) f g p one e h (q, d, k, a) = outcome c f g p q one e h d k a
result_answers (Err e) f g p one d h a = tt
