-- A document means one thing.
use Rattle.std.proofs.Common.{◌≡◌, ◌-◌, ◌+◌, ◌++◌, ◌∙◌, inl, inr, refl, ℕ, Option, Some, List, [], length, drop, sym, ap, subst}
use Rattle.std.proofs.lemmas.List.{drop_at}
use Rattle.px_xmp_text.specs.Values.{Content, PacketIsInjective, normal_packet}
use Rattle.px_xmp_marks.specs.Declarations.{Declared, declaration, DeclarationsAreRead}
use Rattle.px_xmp_document.specs.Document.{IsSplit, order_mark_len}
use Rattle.px_xmp.specs.Nodes.{Nodes, AreNodes}
use Rattle.px_xmp.specs.Meaning.{Means, HasMeaning}
use Rattle.px_xmp.specs.Laws.{OneReading, NodesMeanOnce, OneMeaning, FormsDecide}

some_declared : (p q : Declared) → Some p ≡ Some q → p ≡ q
some_declared p q h = cc

abbrev declared_as : Option (List ℕ) → List ℕ → Declared
declared_as e d = record { encoding = e; size = length d }

-- what follows the declaration
pub tree_once : DeclarationsAreRead → (x d c y z : List ℕ) (e f : Option (List ℕ)) → IsSplit x d e y → IsSplit x c f z → y ≡ z
tree_once law x d c y z e f (w, inl h) (v, inl k) =
    let same : declared_as e d ≡ declared_as f c = some_declared (declared_as e d) (declared_as f c)
    (sym (law d y e h) ∙ ap declaration (sym w ∙ v) ∙ law c z f k) in
    let sizes : length d ≡ length c = ap (λ (p : Declared). p.size) same in
    sym (drop_at d y (length d) refl) ∙ ap (drop (length d)) (sym w ∙ v) ∙ drop_at c z (length d) (sym sizes)
tree_once law x d c y z e f (w, inl h) (v, inr (empty, none, no_other)) = absurd (no_other d y e h w)
tree_once law x d c y z e f (w, inr (empty, none, no_other)) (v, inl k) = absurd (no_other c z f k v)
tree_once law x d c y z e f (w, inr (empty, none, no_other)) (v, inr (bare, missing, nothing)) =
    sym (w ∙ ap (λ (k : List ℕ). k ++ y) empty) ∙ v ∙ ap (λ (k : List ℕ). k ++ z) bare

pub one_meaning : DeclarationsAreRead → OneReading → NodesMeanOnce → OneMeaning
one_meaning law reading once x start a b h k can could =
    let p = h.are in
    let q = k.are in
    let tree : p.tree ≡ q.tree = tree_once law (drop (order_mark_len x) x) p.declaration q.declaration p.tree q.tree p.encoding q.encoding p.parts q.parts in
    let moved : AreNodes k.nodes [] (start + (length x - length p.tree)) p.tree [] =
    subst (λ (z : List ℕ). AreNodes k.nodes [] (start + (length x - length z)) z []) (sym tree) q.row in
    let nodes : h.nodes ≡ k.nodes = reading p.tree (start + (length x - length p.tree)) h.nodes k.nodes p.row moved in
    once h.nodes a b h.means (subst (λ (z : Nodes). Means z b) (sym nodes) k.means) can could

pub forms_decide : PacketIsInjective → OneMeaning → FormsDecide
forms_decide law once x y m n f g (a, can, h, e) (b, could, k, d) = (
  (λ same. (a, can, h, subst (λ (z : Content). HasMeaning y n z) (sym ((law a b can could).0 (sym e ∙ same ∙ d))) k)),
  (λ s. (let (c, writable, first, second) = s in
      e ∙ ap normal_packet (once x m a c h first can writable ∙ once y n c b second k writable could) ∙ sym d)),
)
