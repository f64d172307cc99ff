-- A document is a row of nodes.
use Rattle.std.proofs.Common.{◌≡◌, ◌≤◌, ◌+◌, ◌-◌, ◌==◌, ◌&&◌, ◌||◌, ◌∙◌, inl, inr, refl, ℕ, zero, suc, Bool, true, false, cond, List, [], ◌∷◌, ◌++◌, length, drop, sym, ap, subst, arith, length-drop, append_assoc, append-nil}
use Rattle.std.proofs.Common.{Option, Some, option_map, option_and_then}
use Rattle.std.proofs.lemmas.Bool.{cases_Bool, cond-true, cond-false}
use Rattle.px_xmp_text.specs.Texts.{has_references, begins_with_feed, piece, text_in, text_of}
use Rattle.px_xmp_text.specs.Laws.{FaultOrText}
use Rattle.px_xmp_text.specs.declared.pieces.TextKind.TheVariants.{CharacterData, CdataSection}
use Rattle.px_xmp_document.specs.Scopes.{Item}
use Rattle.px_xmp_markup.specs.Kinds.{Kind, Opening, Closing, Alone, Misc, Data, AreKinds}
use Rattle.px_xmp_markup.specs.Kinds as kinds
use Rattle.px_xmp_markup.specs.Nesting.{Content, AfterMisc, AfterData, AfterAlone, AfterElement, marks, AreMisc, IsRoot, AreRooted}
use Rattle.px_xmp_markup.specs.Nesting as nesting
use Rattle.px_xmp.specs.Tags.{tag_of, inside}
use Rattle.px_xmp.specs.Nodes.{Nodes, Nothing, Words, Element, AreWords, AreNodes}
use Rattle.px_xmp.specs.Laws.{FilesHaveNodes}

-- ---- texts

-- a section has no references, so that each of its octets means something
no_both : (b : Bool) → (b && false) ≡ true → ⊥
no_both true h = absurd (cc)
no_both false h = absurd (cc)

some_size : (b : Bool) → 1 ≤ cond b 2 1
some_size true = omega arith
some_size false = omega arith

section_piece : (o : ℕ) (x : List ℕ) → (q : List ℕ × ℕ) × (1 ≤ q.1) × (piece CdataSection (o ∷ x) ≡ Some q)
unfolding piece
section_piece o x = elim (cases_Bool ((o == 38) && has_references CdataSection)) [
  | inl t ↦ absurd (no_both (o == 38) t)
  | inr f ↦
      let e = cond-false ((o == 38) && has_references CdataSection) _ _ f in elim (cases_Bool (o == 13)) [
        | inl t ↦ ((10 ∷ [], cond (begins_with_feed x) 2 1), some_size (begins_with_feed x), e ∙ cond-true (o == 13) _ _ t)
        | inr g ↦
            let d = e ∙ cond-false (o == 13) _ _ g in elim (cases_Bool ((o == 9) || (o == 10))) [
              | inl t ↦ ((o ∷ [], 1), omega arith, d ∙ cond-true ((o == 9) || (o == 10)) _ _ t)
              | inr h ↦ ((o ∷ [], 1), omega arith, d ∙ cond-false ((o == 9) || (o == 10)) _ _ h)
            ]
      ]
]

section_text_in : (n : ℕ) (x : List ℕ) → length x ≤ n → (t : List ℕ) × (text_in n CdataSection x ≡ Some t)
unfolding text_in
section_text_in n [] few = ([], refl)
section_text_in zero (o ∷ x) few = absurd (omega (arith, few))
section_text_in (suc n) (o ∷ x) few =
    let (q, some, is) = section_piece o x in
    let (t, says) = section_text_in n (drop q.1 (o ∷ x)) (omega (arith, few, some, length-drop q.1 (o ∷ x))) in (
      q.0 ++ t,
      ap (λ (p : Option (List ℕ × ℕ)). option_and_then
          (λ (r : List ℕ × ℕ). option_map (λ (s : List ℕ). r.0 ++ s) (text_in n CdataSection (drop r.1 (o ∷ x)))) p) is
          ∙ ap (λ (p : Option (List ℕ)). option_map (λ (s : List ℕ). q.0 ++ s) p) says,
    )

section_text : (x : List ℕ) → (t : List ℕ) × (text_of CdataSection x ≡ Some t)
section_text x = section_text_in (length x) x (omega arith)

misc_words : FaultOrText → (m y : List ℕ) → kinds.IsKind Misc m y → (t : List ℕ) × AreWords t m y
misc_words law m y (inl comment) = ([], inr (inl comment, refl))
misc_words law m y (inr (inl instruction)) = ([], inr (inr instruction, refl))
misc_words law m y (inr (inr (text, spaces, ends))) =
    let (t, says) = (law CharacterData m).0 text.references in (t, inl (CharacterData, m, (text, ends, refl), says))

data_words : FaultOrText → (m y : List ℕ) → kinds.IsKind Data m y → (t : List ℕ) × AreWords t m y
data_words law m y (inl (content, section)) =
    let (t, says) = section_text content in (t, inl (CdataSection, content, section, says))
data_words law m y (inr (text, other, ends)) =
    let (t, says) = (law CharacterData m).0 text.references in (t, inl (CharacterData, m, (text, ends, refl), says))

-- ---- content

-- the marks of content are nodes, and others follow
content_nodes : FaultOrText → (c : Content) (ks : List Kind) (scope : List Item) (at : ℕ) (x y : List ℕ) → AreKinds (marks c ++ ks) x y
    → (nodes : Nodes) × (z : List ℕ) × AreNodes nodes scope at x z × AreKinds ks z y
content_nodes law nesting.Nothing ks scope at x y left = (Nothing, x, refl, left)
content_nodes law (AfterMisc more) ks scope at x y (m, rest, is, whole, others) =
    let (t, words) = misc_words law m rest is in
    let (nodes, z, row, left) = content_nodes law more ks scope (at + length m) rest y others in
    (Words t nodes, z, (m, rest, words, whole, row), left)
content_nodes law (AfterData more) ks scope at x y (m, rest, is, whole, others) =
    let (t, words) = data_words law m rest is in
    let (nodes, z, row, left) = content_nodes law more ks scope (at + length m) rest y others in
    (Words t nodes, z, (m, rest, words, whole, row), left)
content_nodes law (AfterAlone n more) ks scope at x y (m, rest, (attributes, start), whole, others) =
    let (nodes, z, row, left) = content_nodes law more ks scope (at + length m) rest y others in (
      Element (tag_of scope n attributes) at Nothing nodes,
      z,
      (n, attributes, m, rest, refl, refl, whole, inl (start, refl, row)),
      left,
    )
content_nodes law (AfterElement n inner more) ks scope at x y (m, rest, (attributes, start), whole, others) =
    let split : AreKinds (marks inner ++ (Closing n ∷ (marks more ++ ks))) rest y =
    subst (λ (q : List Kind). AreKinds q rest y) (append_assoc (marks inner) (Closing n ∷ marks more) ks) others in
    let (within, end, content, (e, tail, ends, joined, follow)) =
    content_nodes law inner (Closing n ∷ (marks more ++ ks)) (inside scope attributes) (at + length m) rest y split in
    let (nodes, z, row, left) = content_nodes law more ks scope (at + (length x - length tail)) tail y follow in (
      Element (tag_of scope n attributes) at within nodes,
      z,
      (
        n,
        attributes,
        m,
        rest,
        refl,
        refl,
        whole,
        inr (
          e,
          tail,
          start,
          subst (λ (q : List ℕ). AreNodes within (inside scope attributes) (at + length m) rest q) joined content,
          (n, ends),
          row,
        ),
      ),
      left,
    )

-- ---- the root

-- comments, instructions and white space before content
after_misc : (before : List Kind) (c : Content) → AreMisc before → (d : Content) × (before ++ marks c ≡ marks d)
after_misc [] c h = (c, refl)
after_misc (k ∷ more) c (e, h) =
    let (d, same) = after_misc more c h in
    (AfterMisc d, ap (λ (q : Kind). q ∷ (more ++ marks c)) e ∙ ap (λ (q : List Kind). Misc ∷ q) same)

root_content : (root after : List Kind) → IsRoot root → AreMisc after → (c : Content) × (root ++ after ≡ marks c)
root_content root after (inl (n, is)) h =
    let (d, same) = after_misc after nesting.Nothing h in (
      AfterAlone n d,
      ap (λ (q : List Kind). q ++ after) is ∙ ap (λ (q : List Kind). Alone n ∷ q) (sym (append-nil after) ∙ same),
    )
root_content root after (inr (n, inner, shallow, is)) h =
    let (d, same) = after_misc after nesting.Nothing h in (
      AfterElement n inner d,
      ap (λ (q : List Kind). q ++ after) is
          ∙ ap (λ (q : List Kind). Opening n ∷ q) (append_assoc (marks inner) (Closing n ∷ []) after)
          ∙ ap (λ (q : List Kind). Opening n ∷ (marks inner ++ Closing n ∷ q)) (sym (append-nil after) ∙ same),
    )

rooted_content : (ks : List Kind) → AreRooted ks → (c : Content) × (ks ≡ marks c)
rooted_content ks (before, root, after, first, is, last, whole) =
    let (c, same) = root_content root after is last in
    let (d, all) = after_misc before c first in
    (d, whole ∙ ap (λ (q : List Kind). before ++ q) same ∙ all)

pub files_have_nodes : FaultOrText → FilesHaveNodes
files_have_nodes law x start file =
    let (ks, marked, rooted) = file.elements.0 in
    let (c, same) = rooted_content ks rooted in
    let all : AreKinds (marks c ++ []) file.tree [] =
    subst (λ (q : List Kind). AreKinds q file.tree []) (same ∙ sym (append-nil (marks c))) marked in
    let (nodes, z, row, end) = content_nodes law c [] [] (start + (length x - length file.tree)) file.tree [] all in (
      nodes,
      record {
        declaration = file.declaration;
        encoding = file.encoding;
        tree = file.tree;
        parts = file.parts;
        row = subst (λ (q : List ℕ). AreNodes nodes [] (start + (length x - length file.tree)) file.tree q) end row;
      },
    )
