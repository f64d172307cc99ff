-- Each mark is read as what it is.
use Rattle.std.proofs.Common.{◌≡◌, ◌+◌, ◌==◌, ◌&&◌, ℕ, Bool, true, false, not, is_none, if◌then◌else◌, codes, suc}
use Rattle.std.proofs.Common.{Option, Some, None, option_map, List, [], ◌∷◌, ◌++◌, length, take, refl, sym, ap, ◌∙◌, inl, inr, arith}
use Rattle.std.proofs.lemmas.List.{take_at, length-append}
use Rattle.std.proofs.lemmas.Bool.{ne_eqb}
use Rattle.std.proofs.lemmas.Option.{same_Some}
use Rattle.px_xmp_text.specs.Texts.{first_fault}
use Rattle.px_xmp_text.specs.declared.pieces.TextKind.TheVariants.{CharacterData, CdataSection, AttributeValue}
use Rattle.px_xmp_marks.specs.Reading.{Named, ncname, name, Start, start_tag, End, end_tag}
use Rattle.px_xmp_marks.specs.Grammar.{closing}
use Rattle.px_xmp_marks.specs.Laws.{StartTagsAreRead, EndTagsAreRead}
use Rattle.px_xmp_marks.specs.Sections.{find, section, SectionsAreRead}
use Rattle.px_xmp_marks.specs.Comments.{comment, CommentsAreRead}
use Rattle.px_xmp_marks.specs.Instructions.{instruction, InstructionsAreRead}
use Rattle.px_xmp_marks.specs.Marks.{data_len, text_len, or_else, tag_len, other_len, mark_len, IsText, EndsText, MarksAreRead}
use Rattle.px_xmp.specs.Marks as marks
use Rattle.px_xmp.specs.Laws.{KindsAreRead}
use Rattle.px_xmp.specs.Reading.{Tag, End as Ended, Words, Other, Read, or_read, data_read, section_read, comment_read, instruction_read, other_read, tag_read, read}

-- ---- tags

read_tag : (z : List ℕ) (r : Read) → tag_read (60 ∷ z) ≡ Some r → read (60 ∷ z) ≡ Some r
unfolding read
read_tag z r e = ap (λ (q : Option Read). or_read q (other_read (60 ∷ z))) e

read_other : (z : List ℕ) (r : Read) → tag_read (60 ∷ z) ≡ None → other_read (60 ∷ z) ≡ Some r → read (60 ∷ z) ≡ Some r
unfolding read
read_other z r n e = ap (λ (q : Option Read). or_read q (other_read (60 ∷ z))) n ∙ e

tag_started : (x : List ℕ) (t : Start) → start_tag x ≡ Some t → tag_read x ≡ Some (record { what = Tag t; size = t.size })
unfolding tag_read
tag_started x t e =
    ap (λ (q : Option Start). or_read (option_map (λ u. record { what = Tag u; size = u.size }) q)
    (option_map (λ u. record { what = Ended; size = u.size }) (end_tag x))) e

tag_ended : (z : List ℕ) (u : End) → end_tag (60 ∷ 47 ∷ z) ≡ Some u → tag_read (60 ∷ 47 ∷ z) ≡ Some (record { what = Ended; size = u.size })
unfolding tag_read start_tag name ncname
tag_ended z u e = ap (λ (q : Option End). option_map (λ (t : End). record { what = Ended; size = t.size }) q) e

no_tag_33 : (z : List ℕ) → tag_read (60 ∷ 33 ∷ z) ≡ None
unfolding tag_read start_tag end_tag name ncname
no_tag_33 z = refl

no_tag_63 : (z : List ℕ) → tag_read (60 ∷ 63 ∷ z) ≡ None
unfolding tag_read start_tag end_tag name ncname
no_tag_63 z = refl

-- ---- others

section_first : (x y : List ℕ) → section x ≡ Some y → other_read x ≡ Some (record { what = Words CdataSection y; size = length y + 12 })
unfolding other_read section_read
section_first x y e =
    ap (λ (q : Option (List ℕ)). or_read (option_map (λ v. record { what = Words CdataSection v; size = length v + 12 }) q)
    (or_read (comment_read x) (instruction_read x))) e

comment_first : (z y : List ℕ) → comment (60 ∷ 33 ∷ 45 ∷ z) ≡ Some y
    → other_read (60 ∷ 33 ∷ 45 ∷ z) ≡ Some (record { what = Other; size = length y + 7 })
unfolding other_read section_read comment_read section
comment_first z y e =
    ap (λ (q : Option (List ℕ)). or_read (option_map (λ v. record { what = Other; size = length v + 7 }) q) (instruction_read (60 ∷ 33 ∷ 45 ∷ z))) e

instruction_first : (z : List ℕ) (n : ℕ) → instruction (60 ∷ 63 ∷ z) ≡ Some n
    → other_read (60 ∷ 63 ∷ z) ≡ Some (record { what = Other; size = n })
unfolding other_read section_read comment_read instruction_read section comment
instruction_first z n e = ap (λ (q : Option ℕ). option_map (λ (m : ℕ). record { what = Other; size = m }) q) e

-- ---- texts

text_is : (a b : Bool) (d n : ℕ) → (if a then None else if b then Some d else None) ≡ Some n → d ≡ n
text_is true b d n h = absurd (cc)
text_is false true d n h = same_Some d n h
text_is false false d n h = absurd (cc)

data_is : (x : List ℕ) (n : ℕ) → text_len x ≡ Some n → data_len x ≡ n
unfolding text_len
data_is x n h =
    text_is (data_len x == 0) (is_none (find (codes "]]>") 0 (take (data_len x) x)) && is_none (first_fault CharacterData (take (data_len x) x)))
    (data_len x) n h

read_data : (o : ℕ) (z : List ℕ) → (o == 60) ≡ false → read (o ∷ z) ≡ data_read (o ∷ z)
unfolding read
read_data o z h = ap (λ (b : Bool). if b then or_read (tag_read (o ∷ z)) (other_read (o ∷ z)) else data_read (o ∷ z)) h

data_mark : (o : ℕ) (z : List ℕ) (n : ℕ) → (o == 60) ≡ false → mark_len (o ∷ z) ≡ Some n → data_len (o ∷ z) ≡ n
unfolding mark_len
data_mark o z n h e = data_is (o ∷ z) n (sym (ap (λ (b : Bool). if b then or_else (tag_len (o ∷ z)) (other_len (o ∷ z)) else text_len (o ∷ z)) h) ∙ e)

abbrev data_or : Bool → ℕ → List ℕ → Option Read
data_or b k y = if b then None else Some (record { what = Words CharacterData (take k y); size = k })

data_some : (y : List ℕ) (n : ℕ) → data_len y ≡ n → (n == 0) ≡ false
    → data_read y ≡ Some (record { what = Words CharacterData (take n y); size = n })
unfolding data_read
data_some y n e h = ap (λ (k : ℕ). data_or (k == 0) k y) e ∙ ap (λ (b : Bool). data_or b n y) h

positive : (n : ℕ) → (suc n == 0) ≡ false
positive n = ne_eqb (suc n) 0 (λ u. omega (arith, u))

text_here : MarksAreRead → (x rest : List ℕ) → IsText x → EndsText rest
    → read (x ++ rest) ≡ Some (record { what = Words CharacterData (take (length x) (x ++ rest)); size = length x })
text_here law [] rest text ends = absurd (omega (arith, text.some))
text_here law (o ∷ x) rest text ends =
    let other : (o == 60) ≡ false = no_60 (o == 60) text.inside.0 in
    read_data o (x ++ rest) other
    ∙ data_some (o ∷ (x ++ rest)) (length (o ∷ x))
    (data_mark o (x ++ rest) (length (o ∷ x)) other (law (o ∷ x) rest (inr (inr (inr (inr (inr (text, ends)))))))) (positive (length x))
  where
    no_60 : (b : Bool) → not b ≡ true → b ≡ false
    no_60 true h = absurd (cc)
    no_60 false h = refl

pub kinds_are_read : MarksAreRead → StartTagsAreRead → EndTagsAreRead → SectionsAreRead → CommentsAreRead → InstructionsAreRead → KindsAreRead
kinds_are_read law starts ends sections comments instructions (marks.Start n attributes empty) x rest (y, z, named, has, whole) =
    let (t, e, same, listed, alone, size) = starts x rest n attributes empty (y, z, named, has, whole) in
    let w : x ++ rest ≡ 60 ∷ ((y ++ (z ++ closing empty)) ++ rest) = ap (λ (u : List ℕ). u ++ rest) whole in (
      record { what = Tag t; size = t.size },
      ap read w ∙ read_tag ((y ++ (z ++ closing empty)) ++ rest) (record { what = Tag t; size = t.size }) (tag_started _ t (ap start_tag (sym w) ∙ e)),
      size,
      (
        attributes,
        listed,
        ap (λ (m : Named). marks.Start m attributes empty) (sym same) ∙ ap (λ (b : Bool). marks.Start t.name attributes b) (sym alone),
      ),
    )
kinds_are_read law starts ends sections comments instructions marks.End x rest (n, (y, s, named, spaced, whole)) =
    let w : x ++ rest ≡ 60 ∷ 47 ∷ ((y ++ (s ++ 62 ∷ [])) ++ rest) = ap (λ (u : List ℕ). u ++ rest) whole in
    let tail = (y ++ (s ++ 62 ∷ [])) ++ rest in
    let e = ends x rest n (y, s, named, spaced, whole) in (
      record { what = Ended; size = length x },
      ap read w ∙ read_tag (47 ∷ tail) (record { what = Ended; size = length x })
          (tag_ended tail (record { name = n; size = length x }) (ap end_tag (sym w) ∙ e)),
      refl,
      refl,
    )
kinds_are_read law starts ends sections comments instructions (marks.Text CharacterData octets) x rest (text, ended, same) = (
  record { what = Words CharacterData (take (length x) (x ++ rest)); size = length x },
  text_here law x rest text ended,
  refl,
  ap (λ (u : List ℕ). marks.Text CharacterData u) (same ∙ sym (take_at x rest (length x) refl)),
)
kinds_are_read law starts ends sections comments instructions (marks.Text CdataSection content) x rest (none, whole) =
    let tail = (content ++ codes "]]>") ++ rest in
    let w : x ++ rest ≡ codes "<![CDATA[" ++ tail = ap (λ (u : List ℕ). u ++ rest) whole in
    let e : section (codes "<![CDATA[" ++ tail) ≡ Some content = ap section (sym w) ∙ sections x rest content (none, whole) in
    let found : Read = record { what = Words CdataSection content; size = length content + 12 } in (
      found,
      ap read w ∙ read_other (33 ∷ (codes "[CDATA[" ++ tail)) found (no_tag_33 (codes "[CDATA[" ++ tail))
          (section_first (codes "<![CDATA[" ++ tail) content e),
      omega (arith, ap length whole, length-append content (codes "]]>")),
      refl,
    )
kinds_are_read law starts ends sections comments instructions (marks.Text AttributeValue content) x rest i = absurd i
kinds_are_read law starts ends sections comments instructions marks.Other x rest (inl (content, (none, whole))) =
    let tail = (content ++ codes "-->") ++ rest in
    let w : x ++ rest ≡ codes "<!--" ++ tail = ap (λ (u : List ℕ). u ++ rest) whole in
    let e : comment (codes "<!--" ++ tail) ≡ Some content = ap comment (sym w) ∙ comments x rest content (none, whole) in
    let found : Read = record { what = Other; size = length content + 7 } in (
      found,
      ap read w ∙ read_other (33 ∷ (codes "--" ++ tail)) found (no_tag_33 (codes "--" ++ tail)) (comment_first (45 ∷ tail) content e),
      omega (arith, ap length whole, length-append content (codes "-->")),
      refl,
    )
kinds_are_read law starts ends sections comments instructions marks.Other x rest (inr i) =
    let tail = (i.target ++ (i.space ++ (i.content ++ codes "?>"))) ++ rest in
    let w : x ++ rest ≡ codes "<?" ++ tail = ap (λ (u : List ℕ). u ++ rest) i.whole in
    let e : instruction (codes "<?" ++ tail) ≡ Some (length x) = ap instruction (sym w) ∙ instructions x rest i in
    let found : Read = record { what = Other; size = length x } in (
      found,
      ap read w ∙ read_other (63 ∷ tail) found (no_tag_63 tail) (instruction_first tail (length x) e),
      refl,
      refl,
    )
