-- Marks in a row: what is read is one, and each is read.
use Rattle.std.proofs.Common.{◌≡◌, ◌≢◌, ◌≤◌, ◌+◌, ◌==◌, ◌&&◌, ◌⊎◌, not, ℕ, zero, suc, Bool, true, false, cond, nat_eq, codes, List, [], ◌∷◌, ◌++◌, length, take, drop}
use Rattle.std.proofs.Common.{Option, Some, None, option_map, is_none, refl, sym, ap, subst, ◌∙◌, inl, inr, arith, length-append, length-drop}
use Rattle.std.proofs.lemmas.List.{drop_at, take_at, take-append-drop, length-take-le}
use Rattle.std.proofs.lemmas.Bool.{cases_Bool, cond-true, cond-false, ne_eqb}
use Rattle.std.specs.List.{AllByRecursion, starts_with}
use Rattle.px_xmp_text.specs.Texts.{first_fault}
use Rattle.px_xmp_text.specs.declared.pieces.TextKind.TheVariants.{CharacterData}
use Rattle.px_xmp_marks.specs.Reading.{Named, Attr, begins_with, ncname, name, Start, start_tag, End, end_tag}
use Rattle.px_xmp_marks.specs.Grammar.{IsStartTag, IsEndTag}
use Rattle.px_xmp_marks.specs.Sections.{find, section, HasNo, IsSection}
use Rattle.px_xmp_marks.specs.Comments.{comment, IsComment}
use Rattle.px_xmp_marks.specs.Instructions.{instruction, IsInstruction}
use Rattle.px_xmp_marks.specs.Marks.{data_len, text_len, or_else, tag_len, other_len, mark_len, IsText, EndsText, IsMark, AreMarks, MarksAreRead, OnlyMarksAreRead, RowOrFault}
use Rattle.px_xmp_marks.proofs.NameLaws.{Stops, run_all, run_is, some_same}
use Rattle.px_xmp_marks.proofs.TagLaws.{and_both, start_tags_are_read, only_start_tags_are_read, end_tags_are_read, only_end_tags_are_read}
use Rattle.px_xmp_marks.proofs.SectionLaws.{find_found, sections_are_read, only_sections_are_read}
use Rattle.px_xmp_marks.proofs.CommentLaws.{comments_are_read, only_comments_are_read}
use Rattle.px_xmp_marks.proofs.InstructionLaws.{instructions_are_read, only_instructions_are_read}

-- ---- character data

abbrev section_end : List ℕ
section_end = codes "]]>"

abbrev is_data : ℕ → Bool
is_data o = not (o == 60)

data_is : (o : ℕ) → not (o == 60) ≡ true → (o == 60) ≡ false
data_is o h = elim (cases_Bool (o == 60)) [
  | inr f ↦ f
  | inl t ↦ let e : false ≡ true = sym (ap not t) ∙ h in absurd (cc)
]

tag_is : (o : ℕ) → not (o == 60) ≡ false → (o == 60) ≡ true
tag_is o h = elim (cases_Bool (o == 60)) [
  | inl t ↦ t
  | inr f ↦ let e : true ≡ false = sym (ap not f) ∙ h in absurd (cc)
]

stops_data : (y : List ℕ) → EndsText y → Stops is_data y
stops_data y (inl e) = subst (Stops is_data) (sym e) tt
stops_data [] (inr h) = tt
stops_data (o ∷ y) (inr h) = ap not h

ends_data : (y : List ℕ) → Stops is_data y → EndsText y
ends_data [] s = inl refl
ends_data (o ∷ y) s = inr (tag_is o s)

find_nothing : (x : List ℕ) → HasNo section_end x → find section_end 0 x ≡ None
find_nothing x h = by_find (find section_end 0 x) refl
  where
    by_find : (q : Option ℕ) → find section_end 0 x ≡ q → q ≡ None
    by_find None e = refl
    by_find (Some n) e =
        let (k, at, r) = find_found section_end (λ b. refl) 0 x n e in absurd (h (take k x) (drop 3 (drop k x)) r.whole)

find_none : (w : List ℕ) → 1 ≤ length w → ((b : List ℕ) → starts_with nat_eq (w ++ b) w ≡ true) → (j : ℕ) (x : List ℕ) → find w j x ≡ None → HasNo w x
unfolding find
find_none w l s j [] e = λ a b h. absurd (omega (arith, l, ap length h, length-append a (w ++ b), length-append w b))
find_none w l s j (o ∷ x) e = elim (cases_Bool (starts_with nat_eq (o ∷ x) w)) [
  | inl t ↦ let g = sym (cond-true (starts_with nat_eq (o ∷ x) w) (Some j) (find w (suc j) x) t) ∙ e in absurd (cc)
  | inr f ↦
      after x f (find_none w l s (suc j) x (sym (cond-false (starts_with nat_eq (o ∷ x) w) (Some j) (find w (suc j) x) f) ∙ e))
]
  where
    after : (x : List ℕ) → starts_with nat_eq (o ∷ x) w ≡ false → HasNo w x → (a b : List ℕ) → o ∷ x ≡ a ++ (w ++ b) → ⊥
    after x f h [] b g = let t : true ≡ false = sym (s b) ∙ ap (λ (z : List ℕ). starts_with nat_eq z w) (sym g) ∙ f in absurd (cc)
    after x f h (c ∷ a) b g = h a b (ap (λ (z : List ℕ). drop 1 z) g)

abbrev is_text : List ℕ → Bool
is_text x = is_none (find section_end 0 x) && is_none (first_fault CharacterData x)

abbrev text_of_len : List ℕ → ℕ → Option ℕ
text_of_len x k = cond (k == 0) None (cond (is_text (take k x)) (Some k) None)

both_none : (p q : Option ℕ) → p ≡ None → q ≡ None → (is_none p && is_none q) ≡ true
both_none p q e f = ap (λ (r : Option ℕ). is_none r && is_none q) e ∙ ap is_none f

none_from : (q : Option ℕ) → is_none q ≡ true → q ≡ None
none_from None h = refl
none_from (Some n) h = absurd (cc)

text_reads : (x rest : List ℕ) → IsText x → EndsText rest → text_len (x ++ rest) ≡ Some (length x)
unfolding text_len
text_reads x rest i e =
    let n = length x in
    let some = i.some in
    ap (text_of_len (x ++ rest)) (run_all is_data x rest i.inside (stops_data rest e))
    ∙ cond-false (n == 0) None (cond (is_text (take n (x ++ rest))) (Some n) None) (ne_eqb n 0 (λ u. omega (arith, u, some)))
    ∙ ap (λ (u : List ℕ). cond (is_text u) (Some n) None) (take_at x rest n refl)
    ∙ cond-true (is_text x) (Some n) None (both_none (find section_end 0 x) (first_fault CharacterData x) (find_nothing x i.no_section_end) i.references)

-- what is read is a mark
abbrev FoundMark : List ℕ → ℕ → Type 0
FoundMark x n = (y rest : List ℕ) × (x ≡ y ++ rest) × (n ≡ length y) × IsMark y rest

some_octets : (k l : ℕ) → (k == 0) ≡ false → l ≡ k → 1 ≤ l
some_octets zero l f e = absurd (cc)
some_octets (suc k) l f e = omega (arith, e)

text_found : (x : List ℕ) (n : ℕ) → text_len x ≡ Some n → FoundMark x n
unfolding text_len
text_found x n h =
    let k = data_len x in
    let y = take k x in
    let r = run_is is_data x in
    let len = length-take-le k x r.inside in
    elim (cases_Bool (k == 0)) [
      | inl t ↦ let e = sym (cond-true (k == 0) None (cond (is_text y) (Some k) None) t) ∙ h in absurd (cc)
      | inr f ↦
          let g = sym (cond-false (k == 0) None (cond (is_text y) (Some k) None) f) ∙ h in
          elim (cases_Bool (is_text y)) [
            | inr u ↦ let e = sym (cond-false (is_text y) (Some k) None u) ∙ g in absurd (cc)
            | inl u ↦
                let b = and_both (is_none (find section_end 0 y)) (is_none (first_fault CharacterData y)) u in
                let same = some_same k n (sym (cond-true (is_text y) (Some k) None u) ∙ g) in
                let text : IsText y = record {
                  some = some_octets k (length y) f len;
                  inside = r.passes;
                  no_section_end = find_none section_end (omega arith) (λ b. refl) 0 y (none_from (find section_end 0 y) b.0);
                  references = none_from (first_fault CharacterData y) b.1;
                } in (
                  y,
                  drop k x,
                  sym (take-append-drop k x),
                  omega (arith, same, len),
                  inr (inr (inr (inr (inr (text, ends_data (drop k x) r.stops))))),
                )
          ]
    ]

-- ---- markup

markup : (z : List ℕ) (n : ℕ) → begins_with 60 z ≡ true → or_else (tag_len z) (other_len z) ≡ Some n → mark_len z ≡ Some n
unfolding mark_len
markup z n b e = cond-true (begins_with 60 z) (or_else (tag_len z) (other_len z)) (text_len z) b ∙ e

by_tag : (z : List ℕ) (n : ℕ) → begins_with 60 z ≡ true → tag_len z ≡ Some n → mark_len z ≡ Some n
by_tag z n b e = markup z n b (ap (λ (q : Option ℕ). or_else q (other_len z)) e)

by_other : (z : List ℕ) (n : ℕ) → begins_with 60 z ≡ true → tag_len z ≡ None → other_len z ≡ Some n → mark_len z ≡ Some n
by_other z n b e f = markup z n b (ap (λ (q : Option ℕ). or_else q (other_len z)) e ∙ f)

no_start : (z : List ℕ) → start_tag (60 ∷ 47 ∷ z) ≡ None
unfolding start_tag name ncname
no_start z = refl

-- neither a tag of an element nor its end
no_tag_33 : (z : List ℕ) → tag_len (60 ∷ 33 ∷ z) ≡ None
unfolding tag_len start_tag end_tag name ncname
no_tag_33 z = refl

no_tag_63 : (z : List ℕ) → tag_len (60 ∷ 63 ∷ z) ≡ None
unfolding tag_len start_tag end_tag name ncname
no_tag_63 z = refl

section_other : (z : List ℕ) → other_len (60 ∷ 33 ∷ 91 ∷ z) ≡ or_else (option_map (λ y. length y + 12) (section (60 ∷ 33 ∷ 91 ∷ z))) (instruction (60 ∷ 33 ∷ 91 ∷ z))
unfolding other_len comment
section_other z = refl

instruction_other : (z : List ℕ) → other_len (60 ∷ 63 ∷ z) ≡ instruction (60 ∷ 63 ∷ z)
unfolding other_len comment section
instruction_other z = refl

start_reads : (x rest : List ℕ) (n : Named) (a : List Attr) (b : Bool) → IsStartTag x n a b → tag_len (x ++ rest) ≡ Some (length x)
unfolding tag_len
start_reads x rest n a b i =
    let (t, e, named, attributes, empty, size) = start_tags_are_read x rest n a b i in
    ap (λ (q : Option Start). or_else (option_map (λ (s : Start). s.size) q) (option_map (λ (s : End). s.size) (end_tag (x ++ rest)))) e ∙ ap Some size

end_reads : (x rest : List ℕ) (n : Named) → IsEndTag x n → tag_len (x ++ rest) ≡ Some (length x)
unfolding tag_len
end_reads x rest n i =
    let (y, s, h, p, w) = i in
    let none : start_tag (x ++ rest) ≡ None = ap (λ (u : List ℕ). start_tag (u ++ rest)) w ∙ no_start ((y ++ (s ++ 62 ∷ [])) ++ rest) in
    ap (λ (q : Option Start). or_else (option_map (λ (s : Start). s.size) q) (option_map (λ (s : End). s.size) (end_tag (x ++ rest)))) none
    ∙ ap (option_map (λ (s : End). s.size)) (end_tags_are_read x rest n i)

comment_reads : (x rest content : List ℕ) → IsComment x content → other_len (x ++ rest) ≡ Some (length x)
unfolding other_len
comment_reads x rest content i =
    let z = x ++ rest in
    ap (λ (q : Option (List ℕ)). or_else (option_map (λ (y : List ℕ). length y + 7) q) (or_else (option_map (λ (y : List ℕ). length y + 12) (section z)) (instruction z))) (comments_are_read x rest content i)
    ∙ ap Some (omega (arith, ap length i.1, length-append content (codes "-->")))

section_reads : (x rest content : List ℕ) → IsSection x content → other_len (x ++ rest) ≡ Some (length x)
section_reads x rest content i =
    let z = codes "CDATA[" ++ ((content ++ codes "]]>") ++ rest) in
    let all : x ++ rest ≡ 60 ∷ 33 ∷ 91 ∷ z = ap (λ (u : List ℕ). u ++ rest) i.1 in
    ap other_len all ∙ section_other z
    ∙ ap (λ (q : Option (List ℕ)). or_else (option_map (λ (y : List ℕ). length y + 12) q) (instruction (60 ∷ 33 ∷ 91 ∷ z))) (ap section (sym all) ∙ sections_are_read x rest content i)
    ∙ ap Some (omega (arith, ap length i.1, length-append content (codes "]]>")))

instruction_reads : (x rest : List ℕ) → IsInstruction x → other_len (x ++ rest) ≡ Some (length x)
instruction_reads x rest i =
    let z = (i.target ++ (i.space ++ (i.content ++ codes "?>"))) ++ rest in
    let all : x ++ rest ≡ 60 ∷ 63 ∷ z = ap (λ (u : List ℕ). u ++ rest) i.whole in
    ap other_len all ∙ instruction_other z ∙ ap instruction (sym all) ∙ instructions_are_read x rest i

text_here : (x rest : List ℕ) → IsText x → EndsText rest → mark_len (x ++ rest) ≡ Some (length x)
unfolding mark_len
text_here x rest i e = by_first x i.inside (text_reads x rest i e) i.some
  where
    by_first : (x : List ℕ) → AllByRecursion (λ o. not (o == 60) ≡ true) x → text_len (x ++ rest) ≡ Some (length x) → 1 ≤ length x
        → cond (begins_with 60 (x ++ rest)) (or_else (tag_len (x ++ rest)) (other_len (x ++ rest))) (text_len (x ++ rest)) ≡ Some (length x)
    by_first [] p t l = absurd (omega (arith, l))
    by_first (o ∷ x) p t l = cond-false (o == 60) (or_else (tag_len (o ∷ (x ++ rest))) (other_len (o ∷ (x ++ rest)))) (text_len (o ∷ (x ++ rest))) (data_is o p.0) ∙ t

pub marks_are_read : MarksAreRead
marks_are_read x rest (inl (n, a, b, i)) =
    let (y, z, h, k, w) = i in
    by_tag (x ++ rest) (length x) (ap (λ (u : List ℕ). begins_with 60 (u ++ rest)) w) (start_reads x rest n a b i)
marks_are_read x rest (inr (inl (n, i))) =
    let (y, s, h, p, w) = i in
    by_tag (x ++ rest) (length x) (ap (λ (u : List ℕ). begins_with 60 (u ++ rest)) w) (end_reads x rest n i)
marks_are_read x rest (inr (inr (inl (content, i)))) =
    let none : tag_len (x ++ rest) ≡ None = ap (λ (u : List ℕ). tag_len (u ++ rest)) i.1 ∙ no_tag_33 (codes "--" ++ ((content ++ codes "-->") ++ rest)) in
    by_other (x ++ rest) (length x) (ap (λ (u : List ℕ). begins_with 60 (u ++ rest)) i.1) none (comment_reads x rest content i)
marks_are_read x rest (inr (inr (inr (inl (content, i))))) =
    let none : tag_len (x ++ rest) ≡ None = ap (λ (u : List ℕ). tag_len (u ++ rest)) i.1 ∙ no_tag_33 (codes "[CDATA[" ++ ((content ++ codes "]]>") ++ rest)) in
    by_other (x ++ rest) (length x) (ap (λ (u : List ℕ). begins_with 60 (u ++ rest)) i.1) none (section_reads x rest content i)
marks_are_read x rest (inr (inr (inr (inr (inl i))))) =
    let none : tag_len (x ++ rest) ≡ None =
    ap (λ (u : List ℕ). tag_len (u ++ rest)) i.whole ∙ no_tag_63 ((i.target ++ (i.space ++ (i.content ++ codes "?>"))) ++ rest) in
    by_other (x ++ rest) (length x) (ap (λ (u : List ℕ). begins_with 60 (u ++ rest)) i.whole) none (instruction_reads x rest i)
marks_are_read x rest (inr (inr (inr (inr (inr (i, e)))))) = text_here x rest i e

-- ---- what is read is a mark

or_split : (a b : Option ℕ) (n : ℕ) → or_else a b ≡ Some n → (a ≡ Some n) ⊎ (b ≡ Some n)
or_split None b n e = inr e
or_split (Some m) b n e = inl e

tag_found : (x : List ℕ) (n : ℕ) → tag_len x ≡ Some n → FoundMark x n
unfolding tag_len
tag_found x n h = elim (or_split (option_map (λ (s : Start). s.size) (start_tag x)) (option_map (λ (s : End). s.size) (end_tag x)) n h) [
  | inl e ↦ by_start (start_tag x) refl e
  | inr e ↦ by_end (end_tag x) refl e
]
  where
    by_start : (q : Option Start) → start_tag x ≡ q → option_map (λ (s : Start). s.size) q ≡ Some n → FoundMark x n
    by_start None e g = absurd (cc)
    by_start (Some t) e g =
        let same = some_same t.size n g in
        let (y, rest, attributes, whole, size, has, is) = only_start_tags_are_read x t e in
        (y, rest, whole, sym same ∙ size, inl (t.name, attributes, t.is_empty, is))

    by_end : (q : Option End) → end_tag x ≡ q → option_map (λ (s : End). s.size) q ≡ Some n → FoundMark x n
    by_end None e g = absurd (cc)
    by_end (Some t) e g =
        let same = some_same t.size n g in
        let (y, rest, whole, size, is) = only_end_tags_are_read x t e in
        (y, rest, whole, sym same ∙ size, inr (inl (t.name, is)))

other_found : (x : List ℕ) (n : ℕ) → other_len x ≡ Some n → FoundMark x n
unfolding other_len
other_found x n h =
    elim (or_split (option_map (λ (y : List ℕ). length y + 7) (comment x)) (or_else (option_map (λ (y : List ℕ). length y + 12) (section x)) (instruction x)) n h) [
      | inl e ↦ by_comment (comment x) refl e
      | inr e ↦ elim (or_split (option_map (λ (y : List ℕ). length y + 12) (section x)) (instruction x) n e) [
        | inl f ↦ by_section (section x) refl f
        | inr f ↦
            let (y, rest, whole, size, is) = only_instructions_are_read x n f in
            (y, rest, whole, size, inr (inr (inr (inr (inl is)))))
      ]
    ]
  where
    by_comment : (q : Option (List ℕ)) → comment x ≡ q → option_map (λ (y : List ℕ). length y + 7) q ≡ Some n → FoundMark x n
    by_comment None e g = absurd (cc)
    by_comment (Some c) e g =
        let same = some_same (length c + 7) n g in
        let (y, rest, whole, is) = only_comments_are_read x c e in
        (y, rest, whole, omega (arith, same, ap length is.1, length-append c (codes "-->")), inr (inr (inl (c, is))))

    by_section : (q : Option (List ℕ)) → section x ≡ q → option_map (λ (y : List ℕ). length y + 12) q ≡ Some n → FoundMark x n
    by_section None e g = absurd (cc)
    by_section (Some c) e g =
        let same = some_same (length c + 12) n g in
        let (y, rest, whole, is) = only_sections_are_read x c e in
        (y, rest, whole, omega (arith, same, ap length is.1, length-append c (codes "]]>")), inr (inr (inr (inl (c, is)))))

pub only_marks_are_read : OnlyMarksAreRead
unfolding mark_len
only_marks_are_read x n h = elim (cases_Bool (begins_with 60 x)) [
  | inl t ↦
      elim (or_split (tag_len x) (other_len x) n (sym (cond-true (begins_with 60 x) (or_else (tag_len x) (other_len x)) (text_len x) t) ∙ h)) [
        | inl e ↦ tag_found x n e
        | inr e ↦ other_found x n e
      ]
  | inr f ↦ text_found x n (sym (cond-false (begins_with 60 x) (or_else (tag_len x) (other_len x)) (text_len x) f) ∙ h)
]

-- ---- marks in a row

abbrev NoMark : List ℕ → Type 0
NoMark x = (m rest : List ℕ) → IsMark m rest → x ≢ m ++ rest

pub no_mark : (x : List ℕ) → mark_len x ≡ None → NoMark x
no_mark x h m rest i e = let a = sym h ∙ ap mark_len e ∙ marks_are_read m rest i in absurd (cc)

row_le : (ms : List (List ℕ)) (x y : List ℕ) → AreMarks ms x y → length y ≤ length x
row_le [] x y e = omega (arith, ap length e)
row_le (m ∷ ms) x y (rest, i, w, more) = let l = row_le ms rest y more in omega (arith, l, ap length w, length-append m rest)

-- a row ends where no mark is, or before
aligned : (ms ns : List (List ℕ)) (x y z : List ℕ) → AreMarks ms x y → AreMarks ns x z → NoMark y → length y ≤ length z
aligned [] [] x y z p q n = omega (arith, ap length p, ap length q)
aligned [] (k ∷ ns) x y z p (r, i, w, more) n = absurd (n k r i (sym p ∙ w))
aligned (m ∷ ms) [] x y z p q n = let l = row_le (m ∷ ms) x y p in omega (arith, l, ap length q)
aligned (m ∷ ms) (k ∷ ns) x y z (r, i, w, more) (s, j, v, rest) n =
    let size : length m ≡ length k = some_same (length m) (length k) (sym (marks_are_read m r i) ∙ ap mark_len (sym w ∙ v) ∙ marks_are_read k s j) in
    let same : r ≡ s = sym (drop_at m r (length m) refl) ∙ ap (drop (length m)) (sym w ∙ v) ∙ drop_at k s (length m) (sym size) in
    aligned ms ns s y z (subst (λ (u : List ℕ). AreMarks ms u y) same more) rest n

pub row_or_fault : RowOrFault
row_or_fault x m h = (
  λ a.
      let within = h.within in
      let low = aligned h.marks a.0 x (drop m x) [] h.before a.1 h.none in
      absurd (omega (arith, low, within, length-drop m x)),
  λ n g.
      let w = h.within in
      let v = g.within in
      let low = aligned h.marks g.marks x (drop m x) (drop n x) h.before g.before h.none in
      let high = aligned g.marks h.marks x (drop n x) (drop m x) g.before h.before g.none in
      omega (arith, low, high, w, v, length-drop m x, length-drop n x),
)

-- one mark more
pub row_more : (ms : List (List ℕ)) (x y m rest : List ℕ) → AreMarks ms x y → y ≡ m ++ rest → IsMark m rest → (ns : List (List ℕ)) × AreMarks ns x rest
row_more [] x y m rest p e i = (m ∷ [], (rest, i, p ∙ e, refl))
row_more (k ∷ ms) x y m rest (r, j, w, more) e i =
    let (ns, q) = row_more ms r y m rest more e i in (k ∷ ns, (r, j, w, q))

-- the next mark of a row
pub row_step : (x : List ℕ) (at n : ℕ) → (ms : List (List ℕ)) × AreMarks ms x (drop at x) → mark_len (drop at x) ≡ Some n
    → (ns : List (List ℕ)) × AreMarks ns x (drop n (drop at x))
row_step x at n (ms, p) h =
    let (m, rest, whole, size, is) = only_marks_are_read (drop at x) n h in
    let left : drop n (drop at x) ≡ rest = ap (drop n) whole ∙ drop_at m rest n (sym size) in
    subst (λ (u : List ℕ). (ns : List (List ℕ)) × AreMarks ns x u) (sym left) (row_more ms x (drop at x) m rest p whole is)

-- ---- start tags

begins_tag : (x : List ℕ) (t : Start) → start_tag x ≡ Some t → begins_with 60 x ≡ true
unfolding start_tag
begins_tag x t h = elim (cases_Bool (begins_with 60 x)) [
  | inl a ↦ a
  | inr f ↦ let e = sym (cond-false (begins_with 60 x) _ _ f) ∙ h in absurd (cc)
]

-- a start tag is a mark
pub tag_mark : (x : List ℕ) (t : Start) → start_tag x ≡ Some t → mark_len x ≡ Some t.size
unfolding mark_len tag_len
tag_mark x t h =
    cond-true (begins_with 60 x) (or_else (tag_len x) (other_len x)) (text_len x) (begins_tag x t h)
    ∙ ap (λ (q : Option Start). or_else (or_else (option_map (λ (s : Start). s.size) q) (option_map (λ (s : End). s.size) (end_tag x))) (other_len x)) h
