-- A normal packet that can be read is a packet, and its own form.
use Rattle.std.proofs.Common.{◌≡◌, ◌≤◌, ◌++◌, ◌∙◌, inl, inr, refl, ℕ, true, false, Option, Some, List, [], ◌∷◌, codes, length, sym, ap, subst, arith, append_assoc, append-nil, length-append}
use Rattle.std.specs.Prelude.{Err, IfSome}
use Rattle.px_bytes.specs.Parts.{limit}
use Rattle.px_xmp_text.specs.Values.{Content, written, normal_packet, packet_end}
use Rattle.px_xmp_document.specs.Document.{IsFile}
use Rattle.px_xmp_forms.specs.Causes.{IfWrong, FailsByMemory}
use Rattle.px_xmp_forms.specs.declared.faults.Cause.{Cause}
use Rattle.px_xmp_forms.specs.declared.faults.Refusal.{Refusal}
use Rattle.px_xmp_forms.specs.declared.faults.Refusal.TheVariants as refusals
use Rattle.px_xmp.specs.Packet.{is_padding, BeginsBare, EndsBare, IsPacket}
use Rattle.px_xmp.specs.Refusals.{IfRefused}
use Rattle.px_xmp.specs.Laws.{OneMeaning, FormsDecide, FormIsItsOwn, IsFormOf, IsFormOfPacket, IsReadableForm, SayTheSame}
use Rattle.px_xmp.specs.Accepted.{FormFits}
use Rattle.px_xmp.proofs.AroundLaws.{one_packet}
use Rattle.px_xmp.proofs.OrderLaws.{written_more}

not_padding : (o v : ℕ) → is_padding v ≡ true → is_padding o ≡ false → o ≡ v → ⊥
not_padding o v h k e = let same = sym k ∙ ap is_padding e ∙ h in absurd (cc)

abbrev first_of : List ℕ → ℕ
first_of [] = 0
first_of (o ∷ x) = o

begins_bare : (x : List ℕ) → BeginsBare (60 ∷ x)
begins_bare x m y (inl (o, pad, e)) w = not_padding 60 o pad refl (ap first_of (w ∙ ap (λ (z : List ℕ). z ++ y) e))
begins_bare x m y (inr e) w = let wrong : 60 ≡ 239 = ap first_of (w ∙ ap (λ (z : List ℕ). z ++ y) e) in absurd (omega (arith, wrong))

abbrev last_of : List ℕ → ℕ
last_of [] = 0
last_of (o ∷ []) = o
last_of (o ∷ p ∷ x) = last_of (p ∷ x)

last_append : (x : List ℕ) (o : ℕ) → last_of (x ++ o ∷ []) ≡ o
last_append [] o = refl
last_append (p ∷ []) o = refl
last_append (p ∷ q ∷ x) o = last_append (q ∷ x) o

ends_bare : (x : List ℕ) → EndsBare (x ++ 62 ∷ [])
ends_bare x o y pad w = not_padding 62 o pad refl (sym (last_append x 62) ∙ ap last_of w ∙ last_append y o)

abbrev front : Content → List ℕ
front c =
    codes "<x:xmpmeta xmlns:x=\"adobe:ns:meta/\"><rdf:RDF xmlns:rdf=\"http://www.w3.org/1999/02/22-rdf-syntax-ns#\">"
    ++ (codes "<rdf:Description rdf:about=\"\">" ++ (written c [] ++ codes "</rdf:Description></rdf:RDF></x:xmpmeta"))

front_end : (c : Content) → normal_packet c ≡ front c ++ 62 ∷ []
front_end c =
    ap (λ (z : List ℕ). codes "<x:xmpmeta xmlns:x=\"adobe:ns:meta/\"><rdf:RDF xmlns:rdf=\"http://www.w3.org/1999/02/22-rdf-syntax-ns#\">"
    ++ (codes "<rdf:Description rdf:about=\"\">" ++ z)) (written_more c packet_end ∙ sym (append_assoc (written c []) (codes "</rdf:Description></rdf:RDF></x:xmpmeta") (62 ∷ [])))

-- what is written is no longer than the packet
pub written_shorter : (c : Content) → length (written c []) ≤ length (normal_packet c)
written_shorter c =
    let whole : length (normal_packet c) ≡ length (front c ++ 62 ∷ []) = ap length (front_end c) in
    omega (
      arith,
      whole,
      length-append (front c) (62 ∷ []),
      length-append (written c []) (codes "</rdf:Description></rdf:RDF></x:xmpmeta"),
    )

-- octets are a packet with nothing around its document
pub record IsWhole (x : List ℕ) : Type 0 where
  pub packet : IsPacket x
  pub before : packet.before ≡ []
  pub document : packet.document ≡ x

pub form_packet : (c : Content) → IsFile (normal_packet c) → length (normal_packet c) ≤ limit → IsWhole (normal_packet c)
form_packet c file few =
    record {
      packet = record {
        before = [];
        document = normal_packet c;
        after = [];
        joined = sym (append-nil (normal_packet c));
        few = few;
        pieces = [];
        around = refl;
        padding = refl;
        first = begins_bare _;
        last = subst EndsBare (sym (front_end c)) (ends_bare (front c));
        file = file;
      };
      before = refl;
      document = refl;
    }

-- ---- its form

-- the form of octets is their own if they have one
same_form : OneMeaning → (x form : List ℕ) (start : ℕ) → IsFormOf x start form → IsFormOf x start x → form ≡ x
same_form once x form start (c, can, means, is) (d, could, says, own) = is ∙ ap normal_packet (once x start c d means says can could) ∙ sym own

-- it is the document, with nothing before it
own_parts : (c : Content) → IsFile (normal_packet c) → (x : List ℕ) → x ≡ normal_packet c → (p : IsPacket x) → (p.before ≡ []) × (p.document ≡ x)
own_parts c file x is p =
    subst (λ (z : List ℕ). (q : IsPacket z) → (q.before ≡ []) × (q.document ≡ z)) (sym is)
    (λ q. let whole = form_packet c file q.few in
    let (before, document, after) = one_packet (normal_packet c) q whole.packet in
    (before ∙ whole.before, document ∙ whole.document)) p

pub own_form : FormIsItsOwn → OneMeaning → (x form : List ℕ) → IsReadableForm x → IsFormOfPacket x form → form ≡ x
own_form law once x form (c, can, readable, is) (p, formed) =
    let (file, own) = law x (c, can, readable, is) in
    let (before, document) = own_parts c (subst IsFile is file) x is p in
    same_form once x form 0
    (subst (λ (z : List ℕ). IsFormOf z 0 form) document (subst (λ (n : ℕ). IsFormOf p.document n form) (ap length before) formed)) own

-- ---- another form with this form

-- two packets with one form mean the same
pub same_said : FormsDecide → (x y form : List ℕ) → IsFormOfPacket x form → IsFormOfPacket y form → SayTheSame x y
same_said law x y form (p, first) (q, second) =
    (p, q, (law p.document q.document (length p.before) (length q.before) form form first second).0 refl)

-- a form is its own form
its_form : FormIsItsOwn → (form : List ℕ) → FormFits form → IsFormOfPacket form form
its_form law form (c, can, readable, short, few, is) =
    let (file, own) = law form (c, can, readable, is) in
    let whole : IsWhole form =
    subst IsWhole (sym is) (form_packet c (subst IsFile is file) (subst (λ (z : List ℕ). length z ≤ limit) is few)) in (
      whole.packet,
      subst (λ (z : List ℕ). IsFormOf z (length whole.packet.before) form) (sym whole.document)
          (subst (λ (n : ℕ). IsFormOf form n form) (sym (ap length whole.before)) own),
    )

pub form_said : FormIsItsOwn → FormsDecide → (x form : List ℕ) → IsFormOfPacket x form → FormFits form → SayTheSame x form
form_said law decide x form is fits = same_said decide x form form is (its_form law form fits)

-- what holds of what is there
pub some_has : {X : Type 0} (o : Option X) (x : X) (P : X → Type 0) → o ≡ Some x → IfSome o P → P x
some_has {X} o x P e h = subst (λ (z : Option X). IfSome z P) e h

-- a call that fails only if memory runs out says of no packet that it is wrong, and refuses none
pub memory_wrong : (X Y : Type 0) (e : Refusal) (P : Type 0) → FailsByMemory {X = X} (Err e) → IfWrong {X = Y} (Err e) P
memory_wrong X Y (refusals.Content cause place) P h = absurd h
memory_wrong X Y refusals.OutOfMemory P h = tt

pub memory_refused : (X Y : Type 0) (e : Refusal) (P : Cause → ℕ → Type 0) → FailsByMemory {X = X} (Err e) → IfRefused {X = Y} (Err e) P
memory_refused X Y (refusals.Content cause place) P h = absurd h
memory_refused X Y refusals.OutOfMemory P h = tt
