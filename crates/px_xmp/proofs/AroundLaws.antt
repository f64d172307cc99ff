-- What is around the document of a packet is given by its octets.
use Rattle.std.proofs.Common.{◌≡◌, ◌+◌, ◌++◌, ◌∙◌, inl, inr, refl, ℕ, true, List, [], ◌∷◌, take, drop, sym, ap, subst, append_assoc, append-nil}
use Rattle.std.proofs.Math.Seq.{take-add}
use Rattle.std.proofs.lemmas.Bool.{both_ways, and_parts}
use Rattle.px_xmp_marks.specs.Declarations.{every}
use Rattle.px_xmp.specs.Packet.{is_padding, IsAround, AreAround, BeginsBare, EndsBare, IsPacket}
use Rattle.px_xmp.specs.Laws.{OnePacket}
use Rattle.px_xmp.specs.calls.Around.{BeginsAround}

cons_same : (o v : ℕ) (x y : List ℕ) → o ∷ x ≡ v ∷ y → (o ≡ v) × (x ≡ y)
cons_same o v x y h = (cc, cc)

-- ---- pieces, one after another

around_more : (ps : List (List ℕ)) (a m : List ℕ) → AreAround ps a → IsAround m → AreAround (ps ++ m ∷ []) (a ++ m)
around_more [] a m e i = (i, [], ap (λ (z : List ℕ). z ++ m) e ∙ sym (append-nil m), refl)
around_more (p ∷ ps) a m (j, rest, w, r) i = (j, rest ++ m, ap (λ (z : List ℕ). z ++ m) w ∙ append_assoc p rest m, around_more ps rest m r i)

around_step : (ps : List (List ℕ)) (x y : List ℕ) (at n : ℕ) → y ≡ drop at x → AreAround ps (take at x) → IsAround (take n y)
    → (qs : List (List ℕ)) × AreAround qs (take (at + n) x)
around_step ps x y at n w a i =
    let whole : take at x ++ take n y ≡ take (at + n) x = ap (λ (z : List ℕ). take at x ++ take n z) w ∙ sym (take-add at n x) in
    (ps ++ take n y ∷ [], subst (λ (z : List ℕ). AreAround (ps ++ take n y ∷ []) z) whole (around_more ps (take at x) (take n y) a i))

pub around_on : (ps : List (List ℕ)) (x y : List ℕ) (at n : ℕ) → y ≡ drop at x → AreAround ps (take at x) → BeginsAround y n → (n ≡ 0 → ⊥)
    → (qs : List (List ℕ)) × AreAround qs (take (at + n) x)
around_on ps x y at n w a (inl (none, bare)) some = absurd (some none)
around_on ps x y at n w a (inr (more, i)) some = around_step ps x y at n w a i

-- ---- one packet

abbrev mark : List ℕ
mark = 239 ∷ 187 ∷ 191 ∷ []

piece_once : (p q x y : List ℕ) → IsAround p → IsAround q → p ++ x ≡ q ++ y → (p ≡ q) × (x ≡ y)
piece_once p q x y (inl (o, f, e)) (inl (v, g, h)) w =
    let (same, rest) = cons_same o v x y (ap (λ (z : List ℕ). z ++ x) (sym e) ∙ w ∙ ap (λ (z : List ℕ). z ++ y) h) in
    (e ∙ ap (λ (k : ℕ). k ∷ []) same ∙ sym h, rest)
piece_once p q x y (inl (o, f, e)) (inr h) w =
    let (same, rest) = cons_same o 239 x (187 ∷ 191 ∷ y) (ap (λ (z : List ℕ). z ++ x) (sym e) ∙ w ∙ ap (λ (z : List ℕ). z ++ y) h) in
    absurd (both_ways (is_padding o) (ap is_padding same) f)
piece_once p q x y (inr e) (inl (v, g, h)) w =
    let (same, rest) = cons_same 239 v (187 ∷ 191 ∷ x) y (ap (λ (z : List ℕ). z ++ x) (sym e) ∙ w ∙ ap (λ (z : List ℕ). z ++ y) h) in
    absurd (both_ways (is_padding v) (ap is_padding (sym same)) g)
piece_once p q x y (inr e) (inr h) w =
    let whole : mark ++ x ≡ mark ++ y = ap (λ (z : List ℕ). z ++ x) (sym e) ∙ w ∙ ap (λ (z : List ℕ). z ++ y) h in
    (e ∙ sym h, ap (drop 3) whole)

pub around_once : (ps qs : List (List ℕ)) (a b c d : List ℕ) → AreAround ps a → AreAround qs b → a ++ c ≡ b ++ d → BeginsBare c → BeginsBare d
    → (a ≡ b) × (c ≡ d)
around_once [] [] a b c d e f w s t =
    (e ∙ sym f, ap (λ (z : List ℕ). z ++ c) (sym e) ∙ w ∙ ap (λ (z : List ℕ). z ++ d) f)
around_once [] (q ∷ qs) a b c d e (i, rest, v, r) w s t =
    absurd (s q (rest ++ d) i (ap (λ (z : List ℕ). z ++ c) (sym e) ∙ w ∙ ap (λ (z : List ℕ). z ++ d) v ∙ append_assoc q rest d))
around_once (p ∷ ps) [] a b c d (i, rest, v, r) f w s t =
    absurd (t p (rest ++ c) i (ap (λ (z : List ℕ). z ++ d) (sym f) ∙ sym w ∙ ap (λ (z : List ℕ). z ++ c) v ∙ append_assoc p rest c))
around_once (p ∷ ps) (q ∷ qs) a b c d (i, rest, v, r) (j, tail, u, k) w s t =
    let whole : p ++ (rest ++ c) ≡ q ++ (tail ++ d) =
    sym (append_assoc p rest c) ∙ ap (λ (z : List ℕ). z ++ c) (sym v) ∙ w ∙ ap (λ (z : List ℕ). z ++ d) u ∙ append_assoc q tail d in
    let (same, after) = piece_once p q (rest ++ c) (tail ++ d) i j whole in
    let (others, end) = around_once ps qs rest tail c d r k after s t in
    (v ∙ ap (λ (z : List ℕ). z ++ rest) same ∙ ap (λ (z : List ℕ). q ++ z) others ∙ sym u, end)

tail_bare : (o : ℕ) (x : List ℕ) → EndsBare (o ∷ x) → EndsBare x
tail_bare o x h p y pad w = h p (o ∷ y) pad (ap (λ (z : List ℕ). o ∷ z) w)

padded_end : (o : ℕ) (b d : List ℕ) → every is_padding ((o ∷ b) ++ d) ≡ true → EndsBare (o ∷ b) → ⊥
padded_end o [] d h s = s o [] (and_parts (is_padding o) (every is_padding d) h).0 refl
padded_end o (v ∷ b) d h s = padded_end v b d (and_parts (is_padding o) (every is_padding ((v ∷ b) ++ d)) h).1 (tail_bare o (v ∷ b) s)

pub padding_once : (a b c d : List ℕ) → a ++ c ≡ b ++ d → every is_padding c ≡ true → every is_padding d ≡ true → EndsBare a → EndsBare b
    → (a ≡ b) × (c ≡ d)
padding_once [] [] c d w e f s t = (refl, w)
padding_once [] (o ∷ b) c d w e f s t = absurd (padded_end o b d (ap (every is_padding) (sym w) ∙ e) t)
padding_once (o ∷ a) [] c d w e f s t = absurd (padded_end o a c (ap (every is_padding) w ∙ f) s)
padding_once (o ∷ a) (v ∷ b) c d w e f s t =
    let (same, rest) = cons_same o v (a ++ c) (b ++ d) w in
    let (others, end) = padding_once a b c d rest e f (tail_bare o a s) (tail_bare v b t) in
    (ap (λ (k : ℕ). k ∷ a) same ∙ ap (λ (z : List ℕ). v ∷ z) others, end)

-- these are the parts of each packet of the same octets
pub packet_is : (x b d a : List ℕ) (pieces : List (List ℕ)) → x ≡ b ++ (d ++ a) → AreAround pieces b → every is_padding a ≡ true
    → BeginsBare (d ++ a) → EndsBare d → (p : IsPacket x) → (p.before ≡ b) × (p.document ≡ d) × (p.after ≡ a)
packet_is x b d a pieces joined around padding first last p =
    let (before, rest) = around_once p.pieces pieces p.before b (p.document ++ p.after) (d ++ a) p.around around
    (sym (append_assoc p.before p.document p.after) ∙ sym p.joined ∙ joined) p.first first in
    let (document, after) = padding_once p.document d p.after a rest p.padding padding p.last last in
    (before, document, after)

pub one_packet : OnePacket
one_packet x p q =
    packet_is x q.before q.document q.after q.pieces (q.joined ∙ append_assoc q.before q.document q.after) q.around q.padding q.first q.last p
